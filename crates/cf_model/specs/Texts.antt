-- Names, in a form that computes: std's test for UTF-8 is abstract, and this is the same.
use Rattle.std.specs.Prelude.{ℕ, Bool, cond, not, List, [], length, codes, nat_le, nat_lt, ◌+◌, ◌/◌, ◌%◌, ◌&&◌, ◌∷◌, ◌++◌}
use Rattle.std.specs.List.{list_all}
use Rattle.std.specs.Str.{bytes_eq, chars_after, continuation_len, lead_bits}
use lib.Utf8.{scalars}
use Rattle.cf_base.specs.Names.{is_name_byte}
use Rattle.cf_base.specs.declared.limits.TheConstants.{MOST_NAME_BYTES}

-- the characters that bytes spell
abbrev pub chars_in : List ℕ → List ℕ
chars_in [] = []
chars_in (b ∷ bs) = chars_after (continuation_len b) (lead_bits b) bs

abbrev pub tail_byte : ℕ → ℕ
tail_byte bits = 128 + bits % 64

-- the bytes of a character
abbrev pub encoded : ℕ → List ℕ
encoded c =
    cond (nat_lt c 128) (c ∷ [])
    (cond (nat_lt c 2048) ((192 + c / 64) ∷ tail_byte c ∷ [])
    (cond (nat_lt c 65536) ((224 + c / 4096) ∷ tail_byte (c / 64) ∷ tail_byte c ∷ [])
    ((240 + c / 262144) ∷ tail_byte (c / 4096) ∷ tail_byte (c / 64) ∷ tail_byte c ∷ [])))

abbrev pub all_encoded : List ℕ → List ℕ
all_encoded [] = []
all_encoded (c ∷ cs) = encoded c ++ all_encoded cs

-- the bytes are those of the characters that they spell
abbrev pub is_text : List ℕ → Bool
is_text bs = scalars (chars_in bs) && bytes_eq (all_encoded (chars_in bs)) bs

-- one to 255 bytes of UTF-8, none of them a control byte or a mark, and neither one dot nor two
abbrev pub is_name : List ℕ → Bool
is_name name = nat_lt 0 (length name) && nat_le (length name) MOST_NAME_BYTES && list_all is_name_byte name && is_text name && not (bytes_eq name (codes ".")) && not (bytes_eq name (codes ".."))
