-- The words of a script and what they spell.
use Rattle.std.specs.Prelude.{◌≡◌, ℕ, ◌<◌, ◌≤◌, ◌^◌, ◌==◌, ◌⊎◌, Bool, false, List, [], ◌∷◌, ◌++◌, replicate, codes, if◌then◌else◌, IsTrue, Option, Some, None}
use Rattle.std.specs.Fmt.{decimal}
use Rattle.std.specs.Str.{IsUtf8}
use Rattle.hex.specs.Hex.{encode_lower, IsBytes}
use Rattle.cf_base.specs.declared.ids.Key.{Key}
use Rattle.cf_base.specs.declared.ids.Usn.{Usn}

-- a reader gives the one value that is spelled, or nothing where none is
abbrev pub Reads : {X : Type 0} → (X → Type 0) → Option X → Type 0
Reads {X} Spells (Some x) = Spells x × ((y : X) → Spells y → y ≡ x)
Reads {X} Spells None = (x : X) → Spells x → ⊥

-- a number of 32 bits, without leading zeros
abbrev pub IsNumber : List ℕ → ℕ → Type 0
IsNumber word n = (n < 2 ^ 32) × (word ≡ decimal n)

abbrev pub IsPositive : List ℕ → ℕ → Type 0
IsPositive word n = IsNumber word n × (1 ≤ n)

-- two numbers with a dot between
abbrev pub pair_text : ℕ → ℕ → List ℕ
pair_text m n = decimal m ++ 46 ∷ decimal n

abbrev pub IsKey : List ℕ → Key → Type 0
IsKey word key = (key.epoch < 2 ^ 32) × (key.number < 2 ^ 32) × (word ≡ pair_text key.epoch key.number)

abbrev pub IsUsn : List ℕ → Usn → Type 0
IsUsn word usn = (usn.epoch < 2 ^ 32) × (usn.place < 2 ^ 32) × (word ≡ pair_text usn.epoch usn.place)

abbrev pub IsHex : List ℕ → List ℕ → Type 0
IsHex word bytes = IsBytes bytes × (word ≡ encode_lower bytes)

-- bytes as pairs of digits, none as a hyphen
abbrev pub plain_text : List ℕ → List ℕ
plain_text [] = codes "-"
plain_text (b ∷ bs) = encode_lower (b ∷ bs)

abbrev pub IsPlain : List ℕ → List ℕ → Type 0
IsPlain word bytes = IsBytes bytes × (word ≡ plain_text bytes)

-- how often a byte may be repeated: one time more than a file has room for
abbrev pub IsCount : List ℕ → ℕ → Type 0
IsCount word n = IsNumber word n × (1 ≤ n) × (n ≤ 16777217)

-- one byte, as two digits, so many times
abbrev pub IsRepeated : List ℕ → List ℕ → List ℕ → Type 0
IsRepeated digits count bytes = (b n : ℕ) × IsHex digits (b ∷ []) × IsCount count n × (bytes ≡ replicate n b)

abbrev pub IsStarred : List ℕ → List ℕ → Type 0
IsStarred word bytes = (digits count : List ℕ) × (word ≡ digits ++ 42 ∷ count) × IsRepeated digits count bytes

-- bytes as digits, or one byte with a star and a count
unfoldable pub IsData : List ℕ → List ℕ → Type 0
IsData word bytes = IsPlain word bytes ⊎ IsStarred word bytes

-- a space and a percent sign are written as their codes
abbrev pub escape_byte : ℕ → List ℕ
escape_byte b = if b == 32 then codes "%20" else if b == 37 then codes "%25" else b ∷ []

-- a text with each byte written so
abbrev pub written : (ℕ → List ℕ) → List ℕ → List ℕ
written text_of [] = []
written text_of (b ∷ bs) = text_of b ++ written text_of bs

abbrev pub escaped : List ℕ → List ℕ
escaped path = written escape_byte path

abbrev pub has_slash : List ℕ → Bool
has_slash [] = false
has_slash (c ∷ path) = c == 47

abbrev pub IsPath : List ℕ → List ℕ → Type 0
IsPath word path = IsUtf8 path × IsTrue (has_slash path) × (word ≡ escaped path)
