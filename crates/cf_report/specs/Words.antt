-- The words of a report.
use Rattle.std.specs.Prelude.{ℕ, zero, suc, cond, List, [], ◌∷◌, ◌++◌, ◌+◌, ◌/◌, ◌%◌, ◌==◌, codes, slice_index}
use Rattle.std.specs.List.{flat_map}
use Rattle.cf_base.specs.declared.ids.Key.{Key}
use Rattle.cf_base.specs.declared.ids.Usn.{Usn}

-- the last digits of a number, so many of them at most, before what follows it
abbrev pub digits : ℕ → ℕ → List ℕ → List ℕ
digits zero n after = after
digits (suc most) n after = elim (n / 10) as (λ _. List ℕ) [ zero ↦ (48 + n % 10) ∷ after | suc front ↦ digits most (suc front) ((48 + n % 10) ∷ after) ]

-- a number in decimal, without a leading zero; it has at most n + 1 digits
abbrev pub decimal : ℕ → List ℕ
decimal n = digits (n + 1) n []

-- two numbers with a full stop between
abbrev pub pair_text : ℕ → ℕ → List ℕ
pair_text epoch n = decimal epoch ++ 46 ∷ decimal n

abbrev pub usn_text : Usn → List ℕ
usn_text number = pair_text number.epoch number.place

abbrev pub key_text : Key → List ℕ
key_text k = pair_text k.epoch k.number

abbrev pub hex_digit : ℕ → ℕ
hex_digit n = slice_index (codes "0123456789abcdef") n

abbrev pub hex_digits : List ℕ → List ℕ
hex_digits [] = []
hex_digits (b ∷ bs) = hex_digit (b / 16) ∷ hex_digit (b % 16) ∷ hex_digits bs

-- bytes in lower-case hexadecimal digits; a minus stands for none
abbrev pub bytes_text : List ℕ → List ℕ
bytes_text [] = codes "-"
bytes_text (b ∷ bs) = hex_digits (b ∷ bs)

abbrev pub escape : ℕ → List ℕ
escape b = cond (b == 32) (codes "%20") (cond (b == 37) (codes "%25") (b ∷ []))

-- a name, in which a space and a percent sign are escaped
abbrev pub name_text : List ℕ → List ℕ
name_text name = flat_map escape name

-- the words, a space before each of them
abbrev pub spaced : List (List ℕ) → List ℕ
spaced words = flat_map (λ word. 32 ∷ word) words
