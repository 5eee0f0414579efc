-- Hexadecimal digits.
use Rattle.std.proofs.Common.{◌≡◌, ℕ, ◌/◌, ◌%◌, List, [], ◌∷◌, ◌++◌, ◌∙◌, refl, sym, ap, append_assoc}
use Rattle.hex.specs.Hex.{encode_lower, encode_with}
use Rattle.cf_report.specs.Words.{hex_digit, hex_digits}

pub hex_same : (bs : List ℕ) → encode_lower bs ≡ hex_digits bs
unfolding encode_with
hex_same [] = refl
hex_same (b ∷ bs) = ap (λ (ds : List ℕ). hex_digit (b / 16) ∷ hex_digit (b % 16) ∷ ds) (hex_same bs)

-- digits of one piece behind another
pub hex_append : (as' bs : List ℕ) → hex_digits (as' ++ bs) ≡ hex_digits as' ++ hex_digits bs
hex_append [] bs = refl
hex_append (a ∷ as') bs = ap (λ (ds : List ℕ). hex_digit (a / 16) ∷ hex_digit (a % 16) ∷ ds) (hex_append as' bs)

-- the digits of a front that is added before those of the rest
pub digits_more : (out front rest all : List ℕ) → front ++ rest ≡ all → (out ++ hex_digits front) ++ hex_digits rest ≡ out ++ hex_digits all
digits_more out front rest all e = append_assoc out (hex_digits front) (hex_digits rest) ∙ ap (λ (ds : List ℕ). out ++ ds) (sym (hex_append front rest) ∙ ap hex_digits e)
