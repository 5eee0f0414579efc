-- A text that grew.
use Rattle.std.proofs.Common.{◌≡◌, ℕ, ◌≤◌, List, ◌++◌, length, take, ◌∙◌, ap, arith}
use Rattle.std.proofs.lemmas.List.{take-append-le, take_all}

-- a text that grew by zeros has its old bytes in front
pub grown_front : (old new fill : List ℕ) (n m : ℕ) → m ≡ length old → m ≤ n → new ≡ take n old ++ fill → take m new ≡ old
grown_front old new fill n m is le grown =
    ap (λ (l : List ℕ). take m l) (grown ∙ ap (λ (l : List ℕ). l ++ fill) (take_all n old (omega (arith, is, le))))
    ∙ take-append-le m old fill (omega (arith, is))
    ∙ take_all m old (omega (arith, is))
