-- Byte strings that lie one behind the other, each beside what it belongs to.
use Rattle.std.specs.Prelude.{◌+◌, ℕ, List, [], ◌∷◌, take, drop}

module _ {X : Type 0} (size : X → ℕ) where
  -- the bytes of all
  abbrev pub total : List X → ℕ
  total [] = 0
  total (x ∷ xs) = size x + total xs

  -- each with its bytes, from the front
  abbrev pub cut_up : List X → List ℕ → List (X × List ℕ)
  cut_up [] bytes = []
  cut_up (x ∷ xs) bytes = (x, take (size x) bytes) ∷ cut_up xs (drop (size x) bytes)
