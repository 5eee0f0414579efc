-- A list put over another at a place.
use Rattle.std.proofs.Common.{◌≡◌, ℕ, ◌+◌, ◌-◌, ◌<◌, ◌≤◌, List, ◌++◌, length, get_or, take, drop, ◌∙◌, ap, arith}
use Rattle.std.proofs.lemmas.List.{length-append, length-take, length-drop, get_or_append_left, get_or-append_right, get_or-take, get_or-drop}

-- xs with mid at the place
abbrev pub over : {X : Type 0} → ℕ → List X → List X → List X
over at mid xs = take at xs ++ mid ++ drop (at + length mid) xs

module _ {X : Type 0} (d : X) (at : ℕ) (mid xs : List X) (room : at + length mid ≤ length xs) where
  front : length (take at xs) ≡ at
  front = omega (arith, length-take at xs)

  head : length (take at xs ++ mid) ≡ at + length mid
  head = omega (arith, length-append (take at xs) mid, front)

  pub length-over : length (over at mid xs) ≡ length xs
  length-over = omega (arith, length-append (take at xs ++ mid) (drop (at + length mid) xs), head, length-drop (at + length mid) xs)

  pub over_before : (i : ℕ) → i < at → get_or (over at mid xs) i d ≡ get_or xs i d
  over_before i lt =
      get_or_append_left (take at xs ++ mid) (drop (at + length mid) xs) d i (omega (arith, head))
      ∙ get_or_append_left (take at xs) mid d i (omega (arith, front))
      ∙ get_or-take at xs i d lt

  pub over_in : (i : ℕ) → at ≤ i → i < at + length mid → get_or (over at mid xs) i d ≡ get_or mid (i - at) d
  over_in i low high =
      get_or_append_left (take at xs ++ mid) (drop (at + length mid) xs) d i (omega (arith, head))
      ∙ get_or-append_right (take at xs) mid at i d front low

  pub over_after : (i : ℕ) → at + length mid ≤ i → get_or (over at mid xs) i d ≡ get_or xs i d
  over_after i high =
      get_or-append_right (take at xs ++ mid) (drop (at + length mid) xs) (at + length mid) i d head high
      ∙ get_or-drop (at + length mid) xs (i - (at + length mid)) d
      ∙ (let same : at + length mid + (i - (at + length mid)) ≡ i = omega arith in ap (λ (k : ℕ). get_or xs k d) same)

-- the same of bytes
module _ (at : ℕ) (mid xs : List ℕ) (room : at + length mid ≤ length xs) where
  abbrev pub spliced : List ℕ
  spliced = over at mid xs

  pub length-spliced : length spliced ≡ length xs
  length-spliced = length-over 0 at mid xs room

  pub spliced_before : (i : ℕ) → i < at → get_or spliced i 0 ≡ get_or xs i 0
  spliced_before = over_before 0 at mid xs room

  pub spliced_in : (i : ℕ) → at ≤ i → i < at + length mid → get_or spliced i 0 ≡ get_or mid (i - at) 0
  spliced_in = over_in 0 at mid xs room

  pub spliced_after : (i : ℕ) → at + length mid ≤ i → get_or spliced i 0 ≡ get_or xs i 0
  spliced_after = over_after 0 at mid xs room
