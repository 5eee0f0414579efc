-- Lists in the order of a pair of numbers: an epoch, and a number in it.
use Rattle.std.specs.Prelude.{◌≡◌, ℕ, zero, suc, Bool, true, false, nat_lt, List, [], ◌∷◌, ◌&&◌, ◌||◌, ◌==◌}
use Rattle.std.specs.List.{AllByRecursion}

-- the first is above the second
abbrev pub is_above : ℕ × ℕ → ℕ × ℕ → Bool
is_above a b = nat_lt b.0 a.0 || ((a.0 == b.0) && nat_lt b.1 a.1)

abbrev pub is_same : ℕ × ℕ → ℕ × ℕ → Bool
is_same a b = (a.0 == b.0) && (a.1 == b.1)

-- none is above a later one
abbrev pub IsInOrder : {X : Type 0} → (X → ℕ × ℕ) → List X → Type 0
IsInOrder rank [] = Unit {0}
IsInOrder rank (x ∷ xs) = AllByRecursion (λ y. is_above (rank x) (rank y) ≡ false) xs × IsInOrder rank xs

-- each later one is above
abbrev pub IsRising : {X : Type 0} → (X → ℕ × ℕ) → List X → Type 0
IsRising rank [] = Unit {0}
IsRising rank (x ∷ xs) = AllByRecursion (λ y. is_above (rank y) (rank x) ≡ true) xs × IsRising rank xs

-- n elements pass the test, and those behind them fail it
abbrev pub Divides : {X : Type 0} → (X → Bool) → ℕ → List X → Type 0
Divides p zero xs = AllByRecursion (λ x. p x ≡ false) xs
Divides p (suc n) [] = ⊥
Divides p (suc n) (x ∷ xs) = (p x ≡ true) × Divides p n xs
