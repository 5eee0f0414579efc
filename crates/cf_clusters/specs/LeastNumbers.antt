-- A set of numbers below a count, kept in a tree of the least ones.
use Rattle.std.specs.Prelude.{◌≡◌, ◌⊎◌, ℕ, ◌+◌, ◌*◌, ◌<◌, ◌≤◌, ◌^◌, min, nat_lt, Bool, true, List, [], ◌∷◌, length, map, take, drop, get_or, slice_set}

-- each place of the first half, but for place 0, has the least of the two below it
abbrev pub AreNodes : ℕ → List ℕ → Type 0
AreNodes width least = (i : ℕ) → 0 < i → i < width → get_or least i 0 ≡ min (get_or least (2 * i) 0) (get_or least (2 * i + 1) 0)

-- each number stands at its place in the last half
abbrev pub HasLeaves : ℕ → List ℕ → Type 0
HasLeaves width least = (k : ℕ) → k < width → get_or least (width + k) 0 ≡ k

-- the last half has the value at one place, and is as before at all others
pub record Puts (width leaf value : ℕ) (old new : List ℕ) : Type 0 where
  pub here : get_or new leaf 0 ≡ value
  pub others : (i : ℕ) → width ≤ i → (i ≡ leaf → ⊥) → get_or new i 0 ≡ get_or old i 0

-- A tree over the numbers below a count: at the last places stands each number that is there, and the count for each that
-- is not and behind them.
pub record IsTree (count : ℕ) (least : List ℕ) : Type 0 where
  pub size : length least ≡ 2 * (count + 1)
  pub small : count < 2 ^ 32
  pub leaves : (k : ℕ) → k ≤ count → (get_or least (count + 1 + k) 0 ≡ k) ⊎ (get_or least (count + 1 + k) 0 ≡ count)
  pub nodes : AreNodes (count + 1) least

-- which numbers are there
abbrev pub flags_in : ℕ → List ℕ → List Bool
flags_in count least = map (λ v. nat_lt v count) (take count (drop (count + 1) least))

-- with all of a list put in
abbrev pub added : List ℕ → List Bool → List Bool
added [] flags = flags
added (k ∷ ks) flags = added ks (slice_set flags k true)
