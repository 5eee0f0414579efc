-- A set of positions, as its maximal runs in order.
use Rattle.std.specs.Prelude.{◌≡◌, ℕ, zero, suc, ◌+◌, ◌*◌, ◌/◌, ◌^◌, ◌<◌, ◌≤◌, Bool, true, false, ◌&&◌, ◌||◌, not, cond, List, [], ◌∷◌, nat_le, nat_lt}
use Rattle.cf_base.specs.declared.spans.Span.{Span}

-- start ≤ p < end
abbrev pub within : ℕ → ℕ → ℕ → Bool
within start end p = nat_le start p && nat_lt p end

abbrev pub in_span : Span → ℕ → Bool
in_span s p = within s.start (s.start + s.len) p

-- the set has the position
abbrev pub contains : List Span → ℕ → Bool
contains [] p = false
contains (s ∷ ss) p = in_span s p || contains ss p

-- no run is empty, none begins below low, and between two there is a gap
abbrev pub IsRunsFrom : ℕ → List Span → Type 0
IsRunsFrom low [] = Unit {0}
IsRunsFrom low (s ∷ ss) = (low ≤ s.start) × (0 < s.len) × (s.start + s.len ≤ 2 ^ 40) × IsRunsFrom (s.start + s.len + 1) ss

-- the runs of a set: in order, maximal, below 2 ^ 40
abbrev pub IsRuns : List Span → Type 0
IsRuns runs = IsRunsFrom 0 runs

-- new has just the positions of old and those of the span
abbrev pub Adds : List Span → List Span → Span → Type 0
Adds old new s = (p : ℕ) → contains new p ≡ (contains old p || in_span s p)

-- new has just the positions of old that are not in the span
abbrev pub Cuts : List Span → List Span → Span → Type 0
Cuts old new s = (p : ℕ) → contains new p ≡ (contains old p && not (in_span s p))

-- new has just the positions of old and those of the others
abbrev pub AddsAll : List Span → List Span → List Span → Type 0
AddsAll old new others = (p : ℕ) → contains new p ≡ (contains old p || contains others p)

-- new has just the positions of old that the others have not
abbrev pub CutsAll : List Span → List Span → List Span → Type 0
CutsAll old new others = (p : ℕ) → contains new p ≡ (contains old p && not (contains others p))

-- gaps has just the positions of the span that the set has not
abbrev pub IsMissing : List Span → Span → List Span → Type 0
IsMissing runs s gaps = (p : ℕ) → contains gaps p ≡ (in_span s p && not (contains runs p))

-- every position of the set is below top
abbrev pub IsBelow : List Span → ℕ → Type 0
IsBelow runs top = (p : ℕ) → contains runs p ≡ true → p < top

-- some position of the block of 4,096 is in the set
abbrev pub HasBlock : List Span → ℕ → Type 0
HasBlock runs b = (p : ℕ) × (contains runs p ≡ true) × (p / 4096 ≡ b)

-- the test for it
abbrev pub touches : List Span → ℕ → Bool
touches [] b = false
touches (s ∷ ss) b = (nat_lt s.start (4096 * b + 4096) && nat_lt (4096 * b) (s.start + s.len)) || touches ss b

-- how many of k blocks from first on have a position of the set
abbrev pub touched : List Span → ℕ → ℕ → ℕ
touched runs first zero = 0
touched runs first (suc k) = cond (touches runs first) 1 0 + touched runs (first + 1) k
