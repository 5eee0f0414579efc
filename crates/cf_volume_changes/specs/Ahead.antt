-- What is left of the runs of a set, for blocks that rise.
use Rattle.std.specs.Prelude.{◌≡◌, ℕ, ◌+◌, ◌*◌, ◌<◌, ◌≤◌, List, [], ◌∷◌}
use Rattle.cf_base.specs.declared.spans.Span.{Span}
use Rattle.cf_ranges.specs.Positions.{IsRuns, touches}

-- the rest are runs, and touch the same blocks as all do, of those that begin at the place or later
pub record IsAhead (place : ℕ) (all rest : List Span) : Type 0 where
  pub runs : IsRuns rest
  pub same : (b : ℕ) → place ≤ 4096 * b → touches rest b ≡ touches all b

-- the first of the runs ends past the place
abbrev pub EndsPast : ℕ → List Span → Type 0
EndsPast place [] = Unit {0}
EndsPast place (r ∷ rs) = place < r.start + r.len
