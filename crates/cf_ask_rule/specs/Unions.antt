-- Spans in order of their starts, joined to maximal runs.
use Rattle.std.specs.Prelude.{ℕ, List, [], ◌∷◌, cond, max, nat_le, ◌+◌, ◌≤◌, ◌^◌}
use Rattle.cf_base.specs.declared.spans.Span.{Span}
use Rattle.cf_ranges.specs.Steps.{piece}

-- with the run from start to end open
abbrev pub joined_on : ℕ → ℕ → List Span → List Span
joined_on start end [] = piece start end []
joined_on start end (s ∷ ss) = cond (nat_le s.start end) (joined_on start (max end (s.start + s.len)) ss) (piece start end (joined_on s.start (s.start + s.len) ss))

abbrev pub IsSmall : Span → Type 0
IsSmall s = s.start + s.len ≤ 2 ^ 40
