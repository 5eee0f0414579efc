-- Tests of sets of places, which stand as their maximal runs in order.
use Rattle.std.specs.Prelude.{ℕ, Bool, List, nat_le, ◌+◌, ◌&&◌, ◌||◌, ◌≡◌, ◌≤◌, ◌^◌}
use Rattle.std.specs.List.{list_all, list_any}
use Rattle.cf_base.specs.declared.spans.Span.{Span}

-- a run begins by the one place, and ends at the other or behind it
abbrev pub spans : List Span → ℕ → ℕ → Bool
spans runs by to = list_any (λ s. nat_le s.start by && nat_le to (s.start + s.len)) runs

-- the set has all places of a run: these lie in one of its runs
abbrev pub has_run : List Span → Span → Bool
has_run runs s = spans runs s.start (s.start + s.len)

-- the set has the places from one on to another
abbrev pub has_span : List Span → ℕ → ℕ → Bool
has_span runs from to = nat_le to from || spans runs from to

-- the first set has all places of the second
abbrev pub has_all : List Span → List Span → Bool
has_all outer inner = list_all (has_run outer) inner

-- each place of the set is below this one
abbrev pub ends_by : List Span → ℕ → Bool
ends_by runs top = list_all (λ s. nat_le (s.start + s.len) top) runs

-- of the runs that begin by a place, this one ends last
pub record IsLastBegun (runs : List Span) (by : ℕ) (s : Span) : Type 0 where
  pub begun : s.start ≤ by
  pub small : s.start + s.len ≤ 2 ^ 40
  pub last : (to : ℕ) → spans runs by to ≡ nat_le to (s.start + s.len)
