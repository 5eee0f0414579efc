-- Sets of places, as their maximal runs.
use Rattle.std.specs.Prelude.{ℕ, true, false, List, [], is_some, ◌+◌, ◌/◌, ◌≤◌, ◌<◌, ◌≡◌, ◌∷◌}
use Rattle.cf_base.specs.declared.limits.TheConstants.{MOST_FILE_BYTES}
use Rattle.cf_base.specs.declared.spans.Span.{Span}
use Rattle.cf_ranges.specs.Pairs.{cluster_at}
use Rattle.cf_ranges.specs.Positions.{HasBlock, IsBelow, contains}
use Rattle.cf_table.specs.declared.rows.Row.{Row}

-- the set has this run, which has the place
pub record IsRunAt (runs : List Span) (at : ℕ) (s : Span) : Type 0 where
  pub begun : s.start ≤ at
  pub not_ended : at < s.start + s.len
  pub each : (p : ℕ) → s.start ≤ p → p < s.start + s.len → contains runs p ≡ true
  pub no_more : contains runs (s.start + s.len) ≡ false

abbrev pub HasSpan : List Span → ℕ → ℕ → Type 0
HasSpan runs from to = (p : ℕ) → from ≤ p → p < to → contains runs p ≡ true

abbrev pub HasAll : List Span → List Span → Type 0
HasAll outer inner = (p : ℕ) → contains inner p ≡ true → contains outer p ≡ true

-- blocks of 4,096 places

abbrev pub HasBlocks : List (ℕ × ℕ) → ℕ → ℕ → Type 0
HasBlocks pairs from to = (b : ℕ) → from ≤ b → b < to → is_some (cluster_at pairs b) ≡ true

abbrev pub HasBlocksOf : List (ℕ × ℕ) → List Span → Type 0
HasBlocksOf pairs runs = (p : ℕ) → contains runs p ≡ true → is_some (cluster_at pairs (p / 4096)) ≡ true

abbrev pub HaveBytes : List (ℕ × ℕ) → List Span → Type 0
HaveBytes [] runs = Unit {0}
HaveBytes (p ∷ ps) runs = HasBlock runs p.0 × HaveBytes ps runs

-- places of files are below 16,777,216
abbrev pub AllBelow : List Row → Type 0
AllBelow [] = Unit {0}
AllBelow (r ∷ rs) = IsBelow r.here MOST_FILE_BYTES × AllBelow rs
