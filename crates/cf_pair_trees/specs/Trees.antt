-- What a comparison of two trees answers.
use Rattle.std.specs.Prelude.{◌≡◌, ◌≤◌, ℕ, cond, bytes_eq, List, Some, None, sum_by}
use Rattle.cf_pair_compare.specs.First.{IsFirst, row_at}
use Rattle.cf_pair_compare.specs.declared.path_rows.PathRow.{PathRow}
use Rattle.cf_pair_events.specs.declared.comparisons.Comparison.{Comparison}
use Rattle.cf_pair_events.specs.declared.comparisons.Comparison.TheVariants as comparison

abbrev pub at_path : List ℕ → PathRow → ℕ
at_path path r = cond (bytes_eq r.path path) 1 0

-- no path stands twice
abbrev pub AreApart : List PathRow → Type 0
AreApart rows = (path : List ℕ) → sum_by (at_path path) rows ≤ 1

-- both lists have the same at each path
abbrev pub SameRows : List PathRow → List PathRow → Type 0
SameRows as' bs = (path : List ℕ) → row_at bs path ≡ row_at as' path

abbrev pub IsComparison : List PathRow → List PathRow → Comparison → Type 0
IsComparison as' bs comparison.Equal = IsFirst as' bs None
IsComparison as' bs (comparison.Unequal path) = IsFirst as' bs (Some path)
IsComparison as' bs (comparison.Refused c) = ⊥
