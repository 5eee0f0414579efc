-- A binary search by id, and how many runs a set can have.
use Rattle.std.proofs.Common.{◌≡◌, ℕ, zero, suc, ◌+◌, ◌^◌, ◌<◌, ◌≤◌, List, [], ◌∷◌, length, get_or, Result, Ok, Err, IfOk, IfErr, sym, arith}
use Rattle.std.specs.List.Sorted.{IsSearchInRange, IsBinarySearchResult, IsNonDecreasingBy}
use Rattle.std.specs.Ordering.{nat_cmp, ordering_index}
use Rattle.std.proofs.lemmas.Bool.Decides.{nat_tests}
use Rattle.std.proofs.lemmas.Cmp.{ranked}
use Rattle.cf_base.specs.declared.spans.Span.{Span}
use Rattle.cf_ranges.specs.Positions.{IsRunsFrom}
use Rattle.cf_ranges.specs.Pairs.{IsRisingFrom}
use Rattle.cf_table.specs.Tables.{IsRowAt, IsRowGap, RisesFrom}
use Rattle.cf_table.specs.declared.rows.Row.{Row}

pub runs_short : (low : ℕ) (runs : List Span) → low ≤ 2 ^ 40 + 1 → IsRunsFrom low runs → low + length runs ≤ 2 ^ 40 + 1
runs_short low [] le h = omega arith
runs_short low (r ∷ rs) le h = omega (arith, h.0, h.1, h.2, runs_short (r.start + r.len + 1) rs (omega (arith, h.2)) h.3)

pub pairs_short : (low k : ℕ) (ps : List (ℕ × ℕ)) (d : ℕ × ℕ) → IsRisingFrom low ps → length ps ≡ k + 1 → low + length ps ≤ (get_or ps k d).0 + 1
pairs_short low k [] d h e = absurd (omega arith)
pairs_short low zero (p ∷ ps) d h e = omega (arith, h.0)
pairs_short low (suc k) (p ∷ ps) d h e = omega (arith, h.0, pairs_short (p.0 + 1) k ps d h.1 (omega arith))

pub from_low : (low j : ℕ) (rows : List Row) (d : Row) → RisesFrom low rows → j < length rows → low ≤ (get_or rows j d).id.0
from_low low j [] d h lt = absurd (omega arith)
from_low low zero (r ∷ rs) d h lt = h.0
from_low low (suc j) (r ∷ rs) d h lt = omega (arith, h.0, from_low (r.id.0 + 1) j rs d h.1 (omega arith))

ids_rise : (low : ℕ) (rows : List Row) → RisesFrom low rows → (i j : ℕ) (d : Row) → i ≤ j → j < length rows → (get_or rows i d).id.0 ≤ (get_or rows j d).id.0
ids_rise low [] h i j d le lt = absurd (omega arith)
ids_rise low (r ∷ rs) h zero zero d le lt = omega arith
ids_rise low (r ∷ rs) h zero (suc j) d le lt = omega (arith, from_low (r.id.0 + 1) j rs d h.1 (omega arith))
ids_rise low (r ∷ rs) h (suc i) zero d le lt = absurd (omega arith)
ids_rise low (r ∷ rs) h (suc i) (suc j) d le lt = ids_rise (r.id.0 + 1) rs h.1 i j d (omega arith) (omega arith)

pub searched : (rows : List Row) → RisesFrom 0 rows → (id : ℕ) (r : Result ℕ ℕ) → IsSearchInRange r (length rows) → IsBinarySearchResult (λ (row : Row). nat_cmp row.id.0 id) rows r
    → record { found : IfOk r (IsRowAt rows id); absent : IfErr r (IsRowGap rows id) }
searched rows h id (Ok i) in_range equal = record { found = record { in_range = in_range; has_id = λ d. ranked _ id _ (sym (equal d)) }; absent = tt }
searched rows h id (Err i) in_range parted = record {
  found = tt;
  absent = record {
    in_range = in_range;
    lower_before = λ k d lt. ranked _ id _ (sym ((parted comparisons_rise).0 k d (omega arith) lt));
    higher_after = λ k d le lt. ranked _ id _ (sym ((parted comparisons_rise).1 k d le lt));
  };
} where
  comparisons_rise : IsNonDecreasingBy (λ (row : Row). ordering_index (nat_cmp row.id.0 id)) rows
  comparisons_rise i j d le lt =
      let rise : (get_or rows i d).id.0 ≤ (get_or rows j d).id.0 = ids_rise 0 rows h i j d le lt in
      two (get_or rows i d).id.0 (get_or rows j d).id.0 id rise where
        two : (a b id : ℕ) → a ≤ b → ordering_index (nat_cmp a id) ≤ ordering_index (nat_cmp b id)
        two a b id le = grind (arith, nat_tests)
