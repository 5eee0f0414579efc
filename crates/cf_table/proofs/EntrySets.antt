-- The entry of a row becomes another one with its id.
use Rattle.std.proofs.Common.{◌≡◌, ℕ, zero, suc, ◌+◌, ◌<◌, true, false, not, List, [], ◌∷◌, eqb, length, get_or, set, refl, sym, ap, ◌∙◌, arith}
use Rattle.std.specs.Cmp.Lexicographic.{slice_cmp}
use Rattle.std.specs.Ordering.{is_eq, nat_cmp, ordering_then}
use Rattle.std.specs.declared.cmp.Ordering.{Ordering}
use Rattle.std.specs.declared.cmp.Ordering.TheVariants.{Less, Equal, Greater}
use Rattle.std.proofs.lemmas.Bool.{cond-true}
use Rattle.cf_lists.proofs.Ordered as ordered
use Rattle.cf_lists.specs.Ordered.{InOrder}
use Rattle.cf_model.specs.Words.{put_in, same, sorted}
use Rattle.cf_table.specs.Index.{compared, entries_of, entry_of, index_of, stands_before, without_entry}
use Rattle.cf_table.specs.Tables.{IsRowAt, RisesFrom, is_child_row}
use Rattle.cf_table.specs.declared.entries.Entry.{Entry}
use Rattle.cf_table.specs.declared.rows.Row.{Row}
use Rattle.cf_table.proofs.Indexed.{all_apart, apart_below, compared_total, equal_is, index_with, index_without, not_equal, number_is, one_id, row_here}
use Rattle.cf_table.proofs.NamedEntries.{equal_names, equal_numbers, first_of_both, same_is, second_of_both}
use Rattle.cf_table.proofs.TableMeans.{at_tail, before, set_is_with}

-- entries that compare as equal are one

pub record AreEqual (a b c : Ordering) : Type 0 where
  pub first : a ≡ Equal
  pub second : b ≡ Equal
  pub third : c ≡ Equal

all_equal : (a b c : Ordering) → ordering_then a (ordering_then b c) ≡ Equal → AreEqual a b c
all_equal Less b c h = let z : Less ≡ Equal = h in absurd (not_equal Less refl z)
all_equal Equal Less c h = let z : Less ≡ Equal = h in absurd (not_equal Less refl z)
all_equal Equal Equal c h = record { first = refl; second = refl; third = h }
all_equal Equal Greater c h = let z : Greater ≡ Equal = h in absurd (not_equal Greater refl z)
all_equal Greater b c h = let z : Greater ≡ Equal = h in absurd (not_equal Greater refl z)

one_entry : (e f : Entry) → compared e f ≡ Equal → e ≡ f
one_entry e f h =
    let all = all_equal (nat_cmp e.parent.0 f.parent.0) (slice_cmp nat_cmp e.name f.name) (nat_cmp e.id.0 f.id.0) h in
    let p : e.parent.0 ≡ f.parent.0 = equal_numbers e.parent.0 f.parent.0 all.first in
    let n : e.name ≡ f.name = equal_names e.name f.name all.second in
    let i : e.id.0 ≡ f.id.0 = equal_numbers e.id.0 f.id.0 all.third in
    λ j. record { parent = record { 0 = p j }; name = n j; id = record { 0 = i j } }

-- a row that has the entry already

set_itself : (rows : List Row) (k : ℕ) (r : Row) → r ≡ get_or rows k r → k < length rows → set rows k r ≡ rows
set_itself [] k r is lt = refl
set_itself (x ∷ xs) zero r is lt = ap (λ (v : Row). v ∷ xs) is
set_itself (x ∷ xs) (suc k) r is lt = ap (λ (l : List Row). x ∷ l) (set_itself xs k r is (omega arith))

has_it : (rows : List Row) (k : ℕ) (r : Row) (entry : Entry) → RisesFrom 0 rows → k < length rows → r ≡ get_or rows k r → entry ≡ entry_of r
    → index_of rows ≡ put_in stands_before entry (without_entry (entry_of (get_or rows k r)) (index_of rows))
has_it rows k r entry rises lt is same =
    let at : IsRowAt rows r.id.0 k = row_here rows k r lt is in
    sym (ap (λ (e : Entry). put_in stands_before e (without_entry (entry_of (get_or rows k r)) (index_of rows))) same
    ∙ ap (put_in stands_before (entry_of r)) (index_without rows r.id k r rises at) ∙ sym (index_with 0 r rows rises)
    ∙ ap index_of (sym (set_is_with 0 rows k r rises at) ∙ set_itself rows k r is lt))

pub has_already : (rows : List Row) (k : ℕ) (r : Row) (entry : Entry) → RisesFrom 0 rows → k < length rows → r ≡ get_or rows k r → is_eq (compared entry (entry_of r)) ≡ true
    → index_of rows ≡ put_in stands_before entry (without_entry (entry_of (get_or rows k r)) (index_of rows))
has_already rows k r entry rises lt is h = has_it rows k r entry rises lt is (one_entry entry (entry_of r) (equal_is (compared entry (entry_of r)) h))

one_place : (row r : Row) → r.id.0 ≡ row.id.0 → is_child_row row.parent row.name r ≡ true → entry_of row ≡ entry_of r
one_place row r i h =
    let p : r.parent.0 ≡ row.parent.0 = number_is r.parent.0 row.parent.0 (first_of_both (eqb r.parent.0 row.parent.0) (same r.name row.name) h) in
    let n : r.name ≡ row.name = same_is r.name row.name (second_of_both (eqb r.parent.0 row.parent.0) (same r.name row.name) h) in
    sym (λ j. record { parent = record { 0 = p j }; name = n j; id = record { 0 = i j } })

pub stands_already : (rows : List Row) (k : ℕ) (r row : Row) → RisesFrom 0 rows → IsRowAt rows row.id.0 k → r ≡ get_or rows k r → is_child_row row.parent row.name r ≡ true
    → index_of rows ≡ put_in stands_before (entry_of row) (without_entry (entry_of (get_or rows k r)) (index_of rows))
stands_already rows k r row rises at is h = has_it rows k r (entry_of row) rises at.in_range is (one_place row r (ap (λ (x : Row). x.id.0) is ∙ at.has_id r) h)

-- a new entry beside the one that goes

apart_from : (low : ℕ) (rows : List Row) (k : ℕ) (entry : Entry) (d : Row) → RisesFrom low rows → IsRowAt rows entry.id.0 k → (compared entry (entry_of (get_or rows k d)) ≡ Equal → ⊥) → ordered.Apart compared compared_total entry (entries_of rows)
apart_from low [] k entry d h at ne = tt
apart_from low (x ∷ xs) zero entry d h at ne = (ne, apart_below entry (x.id.0 + 1) xs (omega (arith, at.has_id x)) h.1)
apart_from low (x ∷ xs) (suc k) entry d h at ne =
    let less : x.id.0 < entry.id.0 = before low x xs entry.id.0 k h at in
    ((λ e. omega (arith, one_id entry (entry_of x) e)), apart_from (x.id.0 + 1) xs k entry d h.1 (at_tail x xs entry.id.0 k at) ne)

apart_there : (rows : List Row) (k : ℕ) (r : Row) (entry : Entry) → RisesFrom 0 rows → IsRowAt rows entry.id.0 k → r ≡ get_or rows k r → is_eq (compared entry (entry_of r)) ≡ false → ordered.Apart compared compared_total entry (entries_of rows)
apart_there rows k r entry rises at is h =
    apart_from 0 rows k entry r rises at (λ e. not_equal (compared entry (entry_of r)) h (ap (λ (v : Row). compared entry (entry_of v)) is ∙ e))

pub both_in_order : (rows : List Row) (k : ℕ) (r : Row) (entry : Entry) → RisesFrom 0 rows → IsRowAt rows entry.id.0 k → r ≡ get_or rows k r → is_eq (compared entry (entry_of r)) ≡ false → InOrder stands_before (put_in stands_before entry (index_of rows))
both_in_order rows k r entry rises at is h = ordered.sorted_in_order compared compared_total (entry ∷ entries_of rows) (apart_there rows k r entry rises at is h, all_apart 0 rows rises)

pub comes_and_goes : (rows : List Row) (k : ℕ) (r : Row) (entry : Entry) → RisesFrom 0 rows → IsRowAt rows entry.id.0 k → r ≡ get_or rows k r → is_eq (compared entry (entry_of r)) ≡ false
    → without_entry (entry_of r) (put_in stands_before entry (index_of rows)) ≡ put_in stands_before entry (without_entry (entry_of r) (index_of rows))
comes_and_goes rows k r entry rises at is h =
    ordered.filter_sorted compared compared_total (λ e. not (is_eq (compared e (entry_of r)))) (entry ∷ entries_of rows) (apart_there rows k r entry rises at is h, all_apart 0 rows rises)
    ∙ ap (λ (l : List Entry). sorted stands_before l) (cond-true (not (is_eq (compared entry (entry_of r)))) _ _ (ap not h))
    ∙ ap (put_in stands_before entry) (sym (ordered.filter_sorted compared compared_total (λ e. not (is_eq (compared e (entry_of r)))) (entries_of rows) (all_apart 0 rows rises)))
