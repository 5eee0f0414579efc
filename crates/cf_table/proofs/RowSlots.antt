-- What becomes of the rows that are there as their slots change.
use Rattle.std.proofs.Common.{◌≡◌, ◌∙◌, ◌+◌, ◌<◌, ◌≤◌, ◌++◌, ◌∷◌, ℕ, zero, suc, List, [], true, false, not, Bool, cond, Result, Ok, Err, IfOk, IfErr, ap, append_assoc, arith, eqb, get_or, length, ltb, refl, set, subst, sym}
use Rattle.std.specs.List.Sorted.{IsBinarySearchResult, IsNonDecreasingBy, IsSearchInRange}
use Rattle.std.specs.Ordering.{nat_cmp, ordering_index}
use Rattle.std.specs.Prelude.{All, insert}
use Rattle.std.proofs.lemmas.Bool.{cond-false, cond-true, eq-eqb, le-ltb, lt-ltb, ne_eqb}
use Rattle.std.proofs.lemmas.List.{append-nil, get_or-map, length-map, map-set}
use Rattle.std.proofs.lemmas.List.Elements.{All-cons, All-head, All-nil, All-tail}
use Rattle.cf_base.specs.declared.ids.ItemId.{ItemId}
use Rattle.cf_table.specs.Applied.{IsSpellable}
use Rattle.cf_table.specs.Slots.{AreSlots, all_rows, rows_there}
use Rattle.cf_table.specs.Tables.{IsRowAt, IsRowGap, RisesFrom, with_row, without_row}
use Rattle.cf_table.specs.declared.rows.Row.{Row}
use Rattle.cf_table.specs.declared.slots.Slot.{Slot}
use Rattle.cf_table.proofs.Bounded.{all_with}
use Rattle.cf_table.proofs.Searched.{from_low, searched}
use Rattle.cf_table.proofs.TableMeans.{at_tail, before, gap_tail, insert_is_with, kept_above, lower, rises_insert, rises_set, set_is_with}

abbrev pub slot_of : Row → Slot
slot_of r = record { row = r; is_there = true }

abbrev pub gone_slot : Row → Slot
gone_slot r = record { row = r; is_there = false }

-- the rows that are there are some of all

pub rises_there : (low : ℕ) (slots : List Slot) → RisesFrom low (all_rows slots) → RisesFrom low (rows_there slots)
rises_there low [] h = tt
rises_there low (s ∷ ss) h = two s.is_there (rises_there (s.row.id.0 + 1) ss h.1) where
  two : (b : Bool) → RisesFrom (s.row.id.0 + 1) (rows_there ss) → RisesFrom low (cond b (s.row ∷ rows_there ss) (rows_there ss))
  two true rest = (h.0, rest)
  two false rest = lower low (s.row.id.0 + 1) (rows_there ss) (omega (arith, h.0)) rest

-- a row below all others
put_first : (row : Row) (low : ℕ) (rows : List Row) → row.id.0 < low → RisesFrom low rows → with_row row rows ≡ row ∷ rows
put_first row low [] lt h = refl
put_first row low (r ∷ rs) lt h = cond-false (ltb r.id.0 row.id.0) _ _ (le-ltb r.id.0 row.id.0 (omega (arith, h.0))) ∙ cond-false (eqb r.id.0 row.id.0) _ _ (ne_eqb r.id.0 row.id.0 (λ e. omega (arith, h.0)))

-- another row in a slot

pub set_there : (low : ℕ) (slots : List Slot) (k : ℕ) (row : Row) → RisesFrom low (all_rows slots) → IsRowAt (all_rows slots) row.id.0 k → rows_there (set slots k (slot_of row)) ≡ with_row row (rows_there slots)
set_there low [] k row h at = absurd (omega (arith, at.in_range))
set_there low (s ∷ ss) zero row h at = two s.is_there where
  two : (b : Bool) → row ∷ rows_there ss ≡ with_row row (cond b (s.row ∷ rows_there ss) (rows_there ss))
  two true = sym (cond-false (ltb s.row.id.0 row.id.0) _ _ (le-ltb s.row.id.0 row.id.0 (omega (arith, at.has_id row))) ∙ cond-true (eqb s.row.id.0 row.id.0) _ _ (eq-eqb s.row.id.0 row.id.0 (at.has_id row)))
  two false = sym (put_first row (s.row.id.0 + 1) (rows_there ss) (omega (arith, at.has_id row)) (rises_there (s.row.id.0 + 1) ss h.1))
set_there low (s ∷ ss) (suc k) row h at = two s.is_there (set_there (s.row.id.0 + 1) ss k row h.1 (at_tail s.row (all_rows ss) row.id.0 k at)) where
  two : (b : Bool) → rows_there (set ss k (slot_of row)) ≡ with_row row (rows_there ss)
      → cond b (s.row ∷ rows_there (set ss k (slot_of row))) (rows_there (set ss k (slot_of row))) ≡ with_row row (cond b (s.row ∷ rows_there ss) (rows_there ss))
  two true rest = ap (λ (v : List Row). s.row ∷ v) rest ∙ sym (cond-true (ltb s.row.id.0 row.id.0) _ _ (lt-ltb s.row.id.0 row.id.0 (before low s.row (all_rows ss) row.id.0 k h at)))
  two false rest = rest

-- one more slot

pub insert_there : (low : ℕ) (slots : List Slot) (k : ℕ) (row : Row) → RisesFrom low (all_rows slots) → IsRowGap (all_rows slots) row.id.0 k → rows_there (insert slots k (slot_of row)) ≡ with_row row (rows_there slots)
insert_there low [] zero row h gap = refl
insert_there low [] (suc k) row h gap = absurd (omega (arith, gap.in_range))
insert_there low (s ∷ ss) zero row h gap = sym (put_first row s.row.id.0 (rows_there (s ∷ ss)) (gap.higher_after 0 s.row (omega arith) (omega arith)) (rises_there s.row.id.0 (s ∷ ss) (omega arith, h.1)))
insert_there low (s ∷ ss) (suc k) row h gap = two s.is_there (insert_there (s.row.id.0 + 1) ss k row h.1 (gap_tail s.row (all_rows ss) row.id.0 k gap)) where
  two : (b : Bool) → rows_there (insert ss k (slot_of row)) ≡ with_row row (rows_there ss)
      → cond b (s.row ∷ rows_there (insert ss k (slot_of row))) (rows_there (insert ss k (slot_of row))) ≡ with_row row (cond b (s.row ∷ rows_there ss) (rows_there ss))
  two true rest = ap (λ (v : List Row). s.row ∷ v) rest ∙ sym (cond-true (ltb s.row.id.0 row.id.0) _ _ (lt-ltb s.row.id.0 row.id.0 (gap.lower_before 0 s.row (omega arith))))
  two false rest = rest

pub insert_last : (slots : List Slot) (k : ℕ) (s : Slot) → k ≡ length slots → slots ++ s ∷ [] ≡ insert slots k s
insert_last [] zero s is = refl
insert_last [] (suc k) s is = absurd (omega (arith, is))
insert_last (x ∷ xs) zero s is = absurd (omega (arith, is))
insert_last (x ∷ xs) (suc k) s is = ap (λ (v : List Slot). x ∷ v) (insert_last xs k s (omega (arith, is)))

all_inserted : (slots : List Slot) (k : ℕ) (s : Slot) → all_rows (insert slots k s) ≡ insert (all_rows slots) k s.row
all_inserted slots zero s = refl
all_inserted [] (suc k) s = refl
all_inserted (x ∷ xs) (suc k) s = ap (λ (v : List Row). x.row ∷ v) (all_inserted xs k s)

-- a row that goes

pub gone_there : (low : ℕ) (slots : List Slot) (k : ℕ) (id : ItemId) (row : Row) → RisesFrom low (all_rows slots) → IsRowAt (all_rows slots) id.0 k → rows_there (set slots k (gone_slot row)) ≡ without_row id (rows_there slots)
gone_there low [] k id row h at = absurd (omega (arith, at.in_range))
gone_there low (s ∷ ss) zero id row h at = two s.is_there (kept_above (s.row.id.0 + 1) id (rows_there ss) (omega (arith, at.has_id row)) (rises_there (s.row.id.0 + 1) ss h.1)) where
  two : (b : Bool) → without_row id (rows_there ss) ≡ rows_there ss → rows_there ss ≡ without_row id (cond b (s.row ∷ rows_there ss) (rows_there ss))
  two true rest = sym (cond-false (not (eqb s.row.id.0 id.0)) _ _ (ap not (eq-eqb s.row.id.0 id.0 (at.has_id row))) ∙ rest)
  two false rest = sym rest
gone_there low (s ∷ ss) (suc k) id row h at = two s.is_there (gone_there (s.row.id.0 + 1) ss k id row h.1 (at_tail s.row (all_rows ss) id.0 k at)) where
  two : (b : Bool) → rows_there (set ss k (gone_slot row)) ≡ without_row id (rows_there ss)
      → cond b (s.row ∷ rows_there (set ss k (gone_slot row))) (rows_there (set ss k (gone_slot row))) ≡ without_row id (cond b (s.row ∷ rows_there ss) (rows_there ss))
  two true rest = ap (λ (v : List Row). s.row ∷ v) rest ∙ sym (cond-true (not (eqb s.row.id.0 id.0)) _ _ (ap not (ne_eqb s.row.id.0 id.0 (λ e. omega (arith, before low s.row (all_rows ss) id.0 k h at)))))
  two false rest = rest

pub none_gone : (slots : List Slot) (id : ItemId) → ((j : ℕ) (d : Row) → j < length (all_rows slots) → (get_or (all_rows slots) j d).id.0 ≡ id.0 → ⊥) → rows_there slots ≡ without_row id (rows_there slots)
none_gone [] id a = refl
none_gone (s ∷ ss) id a = two s.is_there (none_gone ss id (λ j d lt e. a (suc j) d (omega arith) e)) where
  two : (b : Bool) → rows_there ss ≡ without_row id (rows_there ss) → cond b (s.row ∷ rows_there ss) (rows_there ss) ≡ without_row id (cond b (s.row ∷ rows_there ss) (rows_there ss))
  two true rest = ap (λ (v : List Row). s.row ∷ v) rest ∙ sym (cond-true (not (eqb s.row.id.0 id.0)) _ _ (ap not (ne_eqb s.row.id.0 id.0 (a zero s.row (omega arith)))))
  two false rest = rest

-- slots stay slots

pub set_slots : (slots : List Slot) (k : ℕ) (row : Row) → AreSlots slots → IsRowAt (all_rows slots) row.id.0 k → IsSpellable row → AreSlots (set slots k (slot_of row))
set_slots slots k row are at spellable =
    let is : all_rows (set slots k (slot_of row)) ≡ set (all_rows slots) k row = map-set (λ (s : Slot). s.row) slots k (slot_of row) in
    record {
      rises = subst (λ (l : List Row). RisesFrom 0 l) (sym is) (rises_set 0 (all_rows slots) k row row at.in_range (sym (at.has_id row)) are.rises);
      spellable = subst (λ (l : List Row). All IsSpellable l) (sym (is ∙ set_is_with 0 (all_rows slots) k row are.rises at)) (all_with IsSpellable row (all_rows slots) spellable are.spellable);
    }

pub insert_slots : (slots : List Slot) (k : ℕ) (row : Row) → AreSlots slots → IsRowGap (all_rows slots) row.id.0 k → IsSpellable row → AreSlots (insert slots k (slot_of row))
insert_slots slots k row are gap spellable =
    let is : all_rows (insert slots k (slot_of row)) ≡ insert (all_rows slots) k row = all_inserted slots k (slot_of row) in
    record {
      rises = subst (λ (l : List Row). RisesFrom 0 l) (sym is) (rises_insert 0 (all_rows slots) k row (omega arith) gap are.rises);
      spellable = subst (λ (l : List Row). All IsSpellable l) (sym (is ∙ insert_is_with (all_rows slots) k row gap)) (all_with IsSpellable row (all_rows slots) spellable are.spellable);
    }

same_rows : (slots : List Slot) (k : ℕ) (s : Slot) → k < length slots → s.row ≡ (get_or slots k s).row → all_rows (set slots k s) ≡ all_rows slots
same_rows [] k s lt is = refl
same_rows (x ∷ xs) zero s lt is = ap (λ (r : Row). r ∷ all_rows xs) is
same_rows (x ∷ xs) (suc k) s lt is = ap (λ (v : List Row). x.row ∷ v) (same_rows xs k s (omega arith) is)

pub gone_slots : (slots : List Slot) (k : ℕ) (row : Row) → AreSlots slots → k < length slots → row ≡ (get_or slots k (gone_slot row)).row → AreSlots (set slots k (gone_slot row))
gone_slots slots k row are lt is =
    let same : all_rows (set slots k (gone_slot row)) ≡ all_rows slots = same_rows slots k (gone_slot row) lt is in
    record { rises = subst (λ (l : List Row). RisesFrom 0 l) (sym same) are.rises; spellable = subst (λ (l : List Row). All IsSpellable l) (sym same) are.spellable }

-- a search

below_last : (low : ℕ) (rows : List Row) (k j : ℕ) (d e : Row) → RisesFrom low rows → length rows ≡ k + 1 → j ≤ k → (get_or rows j d).id.0 ≤ (get_or rows k e).id.0
below_last low [] k j d e h len le = absurd (omega arith)
below_last low (r ∷ rs) zero zero d e h len le = omega arith
below_last low (r ∷ rs) zero (suc j) d e h len le = absurd (omega arith)
below_last low (r ∷ rs) (suc k) zero d e h len le = omega (arith, from_low (r.id.0 + 1) k rs e h.1 (omega arith))
below_last low (r ∷ rs) (suc k) (suc j) d e h len le = below_last (r.id.0 + 1) rs k j d e h.1 (omega arith) (omega arith)

pub past_last : (slots : List Slot) (k id : ℕ) (s : Slot) → RisesFrom 0 (all_rows slots) → length slots ≡ k + 1 → s ≡ get_or slots k s → s.row.id.0 < id → IsRowGap (all_rows slots) id (length slots)
past_last slots k id s h len is lt =
    let same : length (all_rows slots) ≡ length slots = length-map slots (λ (s : Slot). s.row) in
    let last : get_or (all_rows slots) k s.row ≡ s.row = get_or-map (λ (s : Slot). s.row) slots k s s.row (omega (arith, len)) ∙ ap (λ (s : Slot). s.row) (sym is) in
    record {
      in_range = omega (arith, same);
      lower_before = λ j d lower. omega (arith, lt, ap (λ (r : Row). r.id.0) last, below_last 0 (all_rows slots) k j d s.row h (same ∙ len) (omega (arith, len, lower)));
      higher_after = λ j d le high. absurd (omega (arith, same, le, high));
    }

pub past_none : (slots : List Slot) (id : ℕ) → slots ≡ [] → IsRowGap (all_rows slots) id (length slots)
past_none slots id is =
    let none : length slots ≡ 0 = ap length is in
    let same : length (all_rows slots) ≡ length slots = length-map slots (λ (s : Slot). s.row) in
    record { in_range = omega (arith, same); lower_before = λ j d lower. absurd (omega (arith, none, lower)); higher_after = λ j d le high. absurd (omega (arith, none, same, high)) }

pub slot_searched : (slots : List Slot) → RisesFrom 0 (all_rows slots) → (id : ℕ) (r : Result ℕ ℕ) → IsSearchInRange r (length slots) → IsBinarySearchResult (λ (s : Slot). nat_cmp s.row.id.0 id) slots r
    → record { found : IfOk r (IsRowAt (all_rows slots) id); absent : IfErr r (IsRowGap (all_rows slots) id) }
slot_searched slots h id r within is = searched (all_rows slots) h id r (in_all r within) (of_rows r within is) where
  same : length (all_rows slots) ≡ length slots
  same = length-map slots (λ (s : Slot). s.row)

  at : (k : ℕ) (d : Row) → k < length slots → get_or (all_rows slots) k d ≡ (get_or slots k (slot_of d)).row
  at k d lt = get_or-map (λ (s : Slot). s.row) slots k (slot_of d) d lt

  in_all : (r : Result ℕ ℕ) → IsSearchInRange r (length slots) → IsSearchInRange r (length (all_rows slots))
  in_all (Ok k) lt = omega (arith, same, lt)
  in_all (Err k) le = omega (arith, same, le)

  of_rows : (r : Result ℕ ℕ) → IsSearchInRange r (length slots) → IsBinarySearchResult (λ (s : Slot). nat_cmp s.row.id.0 id) slots r → IsBinarySearchResult (λ (row : Row). nat_cmp row.id.0 id) (all_rows slots) r
  of_rows (Ok k) lt equal = λ d. ap (λ (r : Row). nat_cmp r.id.0 id) (at k d lt) ∙ equal (slot_of d)
  of_rows (Err k) le parted = λ rise. (
    λ j d below lt. ap (λ (r : Row). nat_cmp r.id.0 id) (at j d (omega (arith, le, same, lt, below))) ∙ (parted (risen rise)).0 j (slot_of d) below (omega (arith, same, lt)),
    λ j d above lt. ap (λ (r : Row). nat_cmp r.id.0 id) (at j d (omega (arith, same, lt))) ∙ (parted (risen rise)).1 j (slot_of d) above (omega (arith, same, lt)),
  ) where
    risen : IsNonDecreasingBy (λ (row : Row). ordering_index (nat_cmp row.id.0 id)) (all_rows slots) → IsNonDecreasingBy (λ (s : Slot). ordering_index (nat_cmp s.row.id.0 id)) slots
    risen rise i j d le lt =
        omega (
          arith,
          rise i j d.row le (omega (arith, same, lt)),
          ap (λ (r : Row). ordering_index (nat_cmp r.id.0 id)) (get_or-map (λ (s : Slot). s.row) slots i d d.row (omega (arith, le, lt))),
          ap (λ (r : Row). ordering_index (nat_cmp r.id.0 id)) (get_or-map (λ (s : Slot). s.row) slots j d d.row lt),
        )

-- a row above all others

pub put_last : (row : Row) (rows : List Row) → All (λ r. r.id.0 < row.id.0) rows → with_row row rows ≡ rows ++ row ∷ []
put_last row [] above = refl
put_last row (r ∷ rs) above =
    cond-true (ltb r.id.0 row.id.0) _ _ (lt-ltb r.id.0 row.id.0 (All-head (λ r. r.id.0 < row.id.0) r rs above)) ∙ ap (λ (v : List Row). r ∷ v) (put_last row rs (All-tail (λ r. r.id.0 < row.id.0) r rs above))

-- rows that are gathered: those of the slots before, and the slots that are left

pub record IsGathered (rows : List Row) (left all : List Slot) : Type 0 where
  pub rises : RisesFrom 0 (rows ++ all_rows left)
  pub spellable : All IsSpellable (all_rows left)
  pub parts : rows ++ rows_there left ≡ rows_there all

from_front : (low : ℕ) (rows : List Row) (r : Row) (rest : List Row) → RisesFrom low (rows ++ r ∷ rest) → low ≤ r.id.0
from_front low [] r rest h = h.0
from_front low (x ∷ xs) r rest h = omega (arith, h.0, from_front (x.id.0 + 1) xs r rest h.1)

rises_behind : (low : ℕ) (rows : List Row) (r : Row) (rest : List Row) → RisesFrom low (rows ++ r ∷ rest) → All (λ x. x.id.0 < r.id.0) rows
rises_behind low [] r rest h = All-nil (λ (x : Row). x.id.0 < r.id.0)
rises_behind low (x ∷ xs) r rest h = All-cons (λ (x : Row). x.id.0 < r.id.0) x xs (omega (arith, from_front (x.id.0 + 1) xs r rest h.1)) (rises_behind (x.id.0 + 1) xs r rest h.1)

rises_less : (low : ℕ) (rows : List Row) (r : Row) (rest : List Row) → RisesFrom low (rows ++ r ∷ rest) → RisesFrom low (rows ++ rest)
rises_less low [] r rest h = lower low (r.id.0 + 1) rest (omega (arith, h.0)) h.1
rises_less low (x ∷ xs) r rest h = (h.0, rises_less (x.id.0 + 1) xs r rest h.1)

pub gathered_first : (rows : List Row) (all left : List Slot) → rows ≡ [] → all ≡ left → AreSlots all → IsGathered rows left all
gathered_first rows all left none is are = record {
  rises = subst (λ (l : List Row). RisesFrom 0 l) (ap all_rows is ∙ ap (λ (l : List Row). l ++ all_rows left) (sym none)) are.rises;
  spellable = subst (λ (l : List Slot). All IsSpellable (all_rows l)) is are.spellable;
  parts = ap (λ (l : List Row). l ++ rows_there left) none ∙ ap rows_there (sym is);
}

pub next_above : (rows : List Row) (left rest all : List Slot) (s : Slot) → left ≡ s ∷ rest → IsGathered rows left all → All (λ r. r.id.0 < s.row.id.0) rows
next_above rows left rest all s is g = rises_behind 0 rows s.row (all_rows rest) (subst (λ (l : List Slot). RisesFrom 0 (rows ++ all_rows l)) is g.rises)

pub next_spellable : (rows : List Row) (left rest all : List Slot) (s : Slot) → left ≡ s ∷ rest → IsGathered rows left all → IsSpellable s.row
next_spellable rows left rest all s is g = All-head IsSpellable s.row (all_rows rest) (subst (λ (l : List Slot). All IsSpellable (all_rows l)) is g.spellable)

pub one_gathered : (rows new : List Row) (left rest all : List Slot) (s : Slot) → left ≡ s ∷ rest → new ≡ rows ++ rows_there (s ∷ []) → IsGathered rows left all → IsGathered new rest all
one_gathered rows new left rest all s is more g = record {
  rises = subst (λ (l : List Row). RisesFrom 0 (l ++ all_rows rest)) (sym more) (one s.is_there);
  spellable = All-tail IsSpellable s.row (all_rows rest) (subst (λ (l : List Slot). All IsSpellable (all_rows l)) is g.spellable);
  parts = ap (λ (l : List Row). l ++ rows_there rest) more ∙ append_assoc rows (rows_there (s ∷ [])) (rows_there rest) ∙ ap (λ (l : List Row). rows ++ l) (split s.is_there) ∙ ap (λ (l : List Slot). rows ++ rows_there l) (sym is) ∙ g.parts;
} where
  whole : RisesFrom 0 (rows ++ s.row ∷ all_rows rest)
  whole = subst (λ (l : List Slot). RisesFrom 0 (rows ++ all_rows l)) is g.rises

  one : (b : Bool) → RisesFrom 0 ((rows ++ cond b (s.row ∷ []) []) ++ all_rows rest)
  one true = subst (λ (l : List Row). RisesFrom 0 l) (sym (append_assoc rows (s.row ∷ []) (all_rows rest))) whole
  one false = subst (λ (l : List Row). RisesFrom 0 l) (sym (append_assoc rows [] (all_rows rest))) (rises_less 0 rows s.row (all_rows rest) whole)

  split : (b : Bool) → cond b (s.row ∷ []) [] ++ rows_there rest ≡ cond b (s.row ∷ rows_there rest) (rows_there rest)
  split true = refl
  split false = refl

pub all_gathered : (rows : List Row) (left all : List Slot) → left ≡ [] → IsGathered rows left all → rows ≡ rows_there all
all_gathered rows left all none g = sym (append-nil rows) ∙ ap (λ (l : List Slot). rows ++ rows_there l) (sym none) ∙ g.parts

pub slot_there : (slots : List Slot) (id k : ℕ) → IsRowAt (all_rows slots) id k → k < length slots
slot_there slots id k at = omega (arith, at.in_range, length-map slots (λ (s : Slot). s.row))
