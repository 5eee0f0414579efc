-- The index of rows, and what changes of the rows make of it.
use Rattle.std.proofs.Common.{◌≡◌, ℕ, zero, suc, ◌+◌, ◌<◌, ◌≤◌, Bool, true, false, not, cond, List, [], ◌∷◌, ◌++◌, length, get_or, set, refl, sym, ap, subst, ◌∙◌, arith, eqb, ltb, Result, Ok, Err, inl, inr}
use Rattle.std.specs.Prelude.{All, IfOk, OnErr, OnOk, filter, insert, remove}
use Rattle.std.specs.Cmp.{IsTotalOrder}
use Rattle.std.specs.Cmp.Lexicographic.{slice_cmp}
use Rattle.std.specs.List.Sorted.{IsPartitionPoint, IsPartitionedBy}
use Rattle.std.specs.Ordering.{is_lt, is_eq, nat_cmp, ordering_reverse, ordering_then}
use Rattle.std.specs.declared.cmp.Ordering.{Ordering}
use Rattle.std.specs.declared.cmp.Ordering.TheVariants.{Less, Equal, Greater}
use Rattle.std.proofs.lemmas.Bool.{cond-true, cond-false, cases_lt, eq-eqb, le-ltb, lt-ltb, ne_eqb}
use Rattle.std.proofs.lemmas.Bool.Decides.{nat_tests}
use Rattle.std.proofs.lemmas.Cmp.{nat_cmp_total, nat_list_cmp_total, on_total, ranked, then_total, tied_itself}
use Rattle.std.proofs.lemmas.List.{get_or_default}
use Rattle.std.proofs.lemmas.List.Elements.{All-head, All-tail}
use Rattle.cf_base.specs.declared.changes.Change.{Change}
use Rattle.cf_base.specs.declared.ids.ItemId.{ItemId}
use Rattle.cf_base.specs.declared.ids.Usn.{Usn}
use Rattle.cf_base.specs.declared.items.Pin.{Pin}
use Rattle.cf_model.specs.Words.{put_in, sorted}
use Rattle.cf_table.specs.Applied.{Moves, Steps, moves}
use Rattle.cf_lists.specs.Ordered.{AllAfter, InOrder}
use Rattle.cf_table.specs.Index.{IsIndexed, IsPlaceOf, compared, entries_of, entry_at, entry_of, index_of, stands_before, without_entry}
use Rattle.cf_table.specs.Means.{KeepsPlace}
use Rattle.cf_table.specs.Tables.{IsRowAt, IsRowGap, IsTable, RisesFrom, SetsAt, with_row, without_row}
use Rattle.cf_table.specs.declared.entries.Entry.{Entry}
use Rattle.cf_table.specs.declared.rows.Row.{Row}
use Rattle.cf_lists.proofs.Ordered as ordered
use Rattle.cf_table.proofs.TableMeans.{at_tail, before, gap_is_without, kept_above, not_there, remove_is_without, rises_without, set_is_with}

-- the order

pub compared_total : IsTotalOrder compared
compared_total = then_total (on_total (λ (e : Entry). e.parent.0) nat_cmp_total) (then_total (on_total (λ (e : Entry). e.name) nat_list_cmp_total) (on_total (λ (e : Entry). e.id.0) nat_cmp_total))

pub number_is : (m n : ℕ) → eqb m n ≡ true → m ≡ n
number_is m n h = grind (arith, nat_tests)

second_equal : (a b : Ordering) → ordering_then a b ≡ Equal → b ≡ Equal
second_equal Less b h = let z : Less ≡ Equal = h in cc
second_equal Equal b h = h
second_equal Greater b h = let z : Greater ≡ Equal = h in cc

-- one entry has one id
pub one_id : (e f : Entry) → compared e f ≡ Equal → e.id.0 ≡ f.id.0
one_id e f h = equal (nat_cmp e.id.0 f.id.0) refl (second_equal (slice_cmp nat_cmp e.name f.name) _ (second_equal (nat_cmp e.parent.0 f.parent.0) _ h)) where
  equal : (o : Ordering) → o ≡ nat_cmp e.id.0 f.id.0 → o ≡ Equal → e.id.0 ≡ f.id.0
  equal Less g k = let z : Less ≡ Equal = k in cc
  equal Equal g k = ranked e.id.0 f.id.0 Equal g
  equal Greater g k = let z : Greater ≡ Equal = k in cc

pub equal_itself : (e : Entry) → compared e e ≡ Equal
equal_itself e = tied_itself compared_total e

-- the entries of rows are apart

pub apart_below : (x : Entry) (low : ℕ) (rows : List Row) → x.id.0 < low → RisesFrom low rows → ordered.Apart compared compared_total x (entries_of rows)
apart_below x low [] h r = tt
apart_below x low (y ∷ ys) h r = ((λ e. omega (arith, one_id x (entry_of y) e, r.0)), apart_below x (y.id.0 + 1) ys (omega (arith, r.0)) r.1)

pub all_apart : (low : ℕ) (rows : List Row) → RisesFrom low rows → ordered.AllApart compared compared_total (entries_of rows)
all_apart low [] r = tt
all_apart low (x ∷ xs) r = (apart_below (entry_of x) (x.id.0 + 1) xs (omega arith) r.1, all_apart (x.id.0 + 1) xs r.1)

pub index_in_order : (rows : List Row) → RisesFrom 0 rows → InOrder stands_before (index_of rows)
index_in_order rows r = ordered.sorted_in_order compared compared_total (entries_of rows) (all_apart 0 rows r)

-- the place of an entry

pub parted : (key : Entry) (es : List Entry) → InOrder stands_before es → IsPartitionedBy (λ e. stands_before e key) es
parted key es h i j d le lt at = elim (cases_lt i j) [
  | inl less ↦ ordered.goes_on compared compared_total (get_or es i d) (get_or es j d) key (ordered.rise compared compared_total es i j d h less lt) at
  | inr more ↦ let e : i ≡ j = omega arith in ap (λ k. stands_before (get_or es k d) key) e ∙ at
]

pub place_is : (key : Entry) (es : List Entry) (n : ℕ) → n ≤ length es → IsPartitionPoint (λ e. stands_before e key ≡ true) (λ e. stands_before e key ≡ false) es n → IsPlaceOf key es n
place_is key es n le h = record { in_range = le; before = λ k d lt. h.0 k d (omega arith) lt; from = λ k d ge lt. h.1 k d ge lt }

pub place_tail : (key e : Entry) (es : List Entry) (n : ℕ) → IsPlaceOf key (e ∷ es) (suc n) → IsPlaceOf key es n
place_tail key e es n p = record {
  in_range = omega (arith, p.in_range);
  before = λ k d lt. p.before (suc k) d (omega arith);
  from = λ k d ge lt. p.from (suc k) d (omega arith) (omega arith);
}

pub insert_is_put : (key : Entry) (es : List Entry) (n : ℕ) → IsPlaceOf key es n → insert es n key ≡ put_in stands_before key es
insert_is_put key [] zero p = refl
insert_is_put key [] (suc n) p = absurd (omega (arith, p.in_range))
insert_is_put key (e ∷ es) zero p = sym (cond-false (stands_before e key) _ _ (p.from 0 e (omega arith) (omega arith)))
insert_is_put key (e ∷ es) (suc n) p =
    ap (λ l. e ∷ l) (insert_is_put key es n (place_tail key e es n p)) ∙ sym (cond-true (stands_before e key) _ _ (p.before 0 e (omega arith)))

-- what comes before another, or after it, is not it

pub other : (o : Ordering) → is_lt o ≡ true → is_eq o ≡ false
other Less h = refl
other Equal h = let z : false ≡ true = h in cc
other Greater h = refl

other_back : (a b : Ordering) → a ≡ ordering_reverse b → is_lt b ≡ true → is_eq a ≡ false
other_back a Less e h = ap is_eq e
other_back a Equal e h = let z : false ≡ true = h in cc
other_back a Greater e h = let z : false ≡ true = h in cc

pub untouched : (key : Entry) (es : List Entry) → AllAfter stands_before key es → without_entry key es ≡ es
untouched key [] h = refl
untouched key (e ∷ es) h =
    cond-true (not (is_eq (compared e key))) _ _ (ap not (other_back (compared e key) (compared key e) (compared_total.antisymm e key) h.0)) ∙ ap (λ l. e ∷ l) (untouched key es h.1)

-- an entry that goes

pub equal_is : (o : Ordering) → is_eq o ≡ true → o ≡ Equal
equal_is Less h = let z : false ≡ true = h in cc
equal_is Equal h = refl
equal_is Greater h = let z : false ≡ true = h in cc

pub all_after_equal : (e key : Entry) (es : List Entry) → compared e key ≡ Equal → AllAfter stands_before e es → AllAfter stands_before key es
all_after_equal e key [] h a = tt
all_after_equal e key (f ∷ fs) h a = (ap is_lt (sym (compared_total.congr e key f h)) ∙ a.0, all_after_equal e key fs h a.1)

pub entry_removed : (key : Entry) (es : List Entry) (n : ℕ) (d : Entry) → InOrder stands_before es → IsPlaceOf key es n → n < length es → is_eq (compared (get_or es n d) key) ≡ true → remove es n ≡ without_entry key es
entry_removed key [] n d o p lt h = absurd (omega arith)
entry_removed key (e ∷ es) zero d o p lt h =
    sym (cond-false (not (is_eq (compared e key))) _ _ (ap not h) ∙ untouched key es (all_after_equal e key es (equal_is (compared e key) h) o.0))
entry_removed key (e ∷ es) (suc n) d o p lt h =
    ap (λ l. e ∷ l) (entry_removed key es n d o.1 (place_tail key e es n p) (omega arith) h)
    ∙ sym (cond-true (not (is_eq (compared e key))) _ _ (ap not (other (compared e key) (p.before 0 e (omega arith)))))

pub not_equal : (o : Ordering) → is_eq o ≡ false → o ≡ Equal → ⊥
not_equal o h e = let z : true ≡ false = sym (ap is_eq e) ∙ h in cc

pub none_removed : (key : Entry) (es : List Entry) (n : ℕ) (d : Entry) → InOrder stands_before es → IsPlaceOf key es n → (n < length es → is_eq (compared (get_or es n d) key) ≡ false) → without_entry key es ≡ es
none_removed key [] n d o p h = refl
none_removed key (e ∷ es) zero d o p h =
    let first : stands_before key e ≡ true = ordered.other_way compared compared_total e key (not_equal (compared e key) (h (omega arith))) ∙ ap not (p.from 0 e (omega arith) (omega arith)) in
    untouched key (e ∷ es) (first, ordered.all_goes_on compared compared_total key e es first o.0)
none_removed key (e ∷ es) (suc n) d o p h =
    cond-true (not (is_eq (compared e key))) _ _ (ap not (other (compared e key) (p.before 0 e (omega arith))))
    ∙ ap (λ l. e ∷ l) (none_removed key es n d o.1 (place_tail key e es n p) (λ lt. h (omega arith)))

no_entry : (r s : Row) → (r.id.0 ≡ s.id.0 → ⊥) → is_eq (compared (entry_of r) (entry_of s)) ≡ false
no_entry r s h = not_eq (compared (entry_of r) (entry_of s)) (λ e. h (one_id (entry_of r) (entry_of s) e)) where
  not_eq : (o : Ordering) → (o ≡ Equal → ⊥) → is_eq o ≡ false
  not_eq Less h = refl
  not_eq Equal h = absurd (h refl)
  not_eq Greater h = refl

-- a row that comes

apart_all : (new : Row) (rows : List Row) → All (λ r. r.id.0 < new.id.0) rows → ordered.Apart compared compared_total (entry_of new) (entries_of rows)
apart_all new [] a = tt
apart_all new (x ∷ xs) a = ((λ e. omega (arith, one_id (entry_of new) (entry_of x) e, All-head (λ r. r.id.0 < new.id.0) x xs a)), apart_all new xs (All-tail (λ r. r.id.0 < new.id.0) x xs a))

pub index_push : (rows : List Row) (new : Row) → All (λ r. r.id.0 < new.id.0) rows → index_of (rows ++ new ∷ []) ≡ put_in stands_before (entry_of new) (index_of rows)
index_push rows new a = ap (λ l. sorted stands_before l) (pushed rows) ∙ ordered.sorted_push compared compared_total (entry_of new) (entries_of rows) (apart_all new rows a) where
  pushed : (rows : List Row) → entries_of (rows ++ new ∷ []) ≡ entries_of rows ++ entry_of new ∷ []
  pushed [] = refl
  pushed (x ∷ xs) = ap (λ l. entry_of x ∷ l) (pushed xs)

pub index_with : (low : ℕ) (row : Row) (rows : List Row) → RisesFrom low rows → index_of (with_row row rows) ≡ put_in stands_before (entry_of row) (index_of (without_row row.id rows))
index_with low row [] h = refl
index_with low row (r ∷ rs) h = elim (cases_lt r.id.0 row.id.0) [
  | inl less ↦ ap index_of (cond-true (ltb r.id.0 row.id.0) _ _ (lt-ltb r.id.0 row.id.0 less))
      ∙ ap (put_in stands_before (entry_of r)) (index_with (r.id.0 + 1) row rs h.1)
      ∙ ordered.puts_commute compared compared_total (entry_of r) (entry_of row) (index_of (without_row row.id rs)) (λ e. omega (arith, one_id (entry_of r) (entry_of row) e))
      ∙ ap (λ l. put_in stands_before (entry_of row) (index_of l)) (sym (cond-true (not (eqb r.id.0 row.id.0)) _ _ (ap not (ne_eqb r.id.0 row.id.0 (λ e. omega arith)))))
  | inr more ↦ ap index_of (cond-false (ltb r.id.0 row.id.0) _ _ (le-ltb r.id.0 row.id.0 more)) ∙ two more (eqb r.id.0 row.id.0) refl
] where
  two : row.id.0 ≤ r.id.0 → (b : Bool) → eqb r.id.0 row.id.0 ≡ b → index_of (cond b (row ∷ rs) (row ∷ r ∷ rs)) ≡ put_in stands_before (entry_of row) (index_of (without_row row.id (r ∷ rs)))
  two le true e =
      ap (λ l. put_in stands_before (entry_of row) (index_of l))
      (sym (cond-false (not (eqb r.id.0 row.id.0)) _ _ (ap not e) ∙ kept_above (r.id.0 + 1) row.id rs (omega (arith, number_is r.id.0 row.id.0 e)) h.1))
  two le false e =
      ap (λ l. put_in stands_before (entry_of row) (index_of l))
      (sym (cond-true (not (eqb r.id.0 row.id.0)) _ _ (ap not e) ∙ ap (λ l. r ∷ l) (kept_above (r.id.0 + 1) row.id rs (omega arith) h.1)))

-- a row that goes

-- rows above an id have none of its entry
entries_above : (low : ℕ) (key : Row) (rows : List Row) → key.id.0 < low → RisesFrom low rows → filter (λ e. not (is_eq (compared e (entry_of key)))) (entries_of rows) ≡ entries_of rows
entries_above low key [] h r = refl
entries_above low key (x ∷ xs) h r =
    cond-true (not (is_eq (compared (entry_of x) (entry_of key)))) _ _ (ap not (no_entry x key (λ e. omega (arith, r.0)))) ∙ ap (λ l. entry_of x ∷ l) (entries_above (x.id.0 + 1) key xs (omega (arith, r.0)) r.1)

entries_without : (low : ℕ) (rows : List Row) (id : ItemId) (k : ℕ) (d : Row) → RisesFrom low rows → IsRowAt rows id.0 k →
    filter (λ e. not (is_eq (compared e (entry_of (get_or rows k d))))) (entries_of rows) ≡ entries_of (without_row id rows)
entries_without low [] id k d h at = absurd (omega (arith, at.in_range))
entries_without low (x ∷ xs) id zero d h at =
    cond-false (not (is_eq (compared (entry_of x) (entry_of x)))) _ _ (ap not (ap is_eq (equal_itself (entry_of x))))
    ∙ entries_above (x.id.0 + 1) x xs (omega arith) h.1
    ∙ ap entries_of (sym (cond-false (not (eqb x.id.0 id.0)) _ _ (ap not (eq-eqb x.id.0 id.0 (at.has_id x))) ∙ kept_above (x.id.0 + 1) id xs (omega (arith, at.has_id x)) h.1))
entries_without low (x ∷ xs) id (suc k) d h at =
    let less : x.id.0 < id.0 = before low x xs id.0 k h at in
    cond-true (not (is_eq (compared (entry_of x) (entry_of (get_or xs k d))))) _ _ (ap not (no_entry x (get_or xs k d) (λ e. omega (arith, at.has_id d))))
    ∙ ap (λ l. entry_of x ∷ l) (entries_without (x.id.0 + 1) xs id k d h.1 (at_tail x xs id.0 k at))
    ∙ ap entries_of (sym (cond-true (not (eqb x.id.0 id.0)) _ _ (ap not (ne_eqb x.id.0 id.0 (λ e. omega arith)))))

pub index_without : (rows : List Row) (id : ItemId) (k : ℕ) (d : Row) → RisesFrom 0 rows → IsRowAt rows id.0 k → without_entry (entry_of (get_or rows k d)) (index_of rows) ≡ index_of (without_row id rows)
index_without rows id k d h at =
    ordered.filter_sorted compared compared_total (λ e. not (is_eq (compared e (entry_of (get_or rows k d))))) (entries_of rows) (all_apart 0 rows h)
    ∙ ap (λ l. sorted stands_before l) (entries_without 0 rows id k d h at)

-- a row in another place, or in its own

pub entries_set : (rows : List Row) (k : ℕ) (s d : Row) → entry_of s ≡ entry_of (get_or rows k d) → k < length rows → entries_of (set rows k s) ≡ entries_of rows
entries_set [] k s d e lt = refl
entries_set (x ∷ xs) zero s d e lt = ap (λ v. v ∷ entries_of xs) e
entries_set (x ∷ xs) (suc k) s d e lt = ap (λ l. entry_of x ∷ l) (entries_set xs k s d e (omega arith))

pub index_set : (P : Row → Row → Type 0) → ((r s : Row) → P r s → entry_of s ≡ entry_of r) → (k : ℕ) (old new : List Row) → k < length old → SetsAt P k old new → index_of new ≡ index_of old
index_set P same k old new lt sets = ap index_of sets.2 ∙ ap (λ l. sorted stands_before l) (entries_set old k sets.0 sets.0 (same (get_or old k sets.0) sets.0 sets.1) lt)

entry_is : (s : Row) (parent : ItemId) (name : List ℕ) (id : ItemId) → s.parent ≡ parent → s.name ≡ name → s.id ≡ id → entry_of s ≡ entry_at parent name id
entry_is s parent name id p n i = λ j. record { parent = p j; name = n j; id = i j }

pub same_parts : (parent : ItemId) (n m : List ℕ) (i k : ItemId) → n ≡ m → i ≡ k → entry_at parent n i ≡ entry_at parent m k
same_parts parent n m i k e f = λ j. record { parent = parent; name = e j; id = f j }

pub same_entry : (r s : Row) → KeepsPlace r s → s.id ≡ r.id → entry_of s ≡ entry_of r
same_entry r s p i = entry_is s r.parent r.name r.id p.parent p.name i

pub row_here : (rows : List Row) (k : ℕ) (r : Row) → k < length rows → r ≡ get_or rows k r → IsRowAt rows r.id.0 k
row_here rows k r lt is = record { in_range = lt; has_id = λ d. ap (λ (v : Row). v.id.0) (get_or_default rows k d r lt ∙ sym is) }

-- of some row of a list
pub of_some : (P : Type 0) (rows : List Row) (k : ℕ) → k < length rows → ((d : Row) → P) → P
of_some P [] k lt f = absurd (omega arith)
of_some P (x ∷ xs) k lt f = f x

-- rows and their index

pub entries_in_order : (rows : List Row) (es : List Entry) (n : ℕ) → IsIndexed rows es n → InOrder stands_before es
entries_in_order rows es n t = subst (λ (l : List Entry). InOrder stands_before l) (sym t.index) (index_in_order rows t.table.rises)

pub without_in_order : (rows : List Row) (id : ItemId) → RisesFrom 0 rows → InOrder stands_before (index_of (without_row id rows))
without_in_order rows id h = index_in_order (without_row id rows) (rises_without 0 id rows h)

pub pushed_indexed : (rows new : List Row) (es put : List Entry) (e : Entry) (row : Row) (n m : ℕ) → IsIndexed rows es n → All (λ r. r.id.0 < row.id.0) rows → e ≡ entry_of row → put ≡ put_in stands_before e es → new ≡ rows ++ row ∷ [] → IsTable new m →
    IsIndexed new put m
pushed_indexed rows new es put e row n m t above same puts is table = record {
  table = table;
  index = puts ∙ ap (λ v. put_in stands_before v es) same ∙ ap (put_in stands_before (entry_of row)) t.index ∙ sym (ap index_of is ∙ index_push rows row above);
}

-- the entry of the row at a place goes
pub entry_gone : (rows : List Row) (es left : List Entry) (id : ItemId) (k n : ℕ) (r : Row) → IsIndexed rows es n → IsRowAt rows id.0 k → r ≡ get_or rows k r → left ≡ without_entry (entry_of r) es → left ≡ index_of (without_row id rows)
entry_gone rows es left id k n r t at is goes =
    goes ∙ ap (λ v. without_entry (entry_of v) es) is ∙ ap (without_entry (entry_of (get_or rows k r))) t.index ∙ index_without rows id k r t.table.rises at

pub replaced_indexed : (rows new : List Row) (es left put : List Entry) (e : Entry) (row r : Row) (k n m : ℕ) → IsIndexed rows es n → IsRowAt rows row.id.0 k → r ≡ get_or rows k r → left ≡ without_entry (entry_of r) es →
    e ≡ entry_of row → put ≡ put_in stands_before e left → new ≡ with_row row rows → IsTable new m → IsIndexed new put m
replaced_indexed rows new es left put e row r k n m t at is goes same puts with table = record {
  table = table;
  index = puts ∙ ap (λ v. put_in stands_before v left) same ∙ ap (put_in stands_before (entry_of row)) (entry_gone rows es left row.id k n r t at is goes)
      ∙ sym (ap index_of with ∙ index_with 0 row rows t.table.rises);
}

-- a row that has the entry of the one before it in its place
pub kept_entry : (rows new : List Row) (es : List Entry) (e : Entry) (row r : Row) (k n m : ℕ) → IsIndexed rows es n → IsRowAt rows row.id.0 k → r ≡ get_or rows k r → entry_of r ≡ e → e ≡ entry_of row →
    new ≡ with_row row rows → IsTable new m → IsIndexed new es m
kept_entry rows new es e row r k n m t at is has same with table = record {
  table = table;
  index = t.index
      ∙ sym (ap index_of (with ∙ sym (set_is_with 0 rows k row t.table.rises at))
      ∙ ap (λ l. sorted stands_before l) (entries_set rows k row r (sym (has ∙ same) ∙ ap entry_of is) at.in_range));
}

pub inserted_indexed : (rows new : List Row) (es put : List Entry) (e : Entry) (row : Row) (k n m : ℕ) → IsIndexed rows es n → IsRowGap rows row.id.0 k → e ≡ entry_of row → put ≡ put_in stands_before e es → new ≡ with_row row rows → IsTable new m → IsIndexed new put m
inserted_indexed rows new es put e row k n m t gap same puts with table = record {
  table = table;
  index = puts ∙ ap (λ v. put_in stands_before v es) same ∙ ap (put_in stands_before (entry_of row)) t.index
      ∙ ap (λ l. put_in stands_before (entry_of row) (index_of l)) (sym (gap_is_without row.id rows (not_there rows row.id.0 k gap)))
      ∙ sym (ap index_of with ∙ index_with 0 row rows t.table.rises);
}

pub removed_indexed : (rows new : List Row) (es left : List Entry) (k n m : ℕ) (r : Row) → IsIndexed rows es n → k < length rows → r ≡ get_or rows k r → left ≡ without_entry (entry_of r) es → new ≡ remove rows k → IsTable new m → IsIndexed new left m
removed_indexed rows new es left k n m r t lt is goes gone table =
    let at : IsRowAt rows r.id.0 k = row_here rows k r lt is in
    record { table = table; index = entry_gone rows es left r.id k n r t at is goes ∙ sym (ap index_of (gone ∙ remove_is_without 0 r.id rows k t.table.rises at)) }

pub moved_indexed : (rows new : List Row) (es left put : List Entry) (e : Entry) (r : Row) (k n m : ℕ) (parent : ItemId) (name : List ℕ) (pin : Pin) (number : Usn) → IsIndexed rows es n → k < length rows → r ≡ get_or rows k r → left ≡ without_entry (entry_of r) es →
    e ≡ entry_at parent name r.id → put ≡ put_in stands_before e left → SetsAt (Moves parent name pin number) k rows new → IsTable new m → IsIndexed new put m
moved_indexed rows new es left put e r k n m parent name pin number t lt is goes same puts sets table =
    let here : get_or rows k sets.0 ≡ r = get_or_default rows k sets.0 r lt ∙ sym is in
    let id : sets.0.id ≡ r.id = sets.1.rest.id ∙ ap (λ (v : Row). v.id) here in
    let at : IsRowAt rows sets.0.id.0 k = record { in_range = lt; has_id = λ d. ap (λ (v : Row). v.id.0) (get_or_default rows k d r lt ∙ sym is) ∙ sym (ap (λ v. v.0) id) } in
    replaced_indexed rows new es left put e sets.0 r k n m t at is goes
    (same ∙ sym (entry_is sets.0 parent name r.id sets.1.place.0 sets.1.place.1 id)) puts (sets.2 ∙ set_is_with 0 rows k sets.0 t.table.rises at) table

-- a row that keeps its place

pub set_indexed : (P : Row → Row → Type 0) → ((r s : Row) → P r s → entry_of s ≡ entry_of r) → (k n m : ℕ) (old new : List Row) (es : List Entry) → IsIndexed old es n → k < length old → SetsAt P k old new → IsTable new m → IsIndexed new es m
set_indexed P same k n m old new es t lt sets table = record { table = table; index = t.index ∙ sym (index_set P same k old new lt sets) }

pub maybe_set_indexed : {A E : Type 0} (r : Result A E) (P : Row → Row → Type 0) → ((r s : Row) → P r s → entry_of s ≡ entry_of r) → (k n m : ℕ) (old new : List Row) (es : List Entry) → IsIndexed old es n → k < length old →
    OnOk r (SetsAt P k old new) → OnErr r ((new ≡ old) × (m ≡ n)) → IsTable new m → IsIndexed new es m
maybe_set_indexed (Ok x) P same k n m old new es t lt sets err table = set_indexed P same k n m old new es t lt sets table
maybe_set_indexed (Err e) P same k n m old new es t lt sets err table = record { table = table; index = t.index ∙ sym (ap index_of err.0) }

pub kept_indexed : {E : Type 0} (r : Result ℕ E) (c : Change) (pin : Pin) (number : Usn) (k n : ℕ) (old new : List Row) (es : List Entry) → IsIndexed old es n → k < length old → moves c ≡ false →
    IfOk r (IsTable new) → OnOk r (SetsAt (Steps c pin number) k old new) → IfOk r (IsIndexed new es)
kept_indexed (Ok m) c pin number k n old new es t lt stays table sets = record {
  table = table;
  index = t.index ∙ sym (index_set (Steps c pin number) (λ r s p. same_entry r s (p.place stays) p.rest.id) k old new lt sets);
}
kept_indexed (Err e) c pin number k n old new es t lt stays table sets = tt
