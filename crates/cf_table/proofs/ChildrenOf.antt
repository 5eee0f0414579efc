-- The children of a directory, as the index gives them, as rows, and as items.
use Rattle.std.proofs.Common.{◌≡◌, ℕ, ◌+◌, ◌<◌, ◌≤◌, Bool, true, false, ◌&&◌, cond, List, [], ◌∷◌, refl, sym, ap, ◌∙◌, arith, eqb, Some}
use Rattle.std.specs.Prelude.{filter, find, map, option_map}
use Rattle.std.specs.Cmp.Lexicographic.{slice_cmp}
use Rattle.std.specs.Ordering.{is_lt, nat_cmp, ordering_then}
use Rattle.std.specs.declared.cmp.Ordering.{Ordering}
use Rattle.std.specs.declared.cmp.Ordering.TheVariants.{Less, Equal, Greater}
use Rattle.std.proofs.lemmas.Bool.{lt-ltb, le-ltb}
use Rattle.std.proofs.lemmas.Bool.Decides.{nat_tests}
use Rattle.std.proofs.lemmas.Cmp.{nat_cmp_total, same_from_slice_cmp, tied_itself}
use Rattle.cf_base.specs.declared.ids.ItemId.{ItemId}
use Rattle.cf_base.specs.declared.ids.Usn.{Usn}
use Rattle.cf_model.specs.Items.{Item}
use Rattle.cf_model.specs.LookUp.{by_name, child_of, children, is_child_named}
use Rattle.cf_model.specs.Numbers.{above}
use Rattle.cf_model.specs.Words.{comes_before, put_in, same, sorted}
use Rattle.cf_lists.specs.Ordered.{AllAfter, InOrder}
use Rattle.cf_table.specs.Index.{compared, entries_of, entry_id, entry_ids, entry_of, index_of, is_entry_in, is_entry_of, stands_before}
use Rattle.cf_table.specs.Means.{Means}
use Rattle.cf_table.specs.Tables.{MeansAll, RisesFrom, child_rows, id_of, ids_of, is_child_row, rows_by_name}
use Rattle.cf_table.specs.declared.rows.Row.{Row}
use Rattle.cf_table.proofs.Indexed.{all_apart, compared_total, number_is}
use Rattle.cf_table.proofs.NamedEntries.{by_id, first_of_both, less_is, same_is, second_of_both}
use Rattle.cf_lists.proofs.Ordered as ordered

-- the one with a name

named_after : (parent : ItemId) (name : List ℕ) (low : ℕ) (x : Row) (rows : List Row) → is_entry_of parent name (entry_of x) ≡ true → x.id.0 < low → RisesFrom low rows → AllAfter stands_before (entry_of x) (filter (is_entry_of parent name) (entries_of rows))
named_after parent name low x [] e h r = tt
named_after parent name low x (y ∷ ys) e h r = by (named_after parent name (y.id.0 + 1) x ys e (omega (arith, r.0)) r.1) (is_entry_of parent name (entry_of y)) refl where
  here : is_entry_of parent name (entry_of y) ≡ true → stands_before (entry_of x) (entry_of y) ≡ true
  here f =
      by_id (entry_of x) (entry_of y)
      (number_is x.parent.0 parent.0 (first_of_both (eqb x.parent.0 parent.0) (same x.name name) e) ∙ sym (number_is y.parent.0 parent.0 (first_of_both (eqb y.parent.0 parent.0) (same y.name name) f)))
      (same_is x.name name (second_of_both (eqb x.parent.0 parent.0) (same x.name name) e) ∙ sym (same_is y.name name (second_of_both (eqb y.parent.0 parent.0) (same y.name name) f)))
      ∙ lt-ltb x.id.0 y.id.0 (omega (arith, r.0, h))

  by : AllAfter stands_before (entry_of x) (filter (is_entry_of parent name) (entries_of ys)) → (b : Bool) → is_entry_of parent name (entry_of y) ≡ b →
      AllAfter stands_before (entry_of x) (cond b (entry_of y ∷ filter (is_entry_of parent name) (entries_of ys)) (filter (is_entry_of parent name) (entries_of ys)))
  by rest true f = (here f, rest)
  by rest false f = rest

named_in_order : (parent : ItemId) (name : List ℕ) (low : ℕ) (rows : List Row) → RisesFrom low rows → InOrder stands_before (filter (is_entry_of parent name) (entries_of rows))
named_in_order parent name low [] r = tt
named_in_order parent name low (x ∷ xs) r = by (named_in_order parent name (x.id.0 + 1) xs r.1) (is_entry_of parent name (entry_of x)) refl where
  by : InOrder stands_before (filter (is_entry_of parent name) (entries_of xs)) → (b : Bool) → is_entry_of parent name (entry_of x) ≡ b →
      InOrder stands_before (cond b (entry_of x ∷ filter (is_entry_of parent name) (entries_of xs)) (filter (is_entry_of parent name) (entries_of xs)))
  by rest true f = (named_after parent name (x.id.0 + 1) x xs f (omega arith) r.1, rest)
  by rest false f = rest

named_row : (parent : ItemId) (name : List ℕ) (rows : List Row) → entry_id (find (is_entry_of parent name) (entries_of rows)) ≡ id_of (find (is_child_row parent name) rows)
named_row parent name [] = refl
named_row parent name (x ∷ xs) = by (named_row parent name xs) (is_child_row parent name x) where
  by : entry_id (find (is_entry_of parent name) (entries_of xs)) ≡ id_of (find (is_child_row parent name) xs) → (b : Bool) →
      entry_id (cond b (Some (entry_of x)) (find (is_entry_of parent name) (entries_of xs))) ≡ id_of (cond b (Some x) (find (is_child_row parent name) xs))
  by rest true = refl
  by rest false = rest

pub child_is : (parent : ItemId) (name : List ℕ) (rows : List Row) → RisesFrom 0 rows → entry_id (find (is_entry_of parent name) (index_of rows)) ≡ id_of (find (is_child_row parent name) rows)
child_is parent name rows r =
    ap entry_id (ordered.find_first (is_entry_of parent name) (index_of rows)
    ∙ ap ordered.first (ordered.filter_sorted compared compared_total (is_entry_of parent name) (entries_of rows) (all_apart 0 rows r)
    ∙ ordered.sorted_already compared compared_total (filter (is_entry_of parent name) (entries_of rows)) (named_in_order parent name 0 rows r))
    ∙ sym (ordered.find_first (is_entry_of parent name) (entries_of rows)))
    ∙ named_row parent name rows

-- all of them, by name

pub name_order : (xs ys : List ℕ) → is_lt (slice_cmp nat_cmp xs ys) ≡ comes_before xs ys
name_order xs ys = same_from_slice_cmp nat_cmp is_lt comes_before refl (λ _ _. refl) (λ _ _. refl) (λ x y us vs o h. grind (arith, nat_tests)) xs ys (slice_cmp nat_cmp xs ys) refl

-- where the first has the greater id, the name alone decides
by_name_alone : (a b c : Ordering) → a ≡ Equal → is_lt c ≡ false → is_lt (ordering_then a (ordering_then b c)) ≡ is_lt b
by_name_alone a b c h k = ap (λ o. is_lt (ordering_then o (ordering_then b c))) h ∙ by b where
  by : (b : Ordering) → is_lt (ordering_then b c) ≡ is_lt b
  by Less = refl
  by Equal = k
  by Greater = refl

row_order : (r s : Row) → s.parent.0 ≡ r.parent.0 → r.id.0 < s.id.0 → stands_before (entry_of s) (entry_of r) ≡ comes_before s.name r.name
row_order r s p h =
    by_name_alone (nat_cmp s.parent.0 r.parent.0) (slice_cmp nat_cmp s.name r.name) (nat_cmp s.id.0 r.id.0) (ap (λ n. nat_cmp n r.parent.0) p ∙ tied_itself nat_cmp_total r.parent.0) (less_is s.id.0 r.id.0 ∙ le-ltb s.id.0 r.id.0 (omega arith))
    ∙ name_order s.name r.name

-- rows of the same directory with greater ids
abbrev Past : Row → List Row → Type 0
Past r [] = Unit {0}
Past r (s ∷ ss) = (s.parent.0 ≡ r.parent.0) × (r.id.0 < s.id.0) × Past r ss

past_put : (f : Row → Row → Bool) (r s : Row) (l : List Row) → s.parent.0 ≡ r.parent.0 → r.id.0 < s.id.0 → Past r l → Past r (put_in f s l)
past_put f r s [] p h a = (p, h, tt)
past_put f r s (t ∷ ts) p h a = by (past_put f r s ts p h a.2) (f t s) where
  by : Past r (put_in f s ts) → (b : Bool) → Past r (cond b (t ∷ put_in f s ts) (s ∷ t ∷ ts))
  by rest true = (a.0, a.1, rest)
  by rest false = (p, h, a)

past_sorted : (f : Row → Row → Bool) (r : Row) (l : List Row) → Past r l → Past r (sorted f l)
past_sorted f r [] a = tt
past_sorted f r (s ∷ ss) a = past_put f r s (sorted f ss) a.0 a.1 (past_sorted f r ss a.2)

put_by_name : (r : Row) (l : List Row) → Past r l → put_in stands_before (entry_of r) (entries_of l) ≡ entries_of (put_in (λ r s. comes_before r.name s.name) r l)
put_by_name r [] a = refl
put_by_name r (s ∷ ss) a = by (put_by_name r ss a.2) (stands_before (entry_of s) (entry_of r)) (comes_before s.name r.name) (row_order r s a.0 a.1) where
  by : put_in stands_before (entry_of r) (entries_of ss) ≡ entries_of (put_in (λ r s. comes_before r.name s.name) r ss) → (b c : Bool) → b ≡ c →
      cond b (entry_of s ∷ put_in stands_before (entry_of r) (entries_of ss)) (entry_of r ∷ entry_of s ∷ entries_of ss) ≡ entries_of (cond c (s ∷ put_in (λ r s. comes_before r.name s.name) r ss) (r ∷ s ∷ ss))
  by rest true true e = ap (λ l. entry_of s ∷ l) rest
  by rest true false e = let z : true ≡ false = e in cc
  by rest false true e = let z : false ≡ true = e in cc
  by rest false false e = refl

-- rows of one directory
abbrev AllIn : ItemId → List Row → Type 0
AllIn parent [] = Unit {0}
AllIn parent (r ∷ rs) = (r.parent.0 ≡ parent.0) × AllIn parent rs

past_in : (parent : ItemId) (low : ℕ) (r : Row) (rows : List Row) → r.parent.0 ≡ parent.0 → r.id.0 < low → AllIn parent rows → RisesFrom low rows → Past r rows
past_in parent low r [] p h a rise = tt
past_in parent low r (s ∷ ss) p h a rise = (a.0 ∙ sym p, omega (arith, rise.0), past_in parent (s.id.0 + 1) r ss p (omega (arith, rise.0)) a.1 rise.1)

sorted_by_name : (parent : ItemId) (low : ℕ) (rows : List Row) → AllIn parent rows → RisesFrom low rows → sorted stands_before (entries_of rows) ≡ entries_of (rows_by_name rows)
sorted_by_name parent low [] a rise = refl
sorted_by_name parent low (r ∷ rs) a rise =
    ap (put_in stands_before (entry_of r)) (sorted_by_name parent (r.id.0 + 1) rs a.1 rise.1)
    ∙ put_by_name r (rows_by_name rs) (past_sorted (λ r s. comes_before r.name s.name) r rs (past_in parent (r.id.0 + 1) r rs a.0 (omega arith) a.1 rise.1))

all_in : (parent : ItemId) (rows : List Row) → AllIn parent (child_rows rows parent)
all_in parent [] = tt
all_in parent (r ∷ rs) = by (all_in parent rs) (eqb r.parent.0 parent.0) refl where
  by : AllIn parent (child_rows rs parent) → (b : Bool) → eqb r.parent.0 parent.0 ≡ b → AllIn parent (cond b (r ∷ child_rows rs parent) (child_rows rs parent))
  by rest true e = (number_is r.parent.0 parent.0 e, rest)
  by rest false e = rest

lower : (low high : ℕ) (rows : List Row) → low ≤ high → RisesFrom high rows → RisesFrom low rows
lower low high [] h r = tt
lower low high (x ∷ xs) h r = (omega (arith, r.0), r.1)

children_rise : (parent : ItemId) (low : ℕ) (rows : List Row) → RisesFrom low rows → RisesFrom low (child_rows rows parent)
children_rise parent low [] rise = tt
children_rise parent low (r ∷ rs) rise = by (children_rise parent (r.id.0 + 1) rs rise.1) (eqb r.parent.0 parent.0) where
  by : RisesFrom (r.id.0 + 1) (child_rows rs parent) → (b : Bool) → RisesFrom low (cond b (r ∷ child_rows rs parent) (child_rows rs parent))
  by rest true = (rise.0, rest)
  by rest false = lower low (r.id.0 + 1) (child_rows rs parent) (omega (arith, rise.0)) rest

children_entries : (parent : ItemId) (rows : List Row) → filter (is_entry_in parent) (entries_of rows) ≡ entries_of (child_rows rows parent)
children_entries parent [] = refl
children_entries parent (r ∷ rs) = by (children_entries parent rs) (eqb r.parent.0 parent.0) where
  by : filter (is_entry_in parent) (entries_of rs) ≡ entries_of (child_rows rs parent) → (b : Bool) →
      cond b (entry_of r ∷ filter (is_entry_in parent) (entries_of rs)) (filter (is_entry_in parent) (entries_of rs)) ≡ entries_of (cond b (r ∷ child_rows rs parent) (child_rows rs parent))
  by rest true = ap (λ l. entry_of r ∷ l) rest
  by rest false = rest

same_ids : (rows : List Row) → entry_ids (entries_of rows) ≡ ids_of rows
same_ids [] = refl
same_ids (r ∷ rs) = ap (λ l. r.id ∷ l) (same_ids rs)

pub children_are : (parent : ItemId) (rows : List Row) → RisesFrom 0 rows → entry_ids (filter (is_entry_in parent) (index_of rows)) ≡ ids_of (rows_by_name (child_rows rows parent))
children_are parent rows r =
    ap entry_ids (ordered.filter_sorted compared compared_total (is_entry_in parent) (entries_of rows) (all_apart 0 rows r) ∙ ap (λ l. sorted stands_before l) (children_entries parent rows)
    ∙ sorted_by_name parent 0 (child_rows rows parent) (all_in parent rows) (children_rise parent 0 rows r))
    ∙ same_ids (rows_by_name (child_rows rows parent))

-- rows and the items that they mean

same_parent : (r : Row) (i : Item) → Means r i → r.parent.0 ≡ i.parent.0
same_parent r i m = ap (λ v. v.0) m.parent

-- tests that tell a row and its item alike
found_mean : (f : Row → Bool) (g : Item → Bool) → ((r : Row) (i : Item) → Means r i → f r ≡ g i) → (rows : List Row) (items : List Item) → MeansAll rows items → MeansAll (filter f rows) (filter g items)
found_mean f g h [] [] m = tt
found_mean f g h [] (i ∷ is) m = absurd m
found_mean f g h (r ∷ rs) [] m = absurd m
found_mean f g h (r ∷ rs) (i ∷ is) m = by (found_mean f g h rs is m.1) (f r) (g i) (h r i m.0) where
  by : MeansAll (filter f rs) (filter g is) → (b c : Bool) → b ≡ c → MeansAll (cond b (r ∷ filter f rs) (filter f rs)) (cond c (i ∷ filter g is) (filter g is))
  by rest true true e = (m.0, rest)
  by rest true false e = let z : true ≡ false = e in absurd cc
  by rest false true e = let z : false ≡ true = e in absurd cc
  by rest false false e = rest

put_means : (r : Row) (i : Item) (rows : List Row) (items : List Item) → Means r i → MeansAll rows items → MeansAll (put_in (λ r s. comes_before r.name s.name) r rows) (put_in (λ i j. comes_before i.name j.name) i items)
put_means r i [] [] n m = (n, tt)
put_means r i [] (j ∷ js) n m = absurd m
put_means r i (s ∷ ss) [] n m = absurd m
put_means r i (s ∷ ss) (j ∷ js) n m = by (put_means r i ss js n m.1) (comes_before s.name r.name) (comes_before j.name i.name) (ap (λ v. comes_before v r.name) m.0.name ∙ ap (λ v. comes_before j.name v) n.name) where
  by : MeansAll (put_in (λ r s. comes_before r.name s.name) r ss) (put_in (λ i j. comes_before i.name j.name) i js) → (b c : Bool) → b ≡ c →
      MeansAll (cond b (s ∷ put_in (λ r s. comes_before r.name s.name) r ss) (r ∷ s ∷ ss)) (cond c (j ∷ put_in (λ i j. comes_before i.name j.name) i js) (i ∷ j ∷ js))
  by rest true true e = (m.0, rest)
  by rest true false e = let z : true ≡ false = e in absurd cc
  by rest false true e = let z : false ≡ true = e in absurd cc
  by rest false false e = (n, m)

sorted_means : (rows : List Row) (items : List Item) → MeansAll rows items → MeansAll (rows_by_name rows) (by_name items)
sorted_means [] [] m = tt
sorted_means [] (i ∷ is) m = absurd m
sorted_means (r ∷ rs) [] m = absurd m
sorted_means (r ∷ rs) (i ∷ is) m = put_means r i (rows_by_name rs) (by_name is) m.0 (sorted_means rs is m.1)

pub ids_mean : (rows : List Row) (items : List Item) → MeansAll rows items → ids_of rows ≡ map (λ i. i.id) items
ids_mean [] [] m = refl
ids_mean [] (i ∷ is) m = absurd m
ids_mean (r ∷ rs) [] m = absurd m
ids_mean (r ∷ rs) (i ∷ is) m = ap (λ v. v ∷ ids_of rs) m.0.id ∙ ap (λ l. i.id ∷ l) (ids_mean rs is m.1)

pub children_mean : (rows : List Row) (items : List Item) (parent : ItemId) → MeansAll rows items → ids_of (rows_by_name (child_rows rows parent)) ≡ map (λ i. i.id) (by_name (children items parent))
children_mean rows items parent m =
    ids_mean (rows_by_name (child_rows rows parent)) (by_name (children items parent))
    (sorted_means (child_rows rows parent) (children items parent)
    (found_mean (λ r. eqb r.parent.0 parent.0) (λ i. eqb i.parent.0 parent.0) (λ r i n. ap (λ v. eqb v parent.0) (same_parent r i n)) rows items m))

pub child_means : (rows : List Row) (items : List Item) (parent : ItemId) (name : List ℕ) → MeansAll rows items → id_of (find (is_child_row parent name) rows) ≡ option_map (λ i. i.id) (child_of items parent name)
child_means [] [] parent name m = refl
child_means [] (i ∷ is) parent name m = absurd m
child_means (r ∷ rs) [] parent name m = absurd m
child_means (r ∷ rs) (i ∷ is) parent name m =
    by (child_means rs is parent name m.1) (is_child_row parent name r) (is_child_named parent name i)
    (ap (λ v. eqb v parent.0 && same r.name name) (same_parent r i m.0) ∙ ap (λ v. eqb i.parent.0 parent.0 && same v name) m.0.name) where
      by : id_of (find (is_child_row parent name) rs) ≡ option_map (λ j. j.id) (child_of is parent name) → (b c : Bool) → b ≡ c →
          id_of (cond b (Some r) (find (is_child_row parent name) rs)) ≡ option_map (λ j. j.id) (cond c (Some i) (child_of is parent name))
      by rest true true e = ap Some m.0.id
      by rest true false e = let z : true ≡ false = e in absurd cc
      by rest false true e = let z : false ≡ true = e in absurd cc
      by rest false false e = rest

pub since_means : (rows : List Row) (items : List Item) (number : Usn) → MeansAll rows items → ids_of (filter (λ r. above r.number number) rows) ≡ map (λ i. i.id) (filter (λ i. above i.number number) items)
since_means rows items number m =
    ids_mean (filter (λ r. above r.number number) rows) (filter (λ i. above i.number number) items)
    (found_mean (λ r. above r.number number) (λ i. above i.number number) (λ r i n. ap (λ v. above v number) n.number) rows items m)
