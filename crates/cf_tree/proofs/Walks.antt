-- A look-up in the rows is that in the items.
use Rattle.std.proofs.Common.{◌≡◌, ℕ, ◌+◌, ◌≤◌, Bool, true, false, cond, not, List, [], ◌∷◌, refl, sym, ap, subst, ◌∙◌, arith, eqb, Some, None, Option, Ok, Err, Result}
use Rattle.std.specs.Prelude.{find, length, nat_lt, ok_or}
use Rattle.std.specs.List.{list_all}
use Rattle.std.proofs.lemmas.Bool.{and_parts, cond-true, cond-false, eqb-true, ne_eqb, eq-eqb}
use Rattle.cf_base.specs.declared.codes.Code.{Code}
use Rattle.cf_base.specs.declared.codes.Code.TheVariants as code
use Rattle.cf_base.specs.declared.ids.ItemId.{ItemId}
use Rattle.cf_model.specs.Items.{Item, item_of}
use Rattle.cf_model.specs.LookUp.{Place, bad_names, child_of, find_below, find_names, find_path, find_place, names_of, place_in, place_of, refused_or, root_of, walk}
use Rattle.cf_model.specs.Words.{but_last, first_of, is_empty, last_of}
use Rattle.cf_model.specs.Texts.{is_name}
use Rattle.cf_table.specs.Tables.{MeansAll, id_of, is_child_row, row_of}
use Rattle.cf_table.specs.declared.rows.Row.{Row}
use Rattle.cf_tree.specs.Answers.{found, placed}
use Rattle.cf_tree.specs.Steps as steps
use Rattle.cf_tree.specs.Steps.{closed, place_of_names, step_in, walk_in}
use Rattle.cf_tree.specs.Trees.{BeginWithRoot, IsTree, RiseFrom}
use Rattle.cf_tree.proofs.Alike.{BothMean, rows_by_id, rows_by_name}

-- one item has an id

pub found_passes : (f : Item → Bool) (items : List Item) (i : Item) → find f items ≡ Some i → f i ≡ true
found_passes f [] i e = let z : ◌≡◌ {A = Option Item} None (Some i) = e in absurd cc
found_passes f (x ∷ xs) i e = two (f x) refl (λ k. found_passes f xs i k) e where
  two : (b : Bool) → f x ≡ b → (find f xs ≡ Some i → f i ≡ true) → cond b (Some x) (find f xs) ≡ Some i → f i ≡ true
  two true h rest k = let same : x ≡ i = cc in subst (λ v. f v ≡ true) same h
  two false h rest k = rest k

pub found_from : (low : ℕ) (f : Item → Bool) (items : List Item) (i : Item) → RiseFrom low items → find f items ≡ Some i → low ≤ i.id.0
found_from low f [] i r e = let z : ◌≡◌ {A = Option Item} None (Some i) = e in absurd cc
found_from low f (x ∷ xs) i r e = two (f x) (λ k. found_from (x.id.0 + 1) f xs i r.1 k) e where
  two : (b : Bool) → (find f xs ≡ Some i → x.id.0 + 1 ≤ i.id.0) → cond b (Some x) (find f xs) ≡ Some i → low ≤ i.id.0
  two true rest k = let same : x ≡ i = cc in subst (λ v. low ≤ v.id.0) same r.0
  two false rest k = omega (arith, r.0, rest k)

pub by_own_id : (low : ℕ) (f : Item → Bool) (items : List Item) (i : Item) → RiseFrom low items → find f items ≡ Some i → item_of items i.id ≡ Some i
by_own_id low f [] i r e = let z : ◌≡◌ {A = Option Item} None (Some i) = e in absurd cc
by_own_id low f (x ∷ xs) i r e = two (f x) (λ k. by_own_id (x.id.0 + 1) f xs i r.1 k) e where
  two : (b : Bool) → (find f xs ≡ Some i → item_of xs i.id ≡ Some i) → cond b (Some x) (find f xs) ≡ Some i → item_of (x ∷ xs) i.id ≡ Some i
  two true rest k = let same : x ≡ i = cc in cond-true (eqb x.id.0 i.id.0) _ _ (eq-eqb x.id.0 i.id.0 (ap (λ v. v.id.0) same)) ∙ ap Some same
  two false rest k = cond-false (eqb x.id.0 i.id.0) _ _ (ne_eqb x.id.0 i.id.0 (λ same. omega (arith, same, found_from (x.id.0 + 1) f xs i r.1 k))) ∙ rest k

pub same_item_id : (a b : ItemId) → a.0 ≡ b.0 → a ≡ b
same_item_id a b e = λ k. record { 0 = e k }

pub own_id : (items : List Item) (id : ItemId) (i : Item) → item_of items id ≡ Some i → id ≡ i.id
own_id items id i e = same_item_id id i.id (sym (eqb-true i.id.0 id.0 (found_passes (λ j. eqb j.id.0 id.0) items i e)))

pub root_found : (items : List Item) (id : ItemId) → id.0 ≡ 1 → BeginWithRoot items → item_of items id ≡ Some (root_of items)
root_found [] id e h = absurd h
root_found (r ∷ is) id e h = cond-true (eqb r.id.0 id.0) _ _ (eq-eqb r.id.0 id.0 (h.0 ∙ sym e))

-- a step

abbrev closed_item : Item → Option Code
closed_item i = first_of ((not i.directory, code.NotDirectory) ∷ (not i.populated, code.NotPopulated) ∷ [])

closed_alike : (o : Option Row) (i : Item) → BothMean o (Some i) → closed o ≡ closed_item i
closed_alike None i h = absurd h
closed_alike (Some r) i h = λ k. first_of ((not (h.directory k), code.NotDirectory) ∷ (not (h.populated k), code.NotPopulated) ∷ [])

abbrev item_id : Option Item → Option ItemId
item_id None = None
item_id (Some i) = Some i.id

ids_alike : (o : Option Row) (p : Option Item) → BothMean o p → id_of o ≡ item_id p
ids_alike None None h = refl
ids_alike None (Some i) h = absurd h
ids_alike (Some r) None h = absurd h
ids_alike (Some r) (Some i) h = ap (λ v. Some v) h.id

closed_is : (rows : List Row) (items : List Item) (at : ItemId) (i : Item) → MeansAll rows items → item_of items at ≡ Some i → closed (row_of rows at) ≡ closed_item i
closed_is rows items at i m e = closed_alike (row_of rows at) i (subst (λ v. BothMean (row_of rows at) v) e (rows_by_id rows items at m))

step_is : (rows : List Row) (items : List Item) (at : ItemId) (i : Item) (n : List ℕ) → MeansAll rows items → item_of items at ≡ Some i →
    step_in rows at n ≡ refused_or (closed_item i) (ok_or (item_id (child_of items i.id n)) code.NotFound)
step_is rows items at i n m e = λ k.
    refused_or (closed_is rows items at i m e k)
    (ok_or ((ids_alike (find (is_child_row at n) rows) (child_of items at n) (rows_by_name rows items at n m) ∙ ap (λ (v : ItemId). item_id (child_of items v n)) (own_id items at i e)) k) code.NotFound)

-- all steps

abbrev walk_from : List Row → List (List ℕ) → Result ItemId Code → Result ItemId Code
walk_from rows ns r = elim r as (λ _. Result ItemId Code) [ Ok next ↦ walk_in rows next ns | Err c ↦ Err c ]

pub walk_is : (rows : List Row) (items : List Item) (ns : List (List ℕ)) (at : ItemId) (i : Item) → MeansAll rows items → RiseFrom 1 items → item_of items at ≡ Some i → walk_in rows at ns ≡ found (walk items i ns)
walk_is rows items [] at i m t e = ap (λ v. Ok v) (own_id items at i e)
walk_is rows items (n ∷ ns) at i m t e =
    ap (λ r. walk_from rows ns r) (step_is rows items at i n m e)
    ∙ cases i.directory i.populated (child_of items i.id n) (λ j h. walk_is rows items ns j.id j m t (by_own_id 1 _ items j t h)) where
      cases : (d p : Bool) (o : Option Item) → ((j : Item) → o ≡ Some j → walk_in rows j.id ns ≡ found (walk items j ns)) → walk_from rows ns (refused_or (first_of ((not d, code.NotDirectory) ∷ (not p, code.NotPopulated) ∷ [])) (ok_or (item_id o) code.NotFound))
          ≡ found (cond (not d) (Err code.NotDirectory) (cond (not p) (Err code.NotPopulated) (elim o as (λ _. Result Item Code) [ None ↦ Err code.NotFound | Some next ↦ walk items next ns ])))
      cases false p o h = refl
      cases true false o h = refl
      cases true true None h = refl
      cases true true (Some j) h = h j refl

-- the place of a name

abbrev place_from : List Row → List ℕ → List (List ℕ) → Result ItemId Code → Result (ItemId × List ℕ) Code
place_from rows m ms r = elim r as (λ _. Result (ItemId × List ℕ) Code) [ Ok next ↦ steps.place_in rows next m ms | Err c ↦ Err c ]

open_place : (d p : Bool) (i : Item) (n : List ℕ) → refused_or (first_of ((not d, code.NotDirectory) ∷ (not p, code.NotPopulated) ∷ [])) (Ok (i.id, n))
    ≡ placed (cond (not d) (Err code.NotDirectory) (cond (not p) (Err code.NotPopulated) (Ok (record { parent = i; name = n }))))
open_place false p i n = refl
open_place true false i n = refl
open_place true true i n = refl

pub place_is : (rows : List Row) (items : List Item) (ns : List (List ℕ)) (n : List ℕ) (at : ItemId) (i : Item) → MeansAll rows items → RiseFrom 1 items → item_of items at ≡ Some i →
    steps.place_in rows at n ns ≡ placed (place_in (last_of n ns) (walk items i (but_last n ns)))
place_is rows items [] n at i m t e =
    (λ k. refused_or (closed_is rows items at i m e k) (Ok (own_id items at i e k, n))) ∙ open_place i.directory i.populated i n
place_is rows items (n2 ∷ ns) n at i m t e =
    ap (λ r. place_from rows n2 ns r) (step_is rows items at i n m e)
    ∙ cases i.directory i.populated (child_of items i.id n) (λ j h. place_is rows items ns n2 j.id j m t (by_own_id 1 _ items j t h)) where
      cases : (d p : Bool) (o : Option Item) → ((j : Item) → o ≡ Some j → steps.place_in rows j.id n2 ns ≡ placed (place_in (last_of n2 ns) (walk items j (but_last n2 ns)))) → place_from rows n2 ns (refused_or (first_of ((not d, code.NotDirectory) ∷ (not p, code.NotPopulated) ∷ [])) (ok_or (item_id o) code.NotFound))
          ≡ placed (place_in (last_of n2 ns) (cond (not d) (Err code.NotDirectory) (cond (not p) (Err code.NotPopulated) (elim o as (λ _. Result Item Code) [ None ↦ Err code.NotFound | Some next ↦ walk items next (but_last n2 ns) ]))))
      cases false p o h = refl
      cases true false o h = refl
      cases true true None h = refl
      cases true true (Some j) h = h j refl

-- whole look-ups

abbrev root_id : ItemId
root_id = record { 0 = 1 }

found_refused : (b : Option Code) (r : Result Item Code) → refused_or b (found r) ≡ found (refused_or b r)
found_refused None r = refl
found_refused (Some c) r = refl

placed_refused : (b : Option Code) (r : Result Place Code) → refused_or b (placed r) ≡ placed (refused_or b r)
placed_refused None r = refl
placed_refused (Some c) r = refl

pub names_are : (rows : List Row) (items : List Item) (ns : List (List ℕ)) → MeansAll rows items → IsTree items → refused_or (bad_names ns) (walk_in rows root_id ns) ≡ found (refused_or (bad_names ns) (walk items (root_of items) ns))
names_are rows items ns m t =
    ap (λ r. refused_or (bad_names ns) r) (walk_is rows items ns root_id (root_of items) m t.order (root_found items root_id refl t.root)) ∙ found_refused (bad_names ns) (walk items (root_of items) ns)

pub find_is : (rows : List Row) (items : List Item) (path : List ℕ) → MeansAll rows items → IsTree items →
    refused_or (bad_names (names_of path)) (walk_in rows root_id (names_of path)) ≡ found (find_path items path)
find_is rows items path m t = names_are rows items (names_of path) m t

pub below_is : (rows : List Row) (items : List Item) (path : List ℕ) → is_empty (names_of path) ≡ false → MeansAll rows items → IsTree items →
    refused_or (bad_names (names_of path)) (walk_in rows root_id (names_of path)) ≡ found (find_below items path)
below_is rows items path some m t = cases (names_of path) some where
  cases : (ns : List (List ℕ)) → is_empty ns ≡ false → refused_or (bad_names ns) (walk_in rows root_id ns)
      ≡ found (elim ns as (λ _. Result Item Code) [ [] ↦ Err code.BadPath | n ∷ ns ↦ find_names items (n ∷ ns) ])
  cases [] e = let z : true ≡ false = e in absurd cc
  cases (n ∷ ns) e = names_are rows items (n ∷ ns) m t

pub root_is_bad : (items : List Item) (path : List ℕ) → is_empty (names_of path) ≡ true → Err code.BadPath ≡ found (find_below items path)
root_is_bad items path none = cases (names_of path) none where
  cases : (ns : List (List ℕ)) → is_empty ns ≡ true → Err code.BadPath ≡ found (elim ns as (λ _. Result Item Code) [ [] ↦ Err code.BadPath | n ∷ ns ↦ find_names items (n ∷ ns) ])
  cases [] e = refl
  cases (n ∷ ns) e = let z : false ≡ true = e in absurd cc

pub place_of_is : (rows : List Row) (items : List Item) (path : List ℕ) → MeansAll rows items → IsTree items →
    refused_or (bad_names (names_of path)) (place_of_names rows (names_of path)) ≡ placed (find_place items path)
place_of_is rows items path m t = cases (names_of path) where
  cases : (ns : List (List ℕ)) → refused_or (bad_names ns) (place_of_names rows ns) ≡ placed (place_of items ns)
  cases [] = refl
  cases (n ∷ ns) =
      ap (λ r. refused_or (bad_names (n ∷ ns)) r) (place_is rows items ns n root_id (root_of items) m t.order (root_found items root_id refl t.root))
      ∙ placed_refused (bad_names (n ∷ ns)) (place_in (last_of n ns) (walk items (root_of items) (but_last n ns)))

-- the name of a place is the last of the path, and so it is a name

place_names : (rows : List Row) (ns : List (List ℕ)) (n : List ℕ) (at : ItemId) (p : ItemId × List ℕ) → steps.place_in rows at n ns ≡ Ok p → list_all is_name (n ∷ ns) ≡ true → is_name p.1 ≡ true
place_names rows [] n at p e all = cases (closed (row_of rows at)) e where
  cases : (b : Option Code) → refused_or b (Ok (at, n)) ≡ Ok p → is_name p.1 ≡ true
  cases None k = let one : n ≡ p.1 = cc in subst (λ v. is_name v ≡ true) one (and_parts (is_name n) true all).0
  cases (Some c) k = let z : ◌≡◌ {A = Result (ItemId × List ℕ) Code} (Err c) (Ok p) = k in absurd cc
place_names rows (m ∷ ms) n at p e all = cases (step_in rows at n) e (λ next k. place_names rows ms m next p k (and_parts (is_name n) (list_all is_name (m ∷ ms)) all).1) where
  cases : (r : Result ItemId Code) → place_from rows m ms r ≡ Ok p → ((next : ItemId) → steps.place_in rows next m ms ≡ Ok p → is_name p.1 ≡ true) → is_name p.1 ≡ true
  cases (Ok next) k rest = rest next k
  cases (Err c) k rest = let z : ◌≡◌ {A = Result (ItemId × List ℕ) Code} (Err c) (Ok p) = k in absurd cc

pub place_is_named : (rows : List Row) (ns : List (List ℕ)) (p : ItemId × List ℕ) → refused_or (bad_names ns) (place_of_names rows ns) ≡ Ok p → is_name p.1 ≡ true
place_is_named rows ns p e = three (nat_lt 32 (length ns)) (list_all is_name ns) refl e where
  three : (long all : Bool) → list_all is_name ns ≡ all → refused_or (first_of ((long, code.TooDeep) ∷ (not all, code.BadPath) ∷ [])) (place_of_names rows ns) ≡ Ok p → is_name p.1 ≡ true
  three true all h k = let z : ◌≡◌ {A = Result (ItemId × List ℕ) Code} (Err code.TooDeep) (Ok p) = k in absurd cc
  three false false h k = let z : ◌≡◌ {A = Result (ItemId × List ℕ) Code} (Err code.BadPath) (Ok p) = k in absurd cc
  three false true h k = some ns h k where
    some : (ns : List (List ℕ)) → list_all is_name ns ≡ true → place_of_names rows ns ≡ Ok p → is_name p.1 ≡ true
    some [] all q = let z : ◌≡◌ {A = Result (ItemId × List ℕ) Code} (Err code.BadPath) (Ok p) = q in absurd cc
    some (n ∷ ns) all q = place_names rows ns n root_id p q all
