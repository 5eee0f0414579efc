-- What a look-up of the rows finds is what the definitions find of the items, under its own id.
use Rattle.std.proofs.Common.{◌≡◌, ◌<◌, ◌≤◌, ◌+◌, ℕ, suc, Bool, true, false, cond, not, List, [], ◌∷◌, refl, sym, ap, subst, arith, eqb, Some, None, Option, Ok, Err, Result, length, ◌∙◌}
use Rattle.std.specs.Prelude.{nat_lt, find, MatchOption, ◌==◌}
use Rattle.std.specs.List.{list_all}
use Rattle.std.proofs.lemmas.Bool.{and_parts, eqb-true, ltb-false}
use Rattle.cf_base.specs.declared.codes.Code.{Code}
use Rattle.cf_base.specs.declared.codes.Code.TheVariants as code
use Rattle.cf_base.specs.declared.codes.CallError.{CallError}
use Rattle.cf_base.specs.declared.codes.CallError.TheVariants as fail
use Rattle.cf_base.specs.declared.ids.ItemId.{ItemId}
use Rattle.cf_model.specs.Calls.{below_at, place_at}
use Rattle.cf_model.specs.Items.{Item, item_of}
use Rattle.cf_model.specs.LookUp.{Place, bad_names, child_of, depth_at, find_below, find_names, find_path, find_place, is_child_named, names_of, place_in, place_of, refused_or, root_of, walk}
use Rattle.cf_model.specs.Texts.{is_name}
use Rattle.cf_model.specs.Waits.{at_path}
use Rattle.cf_model.specs.Words.{but_last, last_of}
use Rattle.cf_model.specs.State.{Filter}
use Rattle.cf_filter_steps.specs.Answering.{Sense}
use Rattle.cf_filter_steps.specs.Finding.{Finds, FindsBelow, FindsPlace, Found, FoundBelow, FoundPlace, HasRows}
use Rattle.cf_filter_steps.specs.Good.{Every}
use Rattle.cf_table.specs.Tables.{MeansAll, Table}
use Rattle.cf_tree.specs.Answers.{IsAnswer, found, placed}
use Rattle.cf_tree.specs.Trees.{BeginWithRoot, IsTree, IsUnder, RiseFrom}
use Rattle.cf_tree.proofs.Heights.{depth_is}
use Rattle.cf_tree.proofs.Walks.{by_own_id, found_from, found_passes, root_found, same_item_id}

same_ok : (a b : Item) → ◌≡◌ {A = Result Item Code} (Ok a) (Ok b) → a ≡ b
same_ok a b e = cc

no_error : {X : Type 0} (c : Code) (x : X) → ◌≡◌ {A = Result X Code} (Err c) (Ok x) → ⊥
no_error c x e = cc

-- what holds of each holds of the one that is found
pub of_found : {A : Type 0} (P : A → Type 0) (f : A → Bool) (xs : List A) (x : A) → Every P xs → find f xs ≡ Some x → P x
of_found {A} P f [] i h e = let z : ◌≡◌ {A = Option A} None (Some i) = e in absurd cc
of_found P f (x ∷ xs) i h e = two (f x) e (of_found P f xs i h.1) where
  two : (b : Bool) → cond b (Some x) (find f xs) ≡ Some i → (find f xs ≡ Some i → P i) → P i
  two true k rest = let same : x ≡ i = cc in subst P same h.0
  two false k rest = rest k

-- the item has its own id, and at most k names lead to it
record Reached (items : List Item) (k : ℕ) (i : Item) : Type 0 where
  pub there : item_of items i.id ≡ Some i
  pub depth : ℕ
  pub few : depth ≤ k
  pub under : IsUnder depth items i

child_parent : (items : List Item) (p i : Item) (n : List ℕ) → child_of items p.id n ≡ Some i → eqb i.parent.0 p.id.0 ≡ true
child_parent items p i n e = (and_parts _ _ (found_passes (is_child_named p.id n) items i e)).0

-- the directory of a child stands there under the id that the child names
parent_there : (items : List Item) (p i : Item) (n : List ℕ) → item_of items p.id ≡ Some p → child_of items p.id n ≡ Some i → item_of items i.parent ≡ Some p
parent_there items p i n t e = subst (λ (id : ItemId). item_of items id ≡ Some p) (sym (same_item_id i.parent p.id (eqb-true i.parent.0 p.id.0 (child_parent items p i n e)))) t

reached_child : (items : List Item) (k : ℕ) (p i : Item) (n : List ℕ) → RiseFrom 1 items → Reached items k p → p.directory ≡ true → child_of items p.id n ≡ Some i → Reached items (k + 1) i
reached_child items k p i n t h d e = two (eqb i.id.0 1) refl where
  own : item_of items i.id ≡ Some i
  own = by_own_id 1 (is_child_named p.id n) items i t e

  two : (b : Bool) → eqb i.id.0 1 ≡ b → Reached items (k + 1) i
  two true q = record { there = own; depth = 0; few = omega arith; under = eqb-true i.id.0 1 q }
  two false q = record {
    there = own;
    depth = suc h.depth;
    few = omega (arith, h.few);
    under = (q, subst (λ (o : Option Item). MatchOption o ⊥ (λ x. (x.directory ≡ true) × IsUnder h.depth items x)) (sym (parent_there items p i n h.there e)) (d, h.under));
  }

-- a walk by one name
record Went (items : List Item) (at : Item) (n : List ℕ) (ns : List (List ℕ)) (i : Item) : Type 0 where
  pub next : Item
  pub child : child_of items at.id n ≡ Some next
  pub directory : at.directory ≡ true
  pub rest : walk items next ns ≡ Ok i

went : (items : List Item) (at : Item) (n : List ℕ) (ns : List (List ℕ)) (i : Item) → walk items at (n ∷ ns) ≡ Ok i → Went items at n ns i
went items at n ns i e = one (at.directory) (at.populated) (child_of items at.id n) refl refl e where
  one : (a b : Bool) (o : Option Item) → at.directory ≡ a → child_of items at.id n ≡ o
      → cond (not a) (Err code.NotDirectory) (cond (not b) (Err code.NotPopulated) (elim o as (λ _. Result Item Code) [ None ↦ Err code.NotFound | Some j ↦ walk items j ns ])) ≡ Ok i → Went items at n ns i
  one false b o d q e = absurd (no_error code.NotDirectory i e)
  one true false o d q e = absurd (no_error code.NotPopulated i e)
  one true true None d q e = absurd (no_error code.NotFound i e)
  one true true (Some j) d q e = record { next = j; child = q; directory = d; rest = e }

walk_reaches : (items : List Item) (k : ℕ) (at : Item) (ns : List (List ℕ)) (i : Item) → RiseFrom 1 items → Reached items k at → walk items at ns ≡ Ok i → Reached items (k + length ns) i
walk_reaches items k at [] i t h e = let z : at ≡ i = cc in subst (λ (n : ℕ). Reached items n i) (omega arith) (subst (λ (x : Item). Reached items k x) z h)
walk_reaches items k at (n ∷ ns) i t h e =
    let w = went items at n ns i e in
    subst (λ (m : ℕ). Reached items m i) (omega arith) (walk_reaches items (k + 1) w.next ns i t (reached_child items k at w.next n t h w.directory w.child) w.rest)

root_reached : (items : List Item) → BeginWithRoot items → RiseFrom 1 items → Reached items 0 (root_of items)
root_reached [] h t = absurd h
root_reached (r ∷ is) h t = record {
  there = subst (λ (id : ItemId). item_of (r ∷ is) id ≡ Some r) (same_item_id (record { 0 = 1 }) r.id (sym h.0)) (root_found (r ∷ is) (record { 0 = 1 }) refl h);
  depth = 0;
  few = omega arith;
  under = h.0;
}

names_reach : (items : List Item) (names : List (List ℕ)) (i : Item) → IsTree items → find_names items names ≡ Ok i → Reached items (length names) i
names_reach items names i t e = one (bad_names names) e where
  one : (o : Option Code) → refused_or o (walk items (root_of items) names) ≡ Ok i → Reached items (length names) i
  one (Some c) e = absurd (no_error c i e)
  one None e = subst (λ (n : ℕ). Reached items n i) (omega arith) (walk_reaches items 0 (root_of items) names i t.order (root_reached items t.root t.order) e)

path_own : (items : List Item) (path : List ℕ) (i : Item) → IsTree items → find_path items path ≡ Ok i → item_of items i.id ≡ Some i
path_own items path i t e = (names_reach items (names_of path) i t e).there

-- what has a parent is not the root

root_parent : (items : List Item) → BeginWithRoot items → (root_of items).parent.0 ≡ 0
root_parent [] h = absurd h
root_parent (r ∷ is) h = h.2

child_below : (items : List Item) (p i : Item) (n : List ℕ) → IsTree items → item_of items p.id ≡ Some p → child_of items p.id n ≡ Some i → eqb i.id.0 1 ≡ false
child_below items p i n t there e = one (eqb i.id.0 1) refl where
  one : (b : Bool) → eqb i.id.0 1 ≡ b → eqb i.id.0 1 ≡ false
  one false q = q
  one true q =
      let own : item_of items i.id ≡ Some i = by_own_id 1 (is_child_named p.id n) items i t.order e in
      let first : ◌≡◌ {A = Option Item} (Some (root_of items)) (Some i) = sym (root_found items i.id (eqb-true i.id.0 1 q) t.root) ∙ own in
      let same : root_of items ≡ i = cc in
      absurd (omega (
        arith,
        root_parent items t.root,
        ap (λ (x : Item). x.parent.0) same,
        eqb-true i.parent.0 p.id.0 (child_parent items p i n e),
        found_from 1 (λ (x : Item). x.id.0 == p.id.0) items p t.order there,
      ))

walk_below : (items : List Item) (k : ℕ) (at : Item) (n : List ℕ) (ns : List (List ℕ)) (i : Item) → IsTree items → Reached items k at → walk items at (n ∷ ns) ≡ Ok i → eqb i.id.0 1 ≡ false
walk_below items k at n [] i t h e =
    let w = went items at n [] i e in
    let z : w.next ≡ i = same_ok w.next i w.rest in
    subst (λ (x : Item). eqb x.id.0 1 ≡ false) z (child_below items at w.next n t h.there w.child)
walk_below items k at n (m ∷ ms) i t h e = let w = went items at n (m ∷ ms) i e in walk_below items (k + 1) w.next m ms i t (reached_child items k at w.next n t.order h w.directory w.child) w.rest

-- the item has its own id, and is not the root
record IsBelow (items : List Item) (i : Item) : Type 0 where
  pub there : item_of items i.id ≡ Some i
  pub below : eqb i.id.0 1 ≡ false

names_below : (items : List Item) (n : List ℕ) (ns : List (List ℕ)) (i : Item) → IsTree items → find_names items (n ∷ ns) ≡ Ok i → IsBelow items i
names_below items n ns i t e = record { there = (names_reach items (n ∷ ns) i t e).there; below = one (bad_names (n ∷ ns)) e } where
  one : (o : Option Code) → refused_or o (walk items (root_of items) (n ∷ ns)) ≡ Ok i → eqb i.id.0 1 ≡ false
  one (Some c) e = absurd (no_error c i e)
  one None e = walk_below items 0 (root_of items) n ns i t (root_reached items t.root t.order) e

below_own : (items : List Item) (path : List ℕ) (i : Item) → IsTree items → find_below items path ≡ Ok i → IsBelow items i
below_own items path i t e = one (names_of path) e where
  one : (ns : List (List ℕ)) → elim ns as (λ _. Result Item Code) [ [] ↦ Err code.BadPath | n ∷ ns ↦ find_names items (n ∷ ns) ] ≡ Ok i → IsBelow items i
  one [] e = absurd (no_error code.BadPath i e)
  one (n ∷ ns) e = names_below items n ns i t e

-- look-ups of items

found_of : (items : List Item) (q : Result Item Code) (r : Result ItemId Code) → r ≡ found q → ((i : Item) → q ≡ Ok i → item_of items i.id ≡ Some i) → Found items r q
found_of items (Ok i) r e own = subst (λ (x : Result ItemId Code). Found items x (Ok i)) (sym e) (i, refl, own i refl)
found_of items (Err c) r e own = subst (λ (x : Result ItemId Code). Found items x (Err c)) (sym e) refl

pub found_at : {X : Type 0} (S : Sense X) (x : X) (t : Table) (path : List ℕ) (r : Result ItemId Code)
    → HasRows S x t → ((items : List Item) → MeansAll t.rows items → IsTree items → r ≡ found (find_path items path)) → Finds S (at_path path) x r
found_at S x t path r rows f = record {
  is = λ s h. let tree = (S.good x s h).volume.tree in
      found_of s.volume.items (find_path s.volume.items path) r (f s.volume.items (rows.rows s h) tree) (λ i e. path_own s.volume.items path i tree e);
}

below_of : (items : List Item) (q : Result Item Code) (r : Result ItemId Code) → r ≡ found q → ((i : Item) → q ≡ Ok i → IsBelow items i) → FoundBelow items r q
below_of items (Ok i) r e own = subst (λ (x : Result ItemId Code). FoundBelow items x (Ok i)) (sym e) (i, refl, (own i refl).there, (own i refl).below)
below_of items (Err c) r e own = subst (λ (x : Result ItemId Code). FoundBelow items x (Err c)) (sym e) refl

pub found_below : {X : Type 0} (S : Sense X) (x : X) (t : Table) (path : List ℕ) (r : Result ItemId Code)
    → HasRows S x t → ((items : List Item) → MeansAll t.rows items → IsTree items → r ≡ found (find_below items path)) → FindsBelow S (below_at path) x r
found_below S x t path r rows f = record {
  is = λ s h. let tree = (S.good x s h).volume.tree in
      below_of s.volume.items (find_below s.volume.items path) r (f s.volume.items (rows.rows s h) tree) (λ i e. below_own s.volume.items path i tree e);
}

-- what is not the root is found too
pub finds_below : {X : Type 0} (S : Sense X) (v : Filter → Result Item Code) (x : X) (r : Result ItemId Code) → FindsBelow S v x r → Finds S v x r
finds_below S v x r f = record { is = λ s h. one s.volume.items r (v s) (f.is s h) } where
  one : (items : List Item) (r : Result ItemId Code) (q : Result Item Code) → FoundBelow items r q → Found items r q
  one items (Ok id) q h = (h.0, h.1, h.2)
  one items (Err c) q h = h

-- places

length_but_last : (n : List ℕ) (ns : List (List ℕ)) → length (but_last n ns) ≡ length ns
length_but_last n [] = refl
length_but_last n (m ∷ ms) = ap suc (length_but_last m ms)

last_passes : (f : List ℕ → Bool) (n : List ℕ) (ns : List (List ℕ)) → list_all f (n ∷ ns) ≡ true → f (last_of n ns) ≡ true
last_passes f n [] h = (and_parts _ _ h).0
last_passes f n (m ∷ ms) h = last_passes f m ms (and_parts _ _ h).1

-- names that are a path
record ArePath (names : List (List ℕ)) : Type 0 where
  pub few : length names ≤ 32
  pub good : list_all is_name names ≡ true

are_path : (names : List (List ℕ)) → bad_names names ≡ None → ArePath names
are_path names e = two (nat_lt 32 (length names)) (list_all is_name names) refl refl e where
  two : (a b : Bool) → nat_lt 32 (length names) ≡ a → list_all is_name names ≡ b → cond a (Some code.TooDeep) (cond (not b) (Some code.BadPath) None) ≡ None → ArePath names
  two true b p q e = let z : ◌≡◌ {A = Option Code} (Some code.TooDeep) None = e in absurd cc
  two false false p q e = let z : ◌≡◌ {A = Option Code} (Some code.BadPath) None = e in absurd cc
  two false true p q e = record { few = ltb-false 32 (length names) p; good = q }

-- the parts of a place that was found
record PlaceOf (items : List Item) (pl : Place) : Type 0 where
  pub there : item_of items pl.parent.id ≡ Some pl.parent
  pub directory : pl.parent.directory ≡ true
  pub populated : pl.parent.populated ≡ true
  pub named : is_name pl.name ≡ true
  pub high : depth_at items pl.parent.id < 32

same_place : (a b : Place) → ◌≡◌ {A = Result Place Code} (Ok a) (Ok b) → a ≡ b
same_place a b e = cc

place_found : (items : List Item) (n : List ℕ) (ns : List (List ℕ)) (pl : Place) → IsTree items → bad_names (n ∷ ns) ≡ None
    → place_in (last_of n ns) (walk items (root_of items) (but_last n ns)) ≡ Ok pl → PlaceOf items pl
place_found items n ns pl t b e = one (walk items (root_of items) (but_last n ns)) refl e where
  good : ArePath (n ∷ ns)
  good = are_path (n ∷ ns) b

  two : (p : Item) (d q : Bool) → p.directory ≡ d → p.populated ≡ q → Reached items (0 + length (but_last n ns)) p
      → cond (not d) (Err code.NotDirectory) (cond (not q) (Err code.NotPopulated) (Ok (record { parent = p; name = last_of n ns }))) ≡ Ok pl → PlaceOf items pl
  two p false q dir pop r e = absurd (no_error code.NotDirectory pl e)
  two p true false dir pop r e = absurd (no_error code.NotPopulated pl e)
  two p true true dir pop r e = subst (λ (x : Place). PlaceOf items x) (same_place (record { parent = p; name = last_of n ns }) pl e) (record {
    there = r.there;
    directory = dir;
    populated = pop;
    named = last_passes is_name n ns good.good;
    high = omega (arith, depth_is items p.id p r.depth r.there r.under, r.few, length_but_last n ns, good.few);
  })

  one : (w : Result Item Code) → walk items (root_of items) (but_last n ns) ≡ w → place_in (last_of n ns) w ≡ Ok pl → PlaceOf items pl
  one (Err c) q e = absurd (no_error c pl e)
  one (Ok p) q e = two p p.directory p.populated refl refl (walk_reaches items 0 (root_of items) (but_last n ns) p t.order (root_reached items t.root t.order) q) e

place_of_path : (items : List Item) (path : List ℕ) (pl : Place) → IsTree items → find_place items path ≡ Ok pl → PlaceOf items pl
place_of_path items path pl t e = one (names_of path) e where
  two : (n : List ℕ) (ns : List (List ℕ)) (o : Option Code) → bad_names (n ∷ ns) ≡ o → refused_or o (place_in (last_of n ns) (walk items (root_of items) (but_last n ns))) ≡ Ok pl → PlaceOf items pl
  two n ns (Some c) b e = absurd (no_error c pl e)
  two n ns None b e = place_found items n ns pl t b e

  one : (names : List (List ℕ)) → place_of items names ≡ Ok pl → PlaceOf items pl
  one [] e = absurd (no_error code.BadPath pl e)
  one (n ∷ ns) e = two n ns (bad_names (n ∷ ns)) refl e

place_is_of : (items : List Item) (q : Result Place Code) (r : Result (ItemId × List ℕ) CallError) → IsAnswer r (placed q) → ((pl : Place) → q ≡ Ok pl → PlaceOf items pl) → FoundPlace items r q
place_is_of items (Ok pl) (Ok p) e own =
    let z : (pl.parent.id, pl.name) ≡ p = cc in
    let h = own pl refl in
    subst (λ (x : ItemId × List ℕ). FoundPlace items (Ok x) (Ok pl)) z (pl.parent, refl, record { there = h.there; opened = (h.directory, h.populated); named = h.named; high = h.high })
place_is_of items (Ok pl) (Err (fail.No c)) e own = absurd (no_error c (pl.parent.id, pl.name) (sym e))
place_is_of items (Ok pl) (Err fail.OutOfMemory) e own = record {}
place_is_of items (Err c) (Ok p) e own = absurd (no_error c p e)
place_is_of items (Err c) (Err (fail.No d)) e own = err_same c d e
  where
    err_same : (a b : Code) → ◌≡◌ {A = Result (ItemId × List ℕ) Code} (Err a) (Err b) → ◌≡◌ {A = Result Place Code} (Err a) (Err b)
    err_same a b e = let z : a ≡ b = cc in ap (λ (x : Code). Err x) z
place_is_of items (Err c) (Err fail.OutOfMemory) e own = record {}

pub found_place : {X : Type 0} (S : Sense X) (x : X) (t : Table) (path : List ℕ) (r : Result (ItemId × List ℕ) CallError)
    → HasRows S x t → ((items : List Item) → MeansAll t.rows items → IsTree items → IsAnswer r (placed (find_place items path))) → FindsPlace S (place_at path) x r
found_place S x t path r rows f = record {
  is = λ s h. let tree = (S.good x s h).volume.tree in
      place_is_of s.volume.items (find_place s.volume.items path) r (f s.volume.items (rows.rows s h) tree) (λ pl e. place_of_path s.volume.items path pl tree e);
}
