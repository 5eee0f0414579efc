-- A place that a path leads to has room for one more name.
use Rattle.std.proofs.Common.{◌≡◌, ℕ, suc, ◌+◌, ◌≤◌, ◌<◌, Bool, true, false, cond, not, List, [], ◌∷◌, length, refl, sym, ap, subst, ◌∙◌, arith, eqb, Some, None, Option, Ok, Err, Result}
use Rattle.std.specs.Prelude.{MatchOption, nat_lt}
use Rattle.std.specs.List.{list_all}
use Rattle.std.proofs.lemmas.Bool.{and_parts, eqb-true, ltb-false, ne_eqb}
use Rattle.cf_base.specs.declared.codes.Code.{Code}
use Rattle.cf_base.specs.declared.codes.Code.TheVariants as code
use Rattle.cf_base.specs.declared.ids.ItemId.{ItemId}
use Rattle.cf_model.specs.Items.{Item, item_of}
use Rattle.cf_model.specs.LookUp.{Place, child_of, find_place, is_child_named, names_of, place_in, place_of, refused_or, root_of, walk}
use Rattle.cf_model.specs.Texts.{is_name}
use Rattle.cf_model.specs.Words.{but_last, first_of, last_of, same}
use Rattle.cf_tree.specs.Answers.{placed}
use Rattle.cf_tree.specs.Trees.{BeginWithRoot, MayHold, IsTree, IsUnder}
use Rattle.cf_tree.proofs.Depths.{only}
use Rattle.cf_tree.proofs.Heights.{depth_is}
use Rattle.cf_tree.proofs.Walks.{by_own_id, found_from, found_passes, root_found, same_item_id}

pub record Arrives (items : List Item) (d : ℕ) (j : Item) : Type 0 where
  pub there : item_of items j.id ≡ Some j
  pub under : IsUnder d items j

pub no_parent_of_root : (items : List Item) (r : Item) → BeginWithRoot items → root_of items ≡ r → r.parent.0 ≡ 0
no_parent_of_root [] r h e = absurd h
no_parent_of_root (x ∷ xs) r h e = ap (λ v. v.parent.0) (sym e) ∙ h.2

child_under : (d : ℕ) (items : List Item) (at next : Item) (n : List ℕ) → IsTree items → Arrives items d at → at.directory ≡ true → child_of items at.id n ≡ Some next → Arrives items (suc d) next
child_under d items at next n t a open_at found =
    let there : item_of items next.id ≡ Some next = by_own_id 1 (is_child_named at.id n) items next t.order found in
    let below : next.parent.0 ≡ at.id.0 = eqb-true next.parent.0 at.id.0 (and_parts (eqb next.parent.0 at.id.0) (same next.name n) (found_passes (is_child_named at.id n) items next found)).0 in
    let some : 1 ≤ at.id.0 = found_from 1 (λ k. eqb k.id.0 at.id.0) items at t.order a.there in
    let up : item_of items next.parent ≡ Some at = ap (λ (v : ItemId). item_of items v) (same_item_id next.parent at.id below) ∙ a.there in
    let other : eqb next.id.0 1 ≡ false = ne_eqb next.id.0 1 (λ one. let zero_parent = no_parent_of_root items next t.root (only (root_of items) next (sym (root_found items next.id one t.root) ∙ there)) in omega arith) in
    record { there = there; under = (other, subst (λ o. MatchOption o ⊥ (λ r. (r.directory ≡ true) × IsUnder d items r)) (sym up) (open_at, a.under)) }

walks_down : (ns : List (List ℕ)) (items : List Item) (at j : Item) (d : ℕ) → IsTree items → Arrives items d at → walk items at ns ≡ Ok j → Arrives items (length ns + d) j
walks_down [] items at j d t a e = let one : at ≡ j = cc in let same : d ≡ 0 + d = omega arith in subst (λ m. Arrives items m j) same (subst (λ v. Arrives items d v) one a)
walks_down (n ∷ ns) items at j d t a e = three at.directory at.populated (child_of items at.id n) refl refl e (λ next q f k. walks_down ns items next j (suc d) t (child_under d items at next n t a q f) k) where
  more : length ns + suc d ≡ suc (length ns) + d
  more = omega arith

  three : (b c : Bool) (o : Option Item) → at.directory ≡ b → child_of items at.id n ≡ o → cond (not b) (Err code.NotDirectory) (cond (not c) (Err code.NotPopulated) (elim o as (λ _. Result Item Code) [ None ↦ Err code.NotFound | Some next ↦ walk items next ns ])) ≡ Ok j →
      ((next : Item) → at.directory ≡ true → child_of items at.id n ≡ Some next → walk items next ns ≡ Ok j → Arrives items (length ns + suc d) j) → Arrives items (suc (length ns) + d) j
  three false c o q f k rest = let z : ◌≡◌ {A = Result Item Code} (Err code.NotDirectory) (Ok j) = k in absurd cc
  three true false o q f k rest = let z : ◌≡◌ {A = Result Item Code} (Err code.NotPopulated) (Ok j) = k in absurd cc
  three true true None q f k rest = let z : ◌≡◌ {A = Result Item Code} (Err code.NotFound) (Ok j) = k in absurd cc
  three true true (Some next) q f k rest = subst (λ m. Arrives items m j) more (rest next q f k)

but_last_length : (n : List ℕ) (ns : List (List ℕ)) → length (but_last n ns) ≡ length ns
but_last_length n [] = refl
but_last_length n (m ∷ ms) = ap suc (but_last_length m ms)

ends_in : (items : List Item) (name : List ℕ) (r : Result Item Code) (p : Place) (d : ℕ) → ((j : Item) → r ≡ Ok j → Arrives items d j) → place_in name r ≡ Ok p → d < 32 → MayHold items p.parent.id
ends_in items name (Err c) p d arrives e lt = let z : ◌≡◌ {A = Result Place Code} (Err c) (Ok p) = e in absurd cc
ends_in items name (Ok q) p d arrives e lt = two q.directory q.populated refl e where
  a : Arrives items d q
  a = arrives q refl

  two : (b c : Bool) → q.directory ≡ b → cond (not b) (Err code.NotDirectory) (cond (not c) (Err code.NotPopulated) (Ok (record { parent = q; name = name }))) ≡ Ok p → MayHold items p.parent.id
  two false c h k = let z : ◌≡◌ {A = Result Place Code} (Err code.NotDirectory) (Ok p) = k in absurd cc
  two true false h k = let z : ◌≡◌ {A = Result Place Code} (Err code.NotPopulated) (Ok p) = k in absurd cc
  two true true h k =
      let one : q ≡ p.parent = ap (λ (v : Place). v.parent) (inside k) in
      subst (λ v. MayHold items v.id) one (record { above = q; there = a.there; directory = h; few = omega (arith, depth_is items q.id q d a.there a.under) }) where
        inside : {x y : Place} → ◌≡◌ {A = Result Place Code} (Ok x) (Ok y) → x ≡ y
        inside e = cc

pub place_has_room : (items : List Item) (path : List ℕ) (p : Place) → IsTree items → find_place items path ≡ Ok p → MayHold items p.parent.id
place_has_room items path p t e = cases (names_of path) e where
  root_there : Arrives items 0 (root_of items)
  root_there = first items t.root where
    first : (list : List Item) → BeginWithRoot list → Arrives list 0 (root_of list)
    first [] h = absurd h
    first (r ∷ is) h = record { there = root_found (r ∷ is) r.id h.0 h; under = h.0 }

  some : (n : List ℕ) (ns : List (List ℕ)) (long bad : Bool) → nat_lt 32 (length (n ∷ ns)) ≡ long → refused_or (first_of ((long, code.TooDeep) ∷ (bad, code.BadPath) ∷ [])) (place_in (last_of n ns) (walk items (root_of items) (but_last n ns))) ≡ Ok p → MayHold items p.parent.id
  some n ns true bad h k = let z : ◌≡◌ {A = Result Place Code} (Err code.TooDeep) (Ok p) = k in absurd cc
  some n ns false true h k = let z : ◌≡◌ {A = Result Place Code} (Err code.BadPath) (Ok p) = k in absurd cc
  some n ns false false h k =
      let le = ltb-false 32 (length (n ∷ ns)) h in
      ends_in items (last_of n ns) (walk items (root_of items) (but_last n ns)) p (length (but_last n ns) + 0) (λ j w. walks_down (but_last n ns) items (root_of items) j 0 t root_there w) k (omega (arith, but_last_length n ns))

  cases : (ns : List (List ℕ)) → place_of items ns ≡ Ok p → MayHold items p.parent.id
  cases [] k = let z : ◌≡◌ {A = Result Place Code} (Err code.BadPath) (Ok p) = k in absurd cc
  cases (n ∷ ns) k = some n ns (nat_lt 32 (length (n ∷ ns))) (not (list_all is_name (n ∷ ns))) refl k

pub found_has_room : (items : List Item) (path : List ℕ) (parent : ItemId) (name : List ℕ) → IsTree items → placed (find_place items path) ≡ Ok (parent, name) → MayHold items parent
found_has_room items path parent name t e = cases (find_place items path) refl e where
  cases : (r : Result Place Code) → find_place items path ≡ r → placed r ≡ Ok (parent, name) → MayHold items parent
  cases (Err c) f k = let z : ◌≡◌ {A = Result (ItemId × List ℕ) Code} (Err c) (Ok (parent, name)) = k in absurd cc
  cases (Ok p) f k = subst (λ v. MayHold items v) (same k) (place_has_room items path p t f) where
    same : ◌≡◌ {A = Result (ItemId × List ℕ) Code} (Ok (p.parent.id, p.name)) (Ok (parent, name)) → p.parent.id ≡ parent
    same q = let pair : ◌≡◌ {A = ItemId × List ℕ} (p.parent.id, p.name) (parent, name) = cc in ap (λ (v : ItemId × List ℕ). v.0) pair
