-- What a look-up finds is found again under its id.
use Rattle.std.proofs.Common.{◌≡◌, ◌<◌, ℕ, Bool, true, false, List, [], ◌∷◌, ◌++◌, refl, sym, subst, inl, inr, arith, eq-eqb}
use Rattle.std.specs.Prelude.{Option, Some, None, Result, Ok, Err, cond, nat_lt, not, find, ◌≤◌, ◌&&◌, ◌==◌}
use Rattle.std.proofs.lemmas.Bool.{eqb-true}
use Rattle.std.proofs.lemmas.Bool.Decides.{nat_tests}
use Rattle.cf_base.specs.declared.codes.Code.{Code}
use Rattle.cf_base.specs.declared.codes.Code.TheVariants as code
use Rattle.cf_base.specs.declared.ids.ItemId.{ItemId}
use Rattle.cf_base.specs.declared.ids.Rid.{Rid}
use Rattle.cf_model.specs.Effects.{changed}
use Rattle.cf_model.specs.Identities.{target_of}
use Rattle.cf_model.specs.Items.{Item, item_of}
use Rattle.cf_model.specs.LookUp.{Place, bad_names, child_of, find_below, find_names, find_path, find_place, is_child_named, names_of, place_in, place_of, refused_or, root_of, walk}
use Rattle.cf_model.specs.Numbers.{no_rid}
use Rattle.cf_model.specs.Words.{but_last, last_of, part, same}
use Rattle.cf_model_laws.specs.Invariant.{InOrder}
use Rattle.cf_model_laws.specs.Seats.{IsSeated}
use Rattle.cf_model_laws.proofs.Gathered.{all_any, all_found}
use Rattle.cf_model_laws.proofs.RightItems.{no_way}

-- an item behind a bound is not at its front
found_above : (f : Item → Bool) (low next : ℕ) (items : List Item) (i : Item) → InOrder low next items → find f items ≡ Some i → low < i.id.0
found_above f low next [] i h e = cc
found_above f low next (k ∷ items) i h e = by (f k) e (found_above f k.id.0 next items i h.1) where
  by : (b : Bool) → cond b (Some k) (find f items) ≡ Some i → (find f items ≡ Some i → k.id.0 < i.id.0) → low < i.id.0
  by true e g = let z : k ≡ i = cc in subst (λ (x : Item). low < x.id.0) z h.0
  by false e g = let z : k.id.0 < i.id.0 = g e in let y : low < k.id.0 = h.0 in omega (arith, z, y)

differ : (a b : ℕ) → a < b → (a == b) ≡ false
differ a b h = one (a == b) refl where
  one : (c : Bool) → (a == b) ≡ c → c ≡ false
  one true q = let z : a ≡ b = eqb-true a b q in absurd (omega (arith, z, h))
  one false q = refl

pub found_again : (f : Item → Bool) (low next : ℕ) (items : List Item) (i : Item) → InOrder low next items → find f items ≡ Some i → item_of items i.id ≡ Some i
found_again f low next [] i h e = cc
found_again f low next (j ∷ js) i h e = by (f j) refl e (found_again f j.id.0 next js i h.1) where
  by : (b : Bool) → f j ≡ b → cond b (Some j) (find f js) ≡ Some i → (find f js ≡ Some i → item_of js i.id ≡ Some i) → item_of (j ∷ js) i.id ≡ Some i
  by true q e g = let z : j ≡ i = cc in subst (λ (x : Item). item_of (j ∷ js) x.id ≡ Some x) z (rw (eq-eqb j.id.0 j.id.0 refl) refl)
  by false q e g = rw (differ j.id.0 i.id.0 (found_above f j.id.0 next js i h.1 e)) (g e)

pub found_id : (id : ItemId) (items : List Item) (i : Item) → item_of items id ≡ Some i → i.id.0 ≡ id.0
found_id id [] i e = cc
found_id id (j ∷ js) i e = by (j.id.0 == id.0) refl e (found_id id js i) where
  by : (b : Bool) → (j.id.0 == id.0) ≡ b → cond b (Some j) (item_of js id) ≡ Some i → (item_of js id ≡ Some i → i.id.0 ≡ id.0) → i.id.0 ≡ id.0
  by true q e g = let z : j ≡ i = cc in subst (λ (x : Item). x.id.0 ≡ id.0) z (eqb-true j.id.0 id.0 q)
  by false q e g = g e

pub same_self : (xs : List ℕ) → same xs xs ≡ true
same_self [] = refl
same_self (x ∷ xs) = rw (eq-eqb x x refl) (same_self xs)

pub both : (a b : Bool) → a ≡ true → b ≡ true → (a && b) ≡ true
both true b e f = f
both false b e f = no_way e

order_less : (low next : ℕ) (items : List Item) → InOrder low next items → low < next
order_less low next [] h = h
order_less low next (i ∷ is) h = let z : low < i.id.0 = h.0 in let y : i.id.0 < next = order_less i.id.0 next is h.1 in omega (arith, z, y)

-- a new item is found
pub found_new : (low next : ℕ) (items : List Item) (x : Item) → x.id.0 ≡ next → InOrder low next items → item_of (items ++ x ∷ []) x.id ≡ Some x
found_new low next [] x e h = rw (eq-eqb x.id.0 x.id.0 refl) refl
found_new low next (i ∷ is) x e h = rw (differ i.id.0 x.id.0 (subst (λ (m : ℕ). i.id.0 < m) (sym e) (order_less i.id.0 next is h.1))) (found_new i.id.0 next is x e h.1)

-- the target of an item, by its id

abbrev pub target_at : List Item → ItemId → Rid
target_at items id = part target_of no_rid (item_of items id)

pub target_stays : (f : Item → Item) → ((i : Item) → (f i).id ≡ i.id) → ((i : Item) → target_of (f i) ≡ target_of i) → (item id : ItemId) (items : List Item) → target_at (changed item f items) id ≡ target_at items id
target_stays f same like item id [] = refl
target_stays f same like item id (i ∷ is) = by (i.id.0 == item.0) (target_stays f same like item id is) where
  found : (b : Bool) → target_at (changed item f is) id ≡ target_at is id → part target_of no_rid (cond b (Some (f i)) (item_of (changed item f is) id)) ≡ part target_of no_rid (cond b (Some i) (item_of is id))
  found true h = like i
  found false h = h

  kept : (b : Bool) → target_at (changed item f is) id ≡ target_at is id → part target_of no_rid (cond b (Some i) (item_of (changed item f is) id)) ≡ part target_of no_rid (cond b (Some i) (item_of is id))
  kept true h = refl
  kept false h = h

  by : (b : Bool) → target_at (changed item f is) id ≡ target_at is id → target_at (cond b (f i) i ∷ changed item f is) id ≡ target_at (i ∷ is) id
  by true h = subst (λ (x : ItemId). part target_of no_rid (cond (x.0 == id.0) (Some (f i)) (item_of (changed item f is) id)) ≡ target_at (i ∷ is) id) (sym (same i)) (found (i.id.0 == id.0) h)
  by false h = kept (i.id.0 == id.0) h

-- an item with a target keeps it beside a new one
pub target_more : (items : List Item) (x : Item) (id : ItemId) (rid : Rid) → nat_lt 0 rid.0 ≡ true → (target_at items id).0 ≡ rid.0 → (target_at (items ++ x ∷ []) id).0 ≡ rid.0
target_more [] x id rid some h = absurd (none rid.0 some h) where
  none : (n : ℕ) → nat_lt 0 n ≡ true → 0 ≡ n → ⊥
  none n a b = grind (arith, nat_tests, a, b)
target_more (i ∷ is) x id rid some h = by (i.id.0 == id.0) h (target_more is x id rid some) where
  by : (b : Bool) → (part target_of no_rid (cond b (Some i) (item_of is id))).0 ≡ rid.0 → ((target_at is id).0 ≡ rid.0 → (target_at (is ++ x ∷ []) id).0 ≡ rid.0) → (part target_of no_rid (cond b (Some i) (item_of (is ++ x ∷ []) id))).0 ≡ rid.0
  by true e g = e
  by false e g = g e

abbrev There : List Item → Item → Type 0
There items i = i.directory ≡ false → item_of items i.id ≡ Some i

walk_there : (next : ℕ) (items : List Item) (at : Item) (names : List (List ℕ)) (i : Item) → InOrder 0 next items → There items at → walk items at names ≡ Ok i → There items i
walk_there next items at [] i h t e = let z : at ≡ i = cc in subst (λ (x : Item). There items x) z t
walk_there next items at (n ∷ ns) i h t e = one (not at.directory) (not at.populated) (child_of items at.id n) refl e (λ k. walk_there next items k ns i h) where
  one : (a b : Bool) (o : Option Item) → child_of items at.id n ≡ o
      → cond a (Err code.NotDirectory) (cond b (Err code.NotPopulated) (elim o as (λ _. Result Item Code) [ None ↦ Err code.NotFound | Some k ↦ walk items k ns ])) ≡ Ok i
      → ((k : Item) → There items k → walk items k ns ≡ Ok i → There items i) → There items i
  one true b o q e g = absurd (bad code.NotDirectory e) where
    bad : (c : Code) → ◌≡◌ {A = Result Item Code} (Err c) (Ok i) → ⊥
    bad c e = cc
  one false true o q e g = absurd (bad code.NotPopulated e) where
    bad : (c : Code) → ◌≡◌ {A = Result Item Code} (Err c) (Ok i) → ⊥
    bad c e = cc
  one false false None q e g = absurd (bad code.NotFound e) where
    bad : (c : Code) → ◌≡◌ {A = Result Item Code} (Err c) (Ok i) → ⊥
    bad c e = cc
  one false false (Some k) q e g = g k (λ _. found_again (is_child_named at.id n) 0 next items k h q) e

root_there : (next : ℕ) (items : List Item) → InOrder 0 next items → There items (root_of items)
root_there next [] h = λ e. no_way (sym e)
root_there next (i ∷ is) h = λ e. rw (eq-eqb i.id.0 i.id.0 refl) refl

pub found_there : (path : List ℕ) (i : Item) (next : ℕ) (items : List Item) → InOrder 0 next items → find_path items path ≡ Ok i → i.directory ≡ false → item_of items i.id ≡ Some i
found_there path i next items h e = by (bad_names (names_of path)) e where
  by : (o : Option Code) → refused_or o (walk items (root_of items) (names_of path)) ≡ Ok i → There items i
  by (Some c) e = absurd (bad c e) where
    bad : (c : Code) → ◌≡◌ {A = Result Item Code} (Err c) (Ok i) → ⊥
    bad c e = cc
  by None e = walk_there next items (root_of items) (names_of path) i h (root_there next items h) e

-- a directory too, but for the root

walk_seated : (next : ℕ) (items : List Item) (at : Item) (names : List (List ℕ)) (i : Item) → InOrder 0 next items → IsSeated items at.id at.directory → walk items at names ≡ Ok i → IsSeated items i.id i.directory
walk_seated next items at [] i h t e = let z : at ≡ i = cc in subst (λ (x : Item). IsSeated items x.id x.directory) z t
walk_seated next items at (n ∷ ns) i h t e = one (not at.directory) (not at.populated) (child_of items at.id n) refl e (λ k. walk_seated next items k ns i h) where
  bad : (c : Code) → ◌≡◌ {A = Result Item Code} (Err c) (Ok i) → ⊥
  bad c e = cc

  one : (a b : Bool) (o : Option Item) → child_of items at.id n ≡ o
      → cond a (Err code.NotDirectory) (cond b (Err code.NotPopulated) (elim o as (λ _. Result Item Code) [ None ↦ Err code.NotFound | Some k ↦ walk items k ns ])) ≡ Ok i
      → ((k : Item) → IsSeated items k.id k.directory → walk items k ns ≡ Ok i → IsSeated items i.id i.directory) → IsSeated items i.id i.directory
  one true b o q e g = absurd (bad code.NotDirectory e)
  one false true o q e g = absurd (bad code.NotPopulated e)
  one false false None q e g = absurd (bad code.NotFound e)
  one false false (Some k) q e g = g k (inl (k, found_again (is_child_named at.id n) 0 next items k h q, refl)) e

root_seated : (items : List Item) → IsSeated items (root_of items).id (root_of items).directory
root_seated [] = inr (refl, refl)
root_seated (i ∷ is) = inl (i, rw (eq-eqb i.id.0 i.id.0 refl) refl, refl)

pub walked_seated : (i : Item) (names : List (List ℕ)) (next : ℕ) (items : List Item) → InOrder 0 next items → walk items (root_of items) names ≡ Ok i → IsSeated items i.id i.directory
walked_seated i names next items h e = walk_seated next items (root_of items) names i h (root_seated items) e

pub found_seated : (path : List ℕ) (i : Item) (next : ℕ) (items : List Item) → InOrder 0 next items → find_path items path ≡ Ok i → IsSeated items i.id i.directory
found_seated path i next items h e = by (bad_names (names_of path)) e where
  bad : (c : Code) → ◌≡◌ {A = Result Item Code} (Err c) (Ok i) → ⊥
  bad c e = cc

  by : (o : Option Code) → refused_or o (walk items (root_of items) (names_of path)) ≡ Ok i → IsSeated items i.id i.directory
  by (Some c) e = absurd (bad c e)
  by None e = walked_seated i (names_of path) next items h e

-- what stands below the root has a parent

abbrev pub IsChild : List Item → Item → Type 0
IsChild items i = (item_of items i.id ≡ Some i) × (1 ≤ i.parent.0)

child_up : (next : ℕ) (items : List Item) (at : Item) (n : List ℕ) (k : Item) → InOrder 0 next items → 1 ≤ at.id.0 → child_of items at.id n ≡ Some k → IsChild items k
child_up next items at n k h low q =
    let own : is_child_named at.id n k ≡ true = (all_found (λ j. Unit {0}) (is_child_named at.id n) items k q (all_any (λ j. Unit {0}) (λ j. tt) items)).1 in
    (found_again (is_child_named at.id n) 0 next items k h q, up at.id.0 k.parent.0 low (eqb-true k.parent.0 at.id.0 (first (k.parent.0 == at.id.0) (same k.name n) own))) where
      first : (a b : Bool) → (a && b) ≡ true → a ≡ true
      first true b z = refl
      first false b z = z

      up : (a b : ℕ) → 1 ≤ a → b ≡ a → 1 ≤ b
      up a b l z = omega (arith, l, z)

walk_down : (items : List Item) (at : Item) (n : List ℕ) (ns : List (List ℕ)) (i : Item) → ((k : Item) → child_of items at.id n ≡ Some k → walk items k ns ≡ Ok i → IsChild items i) → walk items at (n ∷ ns) ≡ Ok i → IsChild items i
walk_down items at n ns i more e = one (not at.directory) (not at.populated) (child_of items at.id n) refl e where
  bad : (c : Code) → ◌≡◌ {A = Result Item Code} (Err c) (Ok i) → ⊥
  bad c e = cc

  one : (a b : Bool) (o : Option Item) → child_of items at.id n ≡ o
      → cond a (Err code.NotDirectory) (cond b (Err code.NotPopulated) (elim o as (λ _. Result Item Code) [ None ↦ Err code.NotFound | Some k ↦ walk items k ns ])) ≡ Ok i → IsChild items i
  one true b o q e = absurd (bad code.NotDirectory e)
  one false true o q e = absurd (bad code.NotPopulated e)
  one false false None q e = absurd (bad code.NotFound e)
  one false false (Some k) q e = more k q e

walk_child : (next : ℕ) (items : List Item) (at : Item) (n : List ℕ) (ns : List (List ℕ)) (i : Item) → InOrder 0 next items → 1 ≤ at.id.0 → walk items at (n ∷ ns) ≡ Ok i → IsChild items i
walk_child next items at n [] i h low e = walk_down items at n [] i (λ k q z. let y : k ≡ i = cc in subst (IsChild items) y (child_up next items at n k h low q)) e
walk_child next items at n (m ∷ ms) i h low e = walk_down items at n (m ∷ ms) i (λ k q z. walk_child next items k m ms i h (found_above (is_child_named at.id n) 0 next items k h q) z) e

root_low : (next : ℕ) (items : List Item) → InOrder 0 next items → 1 ≤ (root_of items).id.0
root_low next [] h = omega arith
root_low next (i ∷ is) h = h.0

pub found_child : (path : List ℕ) (i : Item) (next : ℕ) (items : List Item) → InOrder 0 next items → find_below items path ≡ Ok i → IsChild items i
found_child path i next items h e = by (names_of path) e where
  bad : (c : Code) → ◌≡◌ {A = Result Item Code} (Err c) (Ok i) → ⊥
  bad c e = cc

  named : (n : List ℕ) (ns : List (List ℕ)) (o : Option Code) → refused_or o (walk items (root_of items) (n ∷ ns)) ≡ Ok i → IsChild items i
  named n ns (Some c) e = absurd (bad c e)
  named n ns None e = walk_child next items (root_of items) n ns i h (root_low next items h) e

  by : (names : List (List ℕ)) → (elim names as (λ _. Result Item Code) [ [] ↦ Err code.BadPath | n ∷ ns ↦ find_names items (n ∷ ns) ]) ≡ Ok i → IsChild items i
  by [] e = absurd (bad code.BadPath e)
  by (n ∷ ns) e = named n ns (bad_names (n ∷ ns)) e

-- the directory of a place is here

in_place : (name : List ℕ) (r : Result Item Code) (p : Place) → place_in name r ≡ Ok p → (r ≡ Ok p.parent) × (p.parent.directory ≡ true)
in_place name (Err c) p e = absurd (bad e) where
  bad : ◌≡◌ {A = Result Place Code} (Err c) (Ok p) → ⊥
  bad e = cc
in_place name (Ok q) p e = by q.directory q.populated refl e where
  bad : (c : Code) → ◌≡◌ {A = Result Place Code} (Err c) (Ok p) → ⊥
  bad c e = cc

  by : (a b : Bool) → q.directory ≡ a → cond (not a) (Err code.NotDirectory) (cond (not b) (Err code.NotPopulated) (Ok (record { parent = q; name = name }))) ≡ Ok p → (◌≡◌ {A = Result Item Code} (Ok q) (Ok p.parent)) × (p.parent.directory ≡ true)
  by false b z e = absurd (bad code.NotDirectory e)
  by true false z e = absurd (bad code.NotPopulated e)
  by true true z e =
      let y : record { parent = q; name = name } ≡ p = cc in
      (subst (λ (x : Place). ◌≡◌ {A = Result Item Code} (Ok q) (Ok x.parent)) y refl, subst (λ (x : Place). x.parent.directory ≡ true) y z)

pub place_seated : (path : List ℕ) (p : Place) (next : ℕ) (items : List Item) → InOrder 0 next items → find_place items path ≡ Ok p → IsSeated items p.parent.id true
place_seated path p next items h e = by (names_of path) e where
  bad : (c : Code) → ◌≡◌ {A = Result Place Code} (Err c) (Ok p) → ⊥
  bad c e = cc

  named : (n : List ℕ) (ns : List (List ℕ)) (o : Option Code) → refused_or o (place_in (last_of n ns) (walk items (root_of items) (but_last n ns))) ≡ Ok p → IsSeated items p.parent.id true
  named n ns (Some c) e = absurd (bad c e)
  named n ns None e =
      let k = in_place (last_of n ns) (walk items (root_of items) (but_last n ns)) p e in
      subst (IsSeated items p.parent.id) k.1 (walked_seated p.parent (but_last n ns) next items h k.0)

  by : (names : List (List ℕ)) → place_of items names ≡ Ok p → IsSeated items p.parent.id true
  by [] e = absurd (bad code.BadPath e)
  by (n ∷ ns) e = named n ns (bad_names (n ∷ ns)) e
