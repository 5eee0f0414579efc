-- A tree of which an item has moved to a place that is not refused is a tree.
use Rattle.std.proofs.Common.{◌≡◌, ℕ, zero, suc, ◌+◌, ◌≤◌, Bool, true, false, cond, not, List, [], ◌∷◌, refl, sym, ap, subst, ◌∙◌, arith, eqb, Some, None, Option, inl, inr}
use Rattle.std.specs.Prelude.{MatchOption, nat_lt, ◌||◌}
use Rattle.std.specs.List.{list_any}
use Rattle.std.proofs.lemmas.Bool.{and_parts, cases_Bool, cond-false, cond-true, eq-eqb, eqb-true, false_from_ne_true, ltb-false, or_parts}
use Rattle.cf_base.specs.declared.codes.Code.{Code}
use Rattle.cf_base.specs.declared.codes.Code.TheVariants as code
use Rattle.cf_base.specs.declared.ids.ItemId.{ItemId}
use Rattle.cf_base.specs.declared.ids.Usn.{Usn}
use Rattle.cf_base.specs.declared.items.Pin.{Pin}
use Rattle.cf_model.specs.Effects.{changed, moved}
use Rattle.cf_model.specs.Items.{Item, item_of}
use Rattle.cf_model.specs.LookUp.{child_of, depth_at, height_at, is_below, is_child_named, line_up, move_refused}
use Rattle.cf_model.specs.Words.{first_of, same, says}
use Rattle.cf_tree.specs.Trees.{BeginWithRoot, IsTree, IsUnder, Stands}
use Rattle.cf_tree.proofs.Depths.{line_step, one_depth, only, some_of}
use Rattle.cf_tree.proofs.FoundLater.{at_most_greatest, changed_rise, find_changed, find_unchanged, is_not, none_changed, one_changed}
use Rattle.cf_tree.proofs.FreeNames.{same_is}
use Rattle.cf_tree.proofs.Heights.{depth_is, line_of_item}
use Rattle.cf_tree.proofs.TreesGrow.{own_child}
use Rattle.cf_tree.proofs.Walks.{own_id, same_item_id}

-- what a move that is not refused has of its tests

pub record MayMove (items : List Item) (id parent : ItemId) (name : List ℕ) : Type 0 where
  pub other : eqb parent.0 id.0 ≡ false
  pub outside : is_below items parent id ≡ false
  pub few : depth_at items parent + 1 + height_at items id ≤ 32
  pub free : says (is_not id) (child_of items parent name) ≡ false

pub may_move : (items : List Item) (id parent : ItemId) (name : List ℕ) → move_refused items id parent name ≡ None → MayMove items id parent name
may_move items id parent name e =
    four (eqb parent.0 id.0) (is_below items parent id) (nat_lt 32 (depth_at items parent + 1 + height_at items id)) (says (is_not id) (child_of items parent name)) refl refl refl refl e where
      four : (a b d x : Bool) → eqb parent.0 id.0 ≡ a → is_below items parent id ≡ b → nat_lt 32 (depth_at items parent + 1 + height_at items id) ≡ d → says (is_not id) (child_of items parent name) ≡ x →
          first_of ((a || b, code.IntoItself) ∷ (d, code.TooDeep) ∷ (x, code.Exists) ∷ []) ≡ None → MayMove items id parent name
      four false false false false p q r s k = record { other = p; outside = q; few = ltb-false 32 _ r; free = s }
      four true b d x p q r s k = let z : ◌≡◌ {A = Option Code} (Some code.IntoItself) None = k in absurd cc
      four false true d x p q r s k = let z : ◌≡◌ {A = Option Code} (Some code.IntoItself) None = k in absurd cc
      four false false true x p q r s k = let z : ◌≡◌ {A = Option Code} (Some code.TooDeep) None = k in absurd cc
      four false false false true p q r s k = let z : ◌≡◌ {A = Option Code} (Some code.Exists) None = k in absurd cc

module _ (items : List Item) (id parent : ItemId) (name : List ℕ) (pin : Pin) (n : Usn) (i p : Item) (t : IsTree items) (there : item_of items id ≡ Some i) (up : item_of items parent ≡ Some p) (open_above : p.directory ≡ true)
    (below_root : eqb id.0 1 ≡ false) (may : MayMove items id parent name) where
  abbrev move : Item → Item
  move = moved parent name pin n

  abbrev later : List Item
  later = changed id move items

  -- an item after the move
  abbrev now : Item → Item
  now j = cond (eqb j.id.0 id.0) (move j) j

  found_now : (key : ItemId) (j : Item) → item_of items key ≡ Some j → item_of later key ≡ Some (now j)
  found_now key j e = one_changed id key move (λ _. refl) items j e

  directory_stays : (j : Item) → (now j).directory ≡ j.directory
  directory_stays j = two (eqb j.id.0 id.0) where
    two : (b : Bool) → (cond b (move j) j).directory ≡ j.directory
    two true = refl
    two false = refl

  is_this : (key : ItemId) (j : Item) → item_of items key ≡ Some j → eqb j.id.0 id.0 ≡ true → j ≡ i
  is_this key j e hit = only j i (sym e ∙ ap (λ v. item_of items v) (own_id items key j e ∙ same_item_id j.id id (eqb-true j.id.0 id.0 hit)) ∙ there)

  not_root : (r : Item) → r.id.0 ≡ 1 → eqb r.id.0 id.0 ≡ false
  not_root r one = false_from_ne_true _ (λ hit. let z : true ≡ false = sym (eq-eqb id.0 1 (sym (eqb-true r.id.0 id.0 hit) ∙ one)) ∙ below_root in cc)

  not_this : (e : ℕ) (q : Item) → IsUnder e items q → list_any (λ k. eqb k id.0) (line_up e items (Some q)) ≡ false → eqb q.id.0 id.0 ≡ false
  not_this zero q u none = not_root q u
  not_this (suc e) q u none =
      let r = some_of (item_of items q.parent) (λ r. (r.directory ≡ true) × IsUnder e items r) u.1 in
      (or_parts (eqb q.id.0 id.0) _ (sym (ap (list_any (λ k. eqb k id.0)) (line_step e items q r.0 u.0 r.1)) ∙ none)).0

  -- what does not stand below the item stays as deep

  apart : (e : ℕ) (key : ItemId) (j : Item) → item_of items key ≡ Some j → IsUnder e items j → eqb j.id.0 id.0 ≡ false → list_any (λ k. eqb k id.0) (line_up e items (Some j)) ≡ false → IsUnder e later j
  apart zero key j found h other none = h
  apart (suc e) key j found h other none =
      let q = some_of (item_of items j.parent) (λ q. (q.directory ≡ true) × IsUnder e items q) h.1 in
      let line = sym (ap (list_any (λ k. eqb k id.0)) (line_step e items j q.0 h.0 q.1)) ∙ none in
      let rest : list_any (λ k. eqb k id.0) (line_up e items (Some q.0)) ≡ false = (or_parts (eqb j.id.0 id.0) _ line).1 in
      let q_other : eqb q.0.id.0 id.0 ≡ false = not_this e q.0 q.2.1 rest in
      let same : now q.0 ≡ q.0 = cond-false (eqb q.0.id.0 id.0) (move q.0) q.0 q_other in
      (h.0, subst (λ o. MatchOption o ⊥ (λ r. (r.directory ≡ true) × IsUnder e later r)) (sym (found_now j.parent q.0 q.1 ∙ ap (λ v. Some v) same)) (q.2.0, apart e j.parent q.0 q.1 q.2.1 q_other rest))

  -- what stands at or below the item goes with it

  pub record Sunk (e : ℕ) (j : Item) : Type 0 where
    pub depth : ℕ
    pub sum : depth + (t.places id i there).depth ≡ (t.places parent p up).depth + 1 + e
    pub under : IsUnder depth later (now j)

  parent_other : eqb p.id.0 id.0 ≡ false
  parent_other = ap (λ (v : ItemId). eqb v.0 id.0) (sym (own_id items parent p up)) ∙ may.other

  parent_apart : IsUnder (t.places parent p up).depth later p
  parent_apart =
      let s = t.places parent p up in
      apart s.depth parent p up s.under parent_other (ap (list_any (λ k. eqb k id.0)) (sym (line_of_item items parent p s.depth up s.under)) ∙ may.outside)

  this_sunk : (e : ℕ) (key : ItemId) (j : Item) → item_of items key ≡ Some j → IsUnder (suc e) items j → eqb j.id.0 id.0 ≡ true → Sunk (suc e) j
  this_sunk e key j found h hit =
      let same : j ≡ i = is_this key j found hit in
      let deep : suc e ≡ (t.places id i there).depth = one_depth (suc e) (t.places id i there).depth items i (subst (λ v. IsUnder (suc e) items v) same h) (t.places id i there).under in
      let at : item_of later parent ≡ Some p = found_now parent p up ∙ ap (λ v. Some v) (cond-false (eqb p.id.0 id.0) (move p) p parent_other) in
      let under : IsUnder (suc (t.places parent p up).depth) later (move j) =
      (h.0, subst (λ o. MatchOption o ⊥ (λ r. (r.directory ≡ true) × IsUnder (t.places parent p up).depth later r)) (sym at) (open_above, parent_apart)) in
      record {
        depth = suc (t.places parent p up).depth;
        sum = omega (arith, deep);
        under = subst (λ v. IsUnder (suc (t.places parent p up).depth) later v) (sym (cond-true (eqb j.id.0 id.0) (move j) j hit)) under;
      }

  below_sunk : (e : ℕ) (j q : Item) → eqb j.id.0 1 ≡ false → item_of items j.parent ≡ Some q → q.directory ≡ true → eqb j.id.0 id.0 ≡ false → Sunk e q → Sunk (suc e) j
  below_sunk e j q other at inside miss s =
      let under : IsUnder (suc s.depth) later j =
      (other, subst (λ o. MatchOption o ⊥ (λ r. (r.directory ≡ true) × IsUnder s.depth later r)) (sym (found_now j.parent q at)) (directory_stays q ∙ inside, s.under)) in
      record { depth = suc s.depth; sum = omega (arith, s.sum); under = subst (λ v. IsUnder (suc s.depth) later v) (sym (cond-false (eqb j.id.0 id.0) (move j) j miss)) under }

  sunk : (e : ℕ) (key : ItemId) (j : Item) → item_of items key ≡ Some j → IsUnder e items j → list_any (λ k. eqb k id.0) (line_up e items (Some j)) ≡ true → Sunk e j
  sunk zero key j found h any = let z : false ≡ true = any in absurd cc
  sunk (suc e) key j found h any =
      let q = some_of (item_of items j.parent) (λ q. (q.directory ≡ true) × IsUnder e items q) h.1 in
      elim (cases_Bool (eqb j.id.0 id.0)) [
        | inl hit ↦ this_sunk e key j found h hit
        | inr miss ↦
            below_sunk e j q.0 h.0 q.1 q.2.0 miss
            (sunk e j.parent q.0 q.1 q.2.1 (ap (λ v. v || list_any (λ k. eqb k id.0) (line_up e items (Some q.0))) (sym miss) ∙ ap (list_any (λ k. eqb k id.0)) (sym (line_step e items j q.0 h.0 q.1)) ∙ any))
      ]

  few_sunk : (e : ℕ) (key : ItemId) (j : Item) → item_of items key ≡ Some j → IsUnder e items j → list_any (λ k. eqb k id.0) (line_up e items (Some j)) ≡ true → (s : Sunk e j) → s.depth ≤ 32
  few_sunk e key j found h any s =
      let own : item_of items j.id ≡ Some j = subst (λ v. item_of items v ≡ Some j) (own_id items key j found) found in
      let below : is_below items j.id id ≡ true = ap (list_any (λ k. eqb k id.0)) (line_of_item items j.id j e own h) ∙ any in
      let most = at_most_greatest (λ k. depth_at items k.id) (λ k. is_below items k.id id) (λ k. eqb k.id.0 key.0) items j found below in
      omega (arith, s.sum, most, may.few, depth_is items j.id j e own h, depth_is items id i (t.places id i there).depth there (t.places id i there).under, depth_is items parent p (t.places parent p up).depth up (t.places parent p up).under)

  -- each item is the one of its name

  never_there : (key : ItemId) (j : Item) → item_of items key ≡ Some j → eqb j.id.0 id.0 ≡ false → (x : Item) → is_child_named j.parent j.name (move x) ≡ false
  never_there key j found miss x = false_from_ne_true _ (λ hit.
      let parts = and_parts (eqb parent.0 j.parent.0) (same name j.name) hit in
      let at : parent ≡ j.parent = same_item_id parent j.parent (eqb-true parent.0 j.parent.0 parts.0) in
      let named : name ≡ j.name = same_is name j.name parts.1 in
      let child : child_of items parent name ≡ Some j = (λ k. child_of items (at k) (named k)) ∙ (t.places key j found).alone in
      let z : true ≡ false = ap not (sym miss) ∙ ap (says (is_not id)) (sym child) ∙ may.free in cc)

  alone_now : (key : ItemId) (j : Item) → item_of items key ≡ Some j → child_of later (now j).parent (now j).name ≡ Some (now j)
  alone_now key j found = elim (cases_Bool (eqb j.id.0 id.0)) [
    | inl hit ↦
        let same : j ≡ i = is_this key j found hit in
        let this : child_of later parent name ≡ Some (move i) = find_changed (is_child_named parent name) id move items i there (own_child (move i)) may.free in
        subst (λ v. child_of later v.parent v.name ≡ Some v) (sym (cond-true (eqb j.id.0 id.0) (move j) j hit ∙ ap move same)) this
    | inr miss ↦
        subst (λ v. child_of later v.parent v.name ≡ Some v) (sym (cond-false (eqb j.id.0 id.0) (move j) j miss))
        (find_unchanged (is_child_named j.parent j.name) id move items j (never_there key j found miss) (t.places key j found).alone miss)
  ]

  stands_now : (key : ItemId) (j : Item) → item_of items key ≡ Some j → Stands later (now j)
  stands_now key j found = elim (cases_Bool (list_any (λ k. eqb k id.0) (line_up (t.places key j found).depth items (Some j)))) [
    | inl any ↦
        let s = sunk (t.places key j found).depth key j found (t.places key j found).under any in
        record { depth = s.depth; few = few_sunk (t.places key j found).depth key j found (t.places key j found).under any s; under = s.under; alone = alone_now key j found }
    | inr none ↦
        let other : eqb j.id.0 id.0 ≡ false = not_this (t.places key j found).depth j (t.places key j found).under none in
        record {
          depth = (t.places key j found).depth;
          few = (t.places key j found).few;
          under = subst (λ v. IsUnder (t.places key j found).depth later v) (sym (cond-false (eqb j.id.0 id.0) (move j) j other)) (apart (t.places key j found).depth key j found (t.places key j found).under other none);
          alone = alone_now key j found;
        }
  ]

  begins_now : (list : List Item) → BeginWithRoot list → BeginWithRoot (changed id move list)
  begins_now [] h = absurd h
  begins_now (r ∷ is) h = subst (λ v. BeginWithRoot (v ∷ changed id move is)) (sym (cond-false (eqb r.id.0 id.0) (move r) r (not_root r h.0))) h

  pub moved_tree : IsTree later
  moved_tree = record { order = changed_rise id move (λ _. refl) 1 items t.order; root = begins_now items t.root; places = λ key k e. place key k (item_of items key) refl e } where
    place : (key : ItemId) (k : Item) (o : Option Item) → item_of items key ≡ o → item_of later key ≡ Some k → Stands later k
    place key k None f e = let z : ◌≡◌ {A = Option Item} None (Some k) = sym (none_changed id key move (λ _. refl) items f) ∙ e in absurd cc
    place key k (Some j) f e = subst (λ v. Stands later v) (only (now j) k (sym (found_now key j f) ∙ e)) (stands_now key j f)
