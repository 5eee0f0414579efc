-- What leads from an item up to the root.
use Rattle.std.proofs.Common.{◌≡◌, ◌≤◌, ◌<◌, ℕ, zero, suc, Bool, true, false, List, [], ◌∷◌, refl, sym, ◌∙◌, ap, subst, arith, length}
use Rattle.std.specs.Prelude.{Option, Some, cond, not, ◌||◌, ◌==◌}
use Rattle.std.specs.List.{list_any}
use Rattle.std.proofs.lemmas.Bool.{eqb-true}
use Rattle.cf_base.specs.declared.ids.ItemId.{ItemId}
use Rattle.cf_model.specs.Effects.{without}
use Rattle.cf_model.specs.Items.{Item, item_of}
use Rattle.cf_model.specs.LookUp.{item_line, line_up}
use Rattle.cf_model.specs.Numbers.{root_id}
use Rattle.cf_model_laws.proofs.FeedMovesGuarded.{root_first}
use Rattle.cf_model_laws.proofs.FoundItems.{found_id}
use Rattle.cf_model_laws.proofs.RightItems.{no_way}
use Rattle.cf_model_laws.proofs.SeatLaws.{found_less}
use Rattle.cf_model_laws.proofs.SoundSettles.{same_item}
use Rattle.cf_model_convergence.specs.Trees.{Climbs}

-- where each item is found again with the same parent, the same leads up
pub climbs_by : (items js : List Item) → ((id : ItemId) (i : Item) → item_of items id ≡ Some i → (j : Item) × (item_of js id ≡ Some j) × (j.parent ≡ i.parent)) → (n : ℕ) (id : ItemId) → Climbs items n id → Climbs js n id
climbs_by items js k zero id h = h
climbs_by items js k (suc n) id h =
    let j = k id h.1 h.2 in
    (h.0, j.0, j.1, subst (Climbs js n) (sym j.2) (climbs_by items js k n h.1.parent h.3))

same_found : (items : List Item) (id : ItemId) (i j : Item) → item_of items id ≡ Some i → item_of items id ≡ Some j → i ≡ j
same_found items id i j e f = inner (sym e ∙ f) where
  inner : ◌≡◌ {A = Option Item} (Some i) (Some j) → i ≡ j
  inner z = cc

-- how many they are is one number
pub one_level : (items : List Item) (n m : ℕ) (id : ItemId) → Climbs items n id → Climbs items m id → n ≡ m
one_level items zero zero id h k = refl
one_level items zero (suc m) id h k = absurd (k.0 h)
one_level items (suc n) zero id h k = absurd (h.0 k)
one_level items (suc n) (suc m) id h k = ap (λ (x : ℕ). suc x) (one_level items n m h.1.parent h.3 (subst (λ (i : Item). Climbs items m i.parent) (same_found items id k.1 h.1 k.2 h.2) k.3))

-- what is above an item does not pass it
climbs_without : (items : List Item) (id : ItemId) (m : ℕ) → Climbs items m id → (n : ℕ) → n < m → (q : ItemId) → Climbs items n q → Climbs (without id items) n q
climbs_without items id m top zero low q h = h
climbs_without items id m top (suc n) low q h = (h.0, h.1, found_less id items q h.1 other h.2, climbs_without items id m top n (less n m low) h.1.parent h.3) where
  less : (n m : ℕ) → suc n < m → n < m
  less n m l = omega (arith, l)

  apart : (a b : ℕ) → a < b → a ≡ b → ⊥
  apart a b l e = omega (arith, l, e)

  other : q.0 ≡ id.0 → ⊥
  other z = apart (suc n) m low (one_level items (suc n) m id (subst (Climbs items (suc n)) (same_item q id z) h) top)

fewer : (id : ItemId) (items : List Item) → length (without id items) ≤ length items
fewer id [] = omega arith
fewer id (j ∷ js) = by (j.id.0 == id.0) (fewer id js) where
  by : (b : Bool) → length (without id js) ≤ length js → length (cond (not b) (j ∷ without id js) (without id js)) ≤ suc (length js)
  by true h = omega (arith, h)
  by false h = omega (arith, h)

one_less : (id : ItemId) (items : List Item) (i : Item) → item_of items id ≡ Some i → length (without id items) < length items
one_less id [] i e = cc
one_less id (j ∷ js) i e = by (j.id.0 == id.0) e (one_less id js i) where
  by : (b : Bool) → cond b (Some j) (item_of js id) ≡ Some i → (item_of js id ≡ Some i → length (without id js) < length js) → length (cond (not b) (j ∷ without id js) (without id js)) < suc (length js)
  by true e g = let z : length (without id js) ≤ length js = fewer id js in omega (arith, z)
  by false e g = let z : length (without id js) < length js = g e in omega (arith, z)

-- they are no more than the items
pub climbs_few : (n : ℕ) (items : List Item) (id : ItemId) → Climbs items n id → n ≤ length items
climbs_few zero items id h = omega arith
climbs_few (suc n) items id h =
    let z : n ≤ length (without id items) = climbs_few n (without id items) h.1.parent (climbs_without items id (suc n) h n (next n) h.1.parent h.3) in
    let y : length (without id items) < length items = one_less id items h.1 h.2 in
    omega (arith, z, y)
  where
    next : (n : ℕ) → n < suc n
    next n = omega arith

below : (n m : ℕ) → suc n ≤ suc m → n ≤ m
below n m l = omega (arith, l)

-- the line of an item, with more steps than are needed
pub line_more : (items : List Item) (n fuel : ℕ) (id : ItemId) → n ≤ fuel → Climbs items n id → line_up fuel items (item_of items id) ≡ line_up (suc fuel) items (item_of items id)
line_more items zero fuel id l h =
    subst (λ (x : ItemId). line_up fuel items (item_of items x) ≡ line_up (suc fuel) items (item_of items x)) (sym (same_item id root_id h)) (root_first fuel items ∙ sym (root_first (suc fuel) items))
line_more items (suc n) zero id l h = absurd (none n l) where
  none : (n : ℕ) → suc n ≤ 0 → ⊥
  none n l = omega (arith, l)
line_more items (suc n) (suc fuel) id l h =
    subst (λ (o : Option Item). line_up (suc fuel) items o ≡ line_up (suc (suc fuel)) items o) (sym h.2) (by (h.1.id.0 == 1) (line_more items n fuel h.1.parent (below n fuel l) h.3)) where
      by : (b : Bool) → line_up fuel items (item_of items h.1.parent) ≡ line_up (suc fuel) items (item_of items h.1.parent)
          → cond b [] (h.1.id.0 ∷ line_up fuel items (item_of items h.1.parent)) ≡ cond b [] (h.1.id.0 ∷ line_up (suc fuel) items (item_of items h.1.parent))
      by true z = refl
      by false z = ap (λ (l : List ℕ). h.1.id.0 ∷ l) z

-- so the line of an item is its id and the line of its parent
pub line_parent : (items : List Item) (n : ℕ) (i p : Item) → item_of items i.id ≡ Some i → (i.id.0 ≡ 1 → ⊥) → item_of items i.parent ≡ Some p → Climbs items n i.id → item_line items i.id ≡ i.id.0 ∷ item_line items p.id
line_parent items zero i p there below up h = absurd (below h)
line_parent items (suc n) i p there below up h = by (length items) (climbs_few (suc n) items i.id h) where
  own : Climbs items n i.parent
  own = subst (λ (x : Item). Climbs items n x.parent) (same_found items i.id h.1 i h.2 there) h.3

  off : (i.id.0 == 1) ≡ false
  off = one (i.id.0 == 1) refl where
    one : (b : Bool) → (i.id.0 == 1) ≡ b → b ≡ false
    one true q = absurd (below (eqb-true i.id.0 1 q))
    one false q = refl

  less : (n m : ℕ) → suc n ≤ suc m → n ≤ m
  less n m l = omega (arith, l)

  none : (n : ℕ) → suc n ≤ 0 → ⊥
  none n l = omega (arith, l)

  by : (fuel : ℕ) → suc n ≤ fuel → line_up fuel items (item_of items i.id) ≡ i.id.0 ∷ line_up fuel items (item_of items p.id)
  by zero l = absurd (none n l)
  by (suc fuel) l =
      subst (λ (o : Option Item). line_up (suc fuel) items o ≡ i.id.0 ∷ line_up (suc fuel) items (item_of items p.id)) (sym there)
      (ap (λ (b : Bool). cond b [] (i.id.0 ∷ line_up fuel items (item_of items i.parent))) off
      ∙ ap (λ (l : List ℕ). i.id.0 ∷ l) (line_more items n fuel i.parent (less n fuel l) own ∙ ap (λ (x : ItemId). line_up (suc fuel) items (item_of items x)) (sym (same_item p.id i.parent (found_id i.parent items p up)))))

-- an item that comes to stand elsewhere

-- what is not below the item leads up as before
climbs_off : (items : List Item) (top : ItemId) (f : Item → Item) (js : List Item) → ((id : ItemId) (i : Item) → (id.0 == top.0) ≡ false → item_of items id ≡ Some i → item_of js id ≡ Some i) → (n fuel : ℕ) (id : ItemId) → n ≤ fuel → Climbs items n id
    → list_any (λ k. k == top.0) (line_up fuel items (item_of items id)) ≡ false → Climbs js n id
climbs_off items top f js k zero fuel id l h e = h
climbs_off items top f js k (suc n) zero id l h e = absurd (none n l) where
  none : (n : ℕ) → suc n ≤ 0 → ⊥
  none n l = omega (arith, l)
climbs_off items top f js k (suc n) (suc fuel) id l h e =
    (h.0, h.1, k id h.1 apart.0 h.2, climbs_off items top f js k n fuel h.1.parent (less n fuel l) h.3 apart.1) where
      less : (n m : ℕ) → suc n ≤ suc m → n ≤ m
      less n m l = omega (arith, l)

      same : h.1.id.0 ≡ id.0
      same = found_id id items h.1 h.2

      off : (h.1.id.0 == 1) ≡ false
      off = one (h.1.id.0 == 1) refl where
        one : (b : Bool) → (h.1.id.0 == 1) ≡ b → b ≡ false
        one true q = absurd (h.0 (sym same ∙ eqb-true h.1.id.0 1 q))
        one false q = refl

      line : list_any (λ k. k == top.0) (h.1.id.0 ∷ line_up fuel items (item_of items h.1.parent)) ≡ false
      line = subst (λ (b : Bool). list_any (λ k. k == top.0) (cond b [] (h.1.id.0 ∷ line_up fuel items (item_of items h.1.parent))) ≡ false) off (subst (λ (o : Option Item). list_any (λ k. k == top.0) (line_up (suc fuel) items o) ≡ false) h.2 e)

      split : (a b : Bool) → (a || b) ≡ false → (a ≡ false) × (b ≡ false)
      split true b z = no_way (sym z)
      split false b z = (refl, z)

      apart : ((id.0 == top.0) ≡ false) × (list_any (λ k. k == top.0) (line_up fuel items (item_of items h.1.parent)) ≡ false)
      apart = let s = split (h.1.id.0 == top.0) (list_any (λ k. k == top.0) (line_up fuel items (item_of items h.1.parent))) line in (subst (λ (x : ℕ). (x == top.0) ≡ false) same s.0, s.1)

pub climbs_beside : (items : List Item) (top : ItemId) (js : List Item) → ((id : ItemId) (i : Item) → (id.0 == top.0) ≡ false → item_of items id ≡ Some i → item_of js id ≡ Some i) → (n : ℕ) (id : ItemId) → Climbs items n id
    → list_any (λ k. k == top.0) (item_line items id) ≡ false → Climbs js n id
climbs_beside items top js k n id h e = climbs_off items top (λ i. i) js k n (length items) id (climbs_few n items id h) h e

-- and what is below it, over its new parent
pub climbs_through : (items : List Item) (top parent : ItemId) (js : List Item) (t : Item) → (item_of js top ≡ Some t) × (t.parent ≡ parent) → ((id : ItemId) (i : Item) → (id.0 == top.0) ≡ false → item_of items id ≡ Some i → item_of js id ≡ Some i)
    → (m : ℕ) → Climbs js m parent → (n : ℕ) (id : ItemId) → Climbs items n id → (q : ℕ) × Climbs js q id
climbs_through items top parent js t there k m up zero id h = (0, h)
climbs_through items top parent js t there k m up (suc n) id h = by (id.0 == top.0) refl (climbs_through items top parent js t there k m up n h.1.parent h.3) where
  by : (b : Bool) → (id.0 == top.0) ≡ b → (q : ℕ) × Climbs js q h.1.parent → (q : ℕ) × Climbs js q id
  by true z r = (suc m, (h.0, t, subst (λ (x : ItemId). item_of js x ≡ Some t) (sym (same_item id top (eqb-true id.0 top.0 z))) there.0, subst (Climbs js m) (sym there.1) up))
  by false z r = (suc r.0, (h.0, h.1, k id h.1 z h.2, r.1))
