-- Changes keep items trees.
use Rattle.std.proofs.Common.{◌≡◌, ◌⊎◌, ◌≤◌, ℕ, zero, suc, Bool, true, false, List, [], ◌∷◌, ◌++◌, refl, sym, ◌∙◌, ap, subst, inl, inr, arith, eq-eqb, append-nil}
use Rattle.std.specs.Prelude.{Option, Some, None, cond, not, ◌||◌, ◌==◌}
use Rattle.std.proofs.lemmas.Bool.{eqb-true}
use Rattle.cf_base.specs.declared.changes.Change.{Change}
use Rattle.cf_base.specs.declared.changes.Change.TheVariants as change
use Rattle.cf_base.specs.declared.ids.ItemId.{ItemId}
use Rattle.cf_base.specs.declared.ids.Usn.{Usn}
use Rattle.cf_base.specs.declared.items.Pin.{Pin}
use Rattle.cf_model.specs.Effects.{changed, copied, copies, effect, made, moved, without}
use Rattle.cf_model.specs.Feeds.{is_under}
use Rattle.cf_model.specs.Items.{Item, item_of, pin_of}
use Rattle.cf_model.specs.LookUp.{children, is_below}
use Rattle.cf_model.specs.Numbers.{root_id}
use Rattle.cf_model.specs.Soundness.{Each}
use Rattle.cf_model.specs.State.{Filter}
use Rattle.cf_model.specs.Store.{Held}
use Rattle.cf_model_laws.specs.Fitting.{Fits, IsLeaf, IsVacant, Stands}
use Rattle.cf_model_laws.specs.Invariant.{All, InOrder}
use Rattle.cf_model_laws.specs.Seats.{IsBelowRoot, IsListed, IsSeated}
use Rattle.cf_model_laws.proofs.FitItems.{all_changed}
use Rattle.cf_model_laws.proofs.FoundItems.{found_id, found_new}
use Rattle.cf_model_laws.proofs.Gathered.{all_append, all_both, all_found, all_passed, all_weaker, each_any, each_weaker}
use Rattle.cf_model_laws.proofs.PushRepliesGuarded.{each_at}
use Rattle.cf_model_laws.proofs.RightItems.{no_way}
use Rattle.cf_model_laws.proofs.SeatLaws.{found_changed, found_less, found_more}
use Rattle.cf_model_laws.proofs.SoundSettles.{same_item}
use Rattle.cf_model_convergence.specs.Trees.{AreTrees, Climbs, IsUnder}
use Rattle.cf_model_convergence.proofs.ClimbLaws.{climbs_beside, climbs_by, climbs_through}

-- what is found in one list is found in the other, as far as a tree goes
abbrev Alike : Item → Item → Type 0
Alike i j = (j.parent ≡ i.parent) × (j.directory ≡ i.directory)

abbrev AreFound : List Item → List Item → Type 0
AreFound items js = (id : ItemId) (i : Item) → item_of items id ≡ Some i → (j : Item) × (item_of js id ≡ Some j) × Alike i j

abbrev IsReached : List Item → ItemId → Type 0
IsReached items id = (n : ℕ) × Climbs items n id

reached_by : (items js : List Item) → AreFound items js → (id : ItemId) → IsReached items id → IsReached js id
reached_by items js k id h = (h.0, climbs_by items js (λ id i e. let j = k id i e in (j.0, j.1, j.2.0)) h.0 id h.1)

under_by : (items js : List Item) → AreFound items js → (i j : Item) → j.id ≡ i.id → j.parent ≡ i.parent → IsUnder items i → IsUnder js j
under_by items js k i j same up h below =
    let p = h (λ z. below (ap (λ (x : ItemId). x.0) same ∙ z)) in
    let q = k i.parent p.0 p.1 in
    (q.0, subst (λ (x : ItemId). item_of js x ≡ Some q.0) (sym up) q.1, q.2.1 ∙ p.2)

top_by : (items js : List Item) → AreFound items js → AreTrees items → (i : Item) × (item_of js root_id ≡ Some i) × (i.directory ≡ true) × (i.parent.0 ≡ 0)
top_by items js k h = let j = k root_id h.top.0 h.top.1 in (j.0, j.1, j.2.1 ∙ h.top.2, ap (λ (x : ItemId). x.0) j.2.0 ∙ h.top.3)

-- an item that stays where it is
found_kept : (item : ItemId) (f : Item → Item) → ((i : Item) → (f i).id ≡ i.id) → ((i : Item) → (f i).directory ≡ i.directory) → (items : List Item) → Each item (λ i. (f i).parent ≡ i.parent) items → AreFound items (changed item f items)
found_kept item f same kind items up id i e = (cond (i.id.0 == item.0) (f i) i, found_changed item f same items id i e, by (i.id.0 == item.0) refl) where
  by : (b : Bool) → (i.id.0 == item.0) ≡ b → Alike i (cond b (f i) i)
  by true q = (each_at item (λ j. (f j).parent ≡ j.parent) items i (subst (λ (x : ItemId). item_of items x ≡ Some i) (same_item id item (sym (found_id id items i e) ∙ eqb-true i.id.0 item.0 q)) e) up, kind i)
  by false q = (refl, refl)

pub kept_trees : (item : ItemId) (f : Item → Item) → ((i : Item) → (f i).id ≡ i.id) → ((i : Item) → (f i).directory ≡ i.directory) → (items : List Item) → Each item (λ i. (f i).parent ≡ i.parent) items → AreTrees items → AreTrees (changed item f items)
kept_trees item f same kind items up h = record {
  top = top_by items js k h;
  under = all_changed item f (λ i. (f i).parent ≡ i.parent) (IsUnder items) (IsUnder js) (λ i u. under_by items js k i (f i) (same i) u) (λ i. under_by items js k i i refl refl) items up h.under;
  reached = all_changed item f (λ i. (f i).parent ≡ i.parent) (λ i. IsReached items i.id) (λ i. IsReached js i.id) (λ i u r. subst (IsReached js) (sym (same i)) (reached_by items js k i.id r)) (λ i. reached_by items js k i.id) items up h.reached;
}
  where
    js : List Item
    js = changed item f items

    k : AreFound items js
    k = found_kept item f same kind items up

pub plain_trees : (item : ItemId) (f : Item → Item) → ((i : Item) → (f i).id ≡ i.id) → ((i : Item) → (f i).directory ≡ i.directory) → ((i : Item) → (f i).parent ≡ i.parent) → (items : List Item) → AreTrees items → AreTrees (changed item f items)
plain_trees item f same kind up items h = kept_trees item f same kind items (each_any item (λ i. (f i).parent ≡ i.parent) up items) h

-- a new item

found_beside : (items more : List Item) → AreFound items (items ++ more)
found_beside items more id i e = (i, found_more items more id i e, (refl, refl))

pub seat_found : (items : List Item) (id : ItemId) → AreTrees items → IsSeated items id true → (p : Item) × (item_of items id ≡ Some p) × (p.directory ≡ true)
seat_found items id h (inl k) = k
seat_found items id h (inr k) = (h.top.0, subst (λ (x : ItemId). item_of items x ≡ Some h.top.0) (sym (same_item id root_id k.0)) h.top.1, h.top.2)

pub added_trees : (items : List Item) (x : Item) (next : ℕ) → InOrder 0 next items → 2 ≤ next → x.id.0 ≡ next → (p : Item) × (item_of items x.parent ≡ Some p) × (p.directory ≡ true) → AreTrees items → AreTrees (items ++ x ∷ [])
added_trees items x next order large new seat h = record {
  top = top_by items js k h;
  under = all_append (IsUnder js) items (x ∷ []) (all_weaker (IsUnder items) (IsUnder js) (λ i. under_by items js k i i refl refl) items h.under) ((λ below. (seat.0, found_more items (x ∷ []) x.parent seat.0 seat.1, seat.2)), tt);
  reached = all_append (λ i. IsReached js i.id) items (x ∷ []) (all_weaker (λ i. IsReached items i.id) (λ i. IsReached js i.id) (λ i. reached_by items js k i.id) items h.reached) ((suc up.0, (low, x, found_new 0 next items x new order, up.1)), tt);
}
  where
    js : List Item
    js = items ++ x ∷ []

    k : AreFound items js
    k = found_beside items (x ∷ [])

    low : x.id.0 ≡ 1 → ⊥
    low z = apart x.id.0 next z new large where
      apart : (a b : ℕ) → a ≡ 1 → a ≡ b → 2 ≤ b → ⊥
      apart a b z e l = omega (arith, z, e, l)

    up : IsReached js x.parent
    up = reached_by items js k x.parent (subst (IsReached items) (same_item seat.0.id x.parent (found_id x.parent items seat.0 seat.1)) (all_found (λ i. IsReached items i.id) (λ i. i.id.0 == x.parent.0) items seat.0 seat.1 h.reached).0)

-- a copy of a file stands where the file does
pub copied_trees : (items : List Item) (item from parent : ItemId) (name : List ℕ) (pin : Pin) (n : Usn) (next : ℕ) → InOrder 0 next items → 2 ≤ next → item.0 ≡ next → Each from (λ i. (i.parent.0 ≡ parent.0) × (i.directory ≡ false)) items → AreTrees items
    → (o : Option Item) → item_of items from ≡ o → AreTrees (items ++ copies item parent name pin n o)
copied_trees items item from parent name pin n next order large new stands h None e = subst AreTrees (sym (append-nil items)) h
copied_trees items item from parent name pin n next order large new stands h (Some i) e = added_trees items (copied item parent name pin n i) next order large new seat h where
  own : (i.parent.0 ≡ parent.0) × (i.directory ≡ false)
  own = each_at from (λ j. (j.parent.0 ≡ parent.0) × (j.directory ≡ false)) items i e stands

  low : i.id.0 ≡ 1 → ⊥
  low z = no_way (sym own.1 ∙ ap (λ (j : Item). j.directory) (same (sym e ∙ ap (λ (x : ItemId). item_of items x) (same_item from root_id (sym (found_id from items i e) ∙ z)) ∙ h.top.1)) ∙ h.top.2) where
    same : ◌≡◌ {A = Option Item} (Some i) (Some h.top.0) → i ≡ h.top.0
    same z = cc

  seat : (p : Item) × (item_of items parent ≡ Some p) × (p.directory ≡ true)
  seat = subst (λ (x : ItemId). (p : Item) × (item_of items x ≡ Some p) × (p.directory ≡ true)) (same_item i.parent parent own.0) ((all_found (IsUnder items) (λ j. j.id.0 == from.0) items i e h.under).0 low)

-- an item that goes

root_above : (items : List Item) (item : ItemId) → AreTrees items → IsBelowRoot items item → item.0 ≡ 1 → ⊥
root_above items item h (inl k) z = k z
root_above items item h (inr k) z =
    none k.0.parent.0 k.2 (ap (λ (i : Item). i.parent.0) (same (sym k.1 ∙ ap (λ (x : ItemId). item_of items x) (same_item item root_id z) ∙ h.top.1)) ∙ h.top.3) where
      same : ◌≡◌ {A = Option Item} (Some k.0) (Some h.top.0) → k.0 ≡ h.top.0
      same z = cc

      none : (n : ℕ) → 1 ≤ n → n ≡ 0 → ⊥
      none n l e = omega (arith, l, e)

-- no item stands in one that has no child
no_child : (item : ItemId) (list : List Item) → children list item ≡ [] → All (λ k. k.parent.0 ≡ item.0 → ⊥) list
no_child item [] e = tt
no_child item (k ∷ ks) e = by (k.parent.0 == item.0) refl e (no_child item ks) where
  some : (x : Item) (xs : List Item) → ◌≡◌ {A = List Item} (x ∷ xs) [] → ⊥
  some x xs z = cc

  by : (b : Bool) → (k.parent.0 == item.0) ≡ b → cond b (k ∷ children ks item) (children ks item) ≡ [] → (children ks item ≡ [] → All (λ j. j.parent.0 ≡ item.0 → ⊥) ks) → (k.parent.0 ≡ item.0 → ⊥) × All (λ j. j.parent.0 ≡ item.0 → ⊥) ks
  by true q e g = absurd (some k (children ks item) e)
  by false q e g = ((λ z. no_way (sym q ∙ eq-eqb k.parent.0 item.0 z)), g e)

-- so no item stands in one that goes
abbrev IsApart : ItemId → Item → Type 0
IsApart item k = (k.id.0 ≡ 1 → ⊥) → k.parent.0 ≡ item.0 → ⊥

all_apart : (item : ItemId) (items : List Item) → Each item (λ i. i.directory ≡ true → children items i.id ≡ []) items → All (IsUnder items) items → All (IsApart item) items
all_apart item items leaf under = by (item_of items item) refl where
  absent : (p : Item) → ◌≡◌ {A = Option Item} None (Some p) → ⊥
  absent p e = cc

  same : (p q : Item) → ◌≡◌ {A = Option Item} (Some p) (Some q) → p ≡ q
  same p q e = cc

  -- what is found where the parent is looked up
  looked : (k : Item) (u : IsUnder items k) (below : k.id.0 ≡ 1 → ⊥) → k.parent.0 ≡ item.0 → item_of items item ≡ Some (u below).0
  looked k u below z = subst (λ (x : ItemId). item_of items x ≡ Some (u below).0) (same_item k.parent item z) (u below).1

  found : (p : Item) → item_of items item ≡ Some p → (b : Bool) → p.directory ≡ b → All (IsApart item) items
  found p e true q =
      all_weaker (λ k. k.parent.0 ≡ item.0 → ⊥) (IsApart item) (λ k a below. a) items
      (no_child item items (subst (λ (x : ItemId). children items x ≡ []) (same_item p.id item (found_id item items p e)) (each_at item (λ i. i.directory ≡ true → children items i.id ≡ []) items p e leaf q)))
  found p e false q =
      all_weaker (IsUnder items) (IsApart item) (λ k u below z. no_way (sym q ∙ ap (λ (i : Item). i.directory) (same p (u below).0 (sym e ∙ looked k u below z)) ∙ (u below).2)) items under

  by : (o : Option Item) → item_of items item ≡ o → All (IsApart item) items
  by None e = all_weaker (IsUnder items) (IsApart item) (λ k u below z. absent (u below).0 (sym e ∙ looked k u below z)) items under
  by (Some p) e = found p e p.directory refl

climbs_less : (item : ItemId) (items : List Item) → All (IsApart item) items → (n : ℕ) (id : ItemId) → (id.0 ≡ item.0 → ⊥) → Climbs items n id → Climbs (without item items) n id
climbs_less item items apart zero id off h = h
climbs_less item items apart (suc n) id off h = (
  h.0,
  h.1,
  found_less item items id h.1 off h.2,
  climbs_less item items apart n h.1.parent ((all_found (IsApart item) (λ j. j.id.0 == id.0) items h.1 h.2 apart).0 (λ z. h.0 (sym (found_id id items h.1 h.2) ∙ z))) h.3,
)

pub removed_trees : (item : ItemId) (items : List Item) → IsLeaf items item → AreTrees items → AreTrees (without item items)
removed_trees item items leaf h = record {
  top = (h.top.0, found_less item items root_id h.top.0 (λ z. root_above items item h leaf.1 (sym z)) h.top.1, h.top.2, h.top.3);
  under = all_passed (λ i. IsUnder items i × IsApart item i) (IsUnder js) (λ i. not (i.id.0 == item.0)) (λ i e u below. let p = u.0 below in (p.0, found_less item items i.parent p.0 (u.1 below) p.1, p.2)) items
      (all_both (IsUnder items) (IsApart item) (λ i. IsUnder items i × IsApart item i) (λ i u a. (u, a)) items h.under apart);
  reached = all_passed (λ i. IsReached items i.id) (λ i. IsReached js i.id) (λ i. not (i.id.0 == item.0)) (λ i e r. (r.0, climbs_less item items apart r.0 i.id (differ i e) r.1)) items h.reached;
}
  where
    js : List Item
    js = without item items

    apart : All (IsApart item) items
    apart = all_apart item items leaf.0 h.under

    differ : (i : Item) → not (i.id.0 == item.0) ≡ true → i.id.0 ≡ item.0 → ⊥
    differ i e z = no_way (sym (ap (λ (b : Bool). not b) (eq-eqb i.id.0 item.0 z)) ∙ e)

-- an item that comes to stand elsewhere

pub moved_trees : (items : List Item) (item parent : ItemId) (name : List ℕ) (pin : Pin) (n : Usn) → (p : Item) × (item_of items parent ≡ Some p) × (p.directory ≡ true) → is_under items parent item ≡ false → IsBelowRoot items item → AreTrees items
    → AreTrees (changed item (moved parent name pin n) items)
moved_trees items item parent name pin n seat off below h = record {
  top = (h.top.0, keeps root_id h.top.0 not_root h.top.1, h.top.2, h.top.3);
  under = all_changed item (moved parent name pin n) (λ i. Unit {0}) (IsUnder items) (IsUnder js) (λ i _ u low. again parent seat) (λ i u low. again i.parent (u low)) items (each_any item (λ i. Unit {0}) (λ i. tt) items) h.under;
  reached = all_changed item (moved parent name pin n) (λ i. Unit {0}) (λ i. IsReached items i.id) (λ i. IsReached js i.id) (λ i _ r. up i.id r) (λ i r. up i.id r) items (each_any item (λ i. Unit {0}) (λ i. tt) items) h.reached;
}
  where
    js : List Item
    js = changed item (moved parent name pin n) items

    keeps : (id : ItemId) (i : Item) → (id.0 == item.0) ≡ false → item_of items id ≡ Some i → item_of js id ≡ Some i
    keeps id i apart e =
        found_changed item (moved parent name pin n) (λ j. refl) items id i e
        ∙ ap (λ (b : Bool). Some (cond b (moved parent name pin n i) i)) (ap (λ (m : ℕ). m == item.0) (found_id id items i e) ∙ apart)

    not_root : (1 == item.0) ≡ false
    not_root = one (1 == item.0) refl where
      one : (b : Bool) → (1 == item.0) ≡ b → b ≡ false
      one true q = absurd (root_above items item h below (sym (eqb-true 1 item.0 q)))
      one false q = refl

    -- a directory is found again
    again : (id : ItemId) → (p : Item) × (item_of items id ≡ Some p) × (p.directory ≡ true) → (p : Item) × (item_of js id ≡ Some p) × (p.directory ≡ true)
    again id k = (cond (k.0.id.0 == item.0) (moved parent name pin n k.0) k.0, found_changed item (moved parent name pin n) (λ j. refl) items id k.0 k.1, by (k.0.id.0 == item.0)) where
      by : (b : Bool) → (cond b (moved parent name pin n k.0) k.0).directory ≡ true
      by true = k.2
      by false = k.2

    split : (a b : Bool) → (a || b) ≡ false → b ≡ false
    split true b z = no_way (sym z)
    split false b z = z

    above : IsReached js parent
    above =
        let r : IsReached items parent = subst (IsReached items) (same_item seat.0.id parent (found_id parent items seat.0 seat.1)) (all_found (λ i. IsReached items i.id) (λ i. i.id.0 == parent.0) items seat.0 seat.1 h.reached).0 in
        (r.0, climbs_beside items item js keeps r.0 parent r.1 (split (parent.0 == item.0) (is_below items parent item) off))

    up : (id : ItemId) → IsReached items id → IsReached js id
    up id r = by (item_of items item) refl where
      absent : (i : Item) → ◌≡◌ {A = Option Item} None (Some i) → ⊥
      absent i e = cc

      other : item_of items item ≡ None → (k : ItemId) (i : Item) → item_of items k ≡ Some i → (b : Bool) → (k.0 == item.0) ≡ b → b ≡ false
      other e k i f true q = absurd (absent i (sym e ∙ ap (λ (x : ItemId). item_of items x) (sym (same_item k item (eqb-true k.0 item.0 q))) ∙ f))
      other e k i f false q = refl

      by : (o : Option Item) → item_of items item ≡ o → IsReached js id
      by None e = (r.0, climbs_by items js (λ k i f. (i, keeps k i (other e k i f (k.0 == item.0) refl) f, refl)) r.0 id r.1)
      by (Some t) e =
          climbs_through items item parent js (moved parent name pin n t)
          (found_changed item (moved parent name pin n) (λ j. refl) items item t e ∙ ap (λ (b : Bool). Some (cond b (moved parent name pin n t) t)) (eq-eqb t.id.0 item.0 (found_id item items t e)), refl)
          keeps above.0 above.1 r.0 id r.1

-- any change

pub effect_trees : (r : Held) (x : Filter) (c : Change) (n : Usn) → 2 ≤ x.volume.next_item.0 → InOrder 0 x.volume.next_item.0 x.volume.items → ((parent : ItemId) → IsListed x parent → IsSeated x.volume.items parent true) → Fits r x c
    → AreTrees x.volume.items → AreTrees (effect x.volume.items c n)
effect_trees r x (change.Make item parent name kind size identity) n large order listed fit h =
    added_trees x.volume.items (made item parent name kind size identity (pin_of x.volume.items parent) n) x.volume.next_item.0 order large fit.0.0 (seat_found x.volume.items parent h (by fit.2)) h where
      by : IsSeated x.volume.items parent true ⊎ IsListed x parent → IsSeated x.volume.items parent true
      by (inl k) = k
      by (inr k) = listed parent k
effect_trees r x (change.Remove item) n large order listed fit h =
    removed_trees item x.volume.items (each_weaker item (IsVacant x.volume.items) (λ i. i.directory ≡ true → children x.volume.items i.id ≡ []) (λ i k. k.1) x.volume.items fit.1, fit.2) h
effect_trees r x (change.Move item parent name) n large order listed fit h = by fit where
  by : Stands x (change.Move item parent name) → AreTrees (effect x.volume.items (change.Move item parent name) n)
  by (inl k) = kept_trees item _ (λ i. refl) (λ i. refl) x.volume.items (each_weaker item (λ i. i.parent.0 ≡ parent.0) (λ i. parent ≡ i.parent) (λ i z. same_item parent i.parent (sym z)) x.volume.items k) h
  by (inr k) = moved_trees x.volume.items item parent name (pin_of x.volume.items parent) n (seat_found x.volume.items parent h k.0) k.1 k.2 h
effect_trees r x (change.Write item at bytes) n large order listed fit h = plain_trees item _ (λ i. refl) (λ i. refl) (λ i. refl) x.volume.items h
effect_trees r x (change.Size item size) n large order listed fit h = plain_trees item _ (λ i. refl) (λ i. refl) (λ i. refl) x.volume.items h
effect_trees r x (change.Filled item start bytes) n large order listed fit h = plain_trees item _ (λ i. refl) (λ i. refl) (λ i. refl) x.volume.items h
effect_trees r x (change.Validated item start len) n large order listed fit h = plain_trees item _ (λ i. refl) (λ i. refl) (λ i. refl) x.volume.items h
effect_trees r x (change.Emptied item start len) n large order listed fit h = plain_trees item _ (λ i. refl) (λ i. refl) (λ i. refl) x.volume.items h
effect_trees r x (change.SetPin item pin) n large order listed fit h = plain_trees item _ (λ i. refl) (λ i. refl) (λ i. refl) x.volume.items h
effect_trees r x (change.Mark item number) n large order listed fit h = plain_trees item _ (λ i. refl) (λ i. refl) (λ i. refl) x.volume.items h
effect_trees r x (change.Clear item) n large order listed fit h = plain_trees item _ (λ i. refl) (λ i. refl) (λ i. refl) x.volume.items h
effect_trees r x (change.Convert item identity) n large order listed fit h = plain_trees item _ (λ i. refl) (λ i. refl) (λ i. refl) x.volume.items h
effect_trees r x (change.Revert item) n large order listed fit h = plain_trees item _ (λ i. refl) (λ i. refl) (λ i. refl) x.volume.items h
effect_trees r x (change.Rebase item identity len at) n large order listed fit h = plain_trees item _ (λ i. refl) (λ i. refl) (λ i. refl) x.volume.items h
effect_trees r x (change.Take item identity size) n large order listed fit h = plain_trees item _ (λ i. refl) (λ i. refl) (λ i. refl) x.volume.items h
effect_trees r x (change.Copy item from parent name) n large order listed fit h =
    copied_trees x.volume.items item from parent name (pin_of x.volume.items parent) n x.volume.next_item.0 order large fit.0 fit.1 h (item_of x.volume.items from) refl
effect_trees r x (change.Populated item) n large order listed fit h = plain_trees item _ (λ i. refl) (λ i. refl) (λ i. refl) x.volume.items h
effect_trees r x (change.Keep item on) n large order listed fit h = plain_trees item _ (λ i. refl) (λ i. refl) (λ i. refl) x.volume.items h
