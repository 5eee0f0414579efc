-- What keeps and what knows the move of an item to where an entry of a feed has it.
use Rattle.std.proofs.Common.{◌≡◌, ℕ, zero, suc, Bool, true, false, List, [], ◌∷◌, refl, sym, ◌∙◌, ap, subst, inl, inr, eq-eqb, length}
use Rattle.std.specs.Prelude.{Option, Some, None, cond, find, not, nat_lt, ◌||◌, ◌==◌}
use Rattle.std.specs.List.{list_any}
use Rattle.std.proofs.lemmas.Bool.{eqb-true}
use Rattle.cf_base.specs.declared.changes.Change.{Change}
use Rattle.cf_base.specs.declared.changes.Change.TheVariants as change
use Rattle.cf_base.specs.declared.ids.ItemId.{ItemId}
use Rattle.cf_base.specs.declared.messages.Entry.{Entry}
use Rattle.cf_model.specs.Arrows.{and_then, only_if}
use Rattle.cf_model.specs.Books.{with_seen}
use Rattle.cf_model.specs.ConflictNames.{conflict_name}
use Rattle.cf_model.specs.Feeds.{free_parent, is_under, move_entry, move_in, name_in_root, seen_entry, stands_in}
use Rattle.cf_model.specs.Identities.{has_target, parent_target, stands_at_path, target_of}
use Rattle.cf_model.specs.Changes.{next_number}
use Rattle.cf_model.specs.Effects.{moved}
use Rattle.cf_model.specs.Items.{Item, item_of, pin_of}
use Rattle.cf_model.specs.LookUp.{is_below, line_up}
use Rattle.cf_model.specs.Numbers.{no_rid, root_id}
use Rattle.cf_model.specs.Skips.{move_off, occupant, try_change, try_clear_name, try_seen}
use Rattle.cf_model.specs.State.{State, book_now, items_now}
use Rattle.cf_model.specs.Trees.{Keeps}
use Rattle.cf_model.specs.Words.{part, same, says}
use Rattle.cf_model_laws.specs.Premises.{IsFair}
use Rattle.cf_model_laws.specs.Fitting.{Stands}
use Rattle.cf_model_laws.specs.Seats.{IsSeated}
use Rattle.cf_model_laws.specs.Taken.{IsSeenBy}
use Rattle.cf_model_laws.proofs.FoundItems.{both, found_id}
use Rattle.cf_model_laws.proofs.MoveChanges.{SeatAt}
use Rattle.cf_model_laws.proofs.SeatLaws.{found_changed}
use Rattle.cf_model_laws.proofs.Guarded.{KeepsPlaced, StandsAtPath}
use Rattle.cf_model_laws.proofs.Leading.{Leads, leads_weaker}
use Rattle.cf_model_laws.proofs.RightItems.{no_way}
use Rattle.cf_model_laws.proofs.SeenPaths.{led_unnamed, sees_still}
use Rattle.cf_model_laws.proofs.SkipsGuarded.{Any, Led, Skipping, and_then_led, move_at, only_if_at, try_clear_name_keeps, try_led, try_seen_at}
use Rattle.cf_model_laws.proofs.SoundSettles.{left_true, not_false, right_true, same_item}

-- The item may come to be seen where the entry has it: it stands there, or another change than a Mark was the last.
abbrev IsReady : Entry → Item → Item → State → Type 0
IsReady e i p s = IsFair s.link → says (stands_in p e.name) (item_of (items_now s) i.id) ≡ true → KeepsPlaced (with_seen (seen_entry i.id e)) s

moved_ready : (e : Entry) (i p : Item) (item parent : ItemId) (name : List ℕ) (s t : State) → Led (change.Move item parent name) s t → KeepsPlaced (with_seen (seen_entry i.id e)) t
moved_ready e i p item parent name s t led other m = absurd (led_unnamed (change.Move item parent name) s t (λ z. z) led other m)

move_ready : (e : Entry) (i p : Item) (item parent : ItemId) (name : List ℕ) (s : State) → Leads Any (λ done t. done ≡ true → IsReady e i p t) (try_change (change.Move item parent name) s)
move_ready e i p item parent name s =
    leads_weaker Any (λ done t. done ≡ true → Led (change.Move item parent name) s t) (λ done t. done ≡ true → IsReady e i p t) (try_change (change.Move item parent name) s)
    (λ done t led d fair stands. moved_ready e i p item parent name s t (led d)) (try_led (change.Move item parent name) s)

clear_ready : (e : Entry) (i p : Item) (s : State) → IsReady e i p s → Leads Any (λ done t. done ≡ true → IsReady e i p t) (try_clear_name p.id e.name i.id s)
clear_ready e i p s ready = by (occupant p.id e.name i.id s) where
  by : (o : Option Item) → Leads Any (λ done t. done ≡ true → IsReady e i p t) (move_off o s)
  by None = λ d. ready
  by (Some j) = move_ready e i p j.id j.parent (conflict_name (items_now s) j.parent j.name) s

in_ready : (e : Entry) (i p : Item) (b : Bool) (s : State) → not (says (stands_in p e.name) (item_of (items_now s) i.id)) ≡ b → IsReady e i p s
    → Leads Any (λ done t. done ≡ true → IsFair t.link → KeepsPlaced (with_seen (seen_entry i.id e)) t) (only_if b (try_change (change.Move i.id p.id e.name)) s)
in_ready e i p true s q ready =
    leads_weaker Any (λ done t. done ≡ true → Led (change.Move i.id p.id e.name) s t) (λ done t. done ≡ true → IsFair t.link → KeepsPlaced (with_seen (seen_entry i.id e)) t) (try_change (change.Move i.id p.id e.name) s)
    (λ done t led d fair. moved_ready e i p i.id p.id e.name s t (led d)) (try_led (change.Move i.id p.id e.name) s)
in_ready e i p false s q ready = λ d fair. ready fair (not_false (says (stands_in p e.name) (item_of (items_now s) i.id)) q)

-- the item stands there already
pub here_ready : (e : Entry) (i p : Item) (s : State) → (IsFair s.link → item_of (items_now s) p.id ≡ Some p) → has_target p e.parent ≡ true → IsReady e i p s
here_ready e i p s there target fair stands item m =
    sees_still (seen_entry i.id e) (items_now s) (book_now s) item (λ own. by (item_of (items_now s) item) refl (subst (λ (x : ItemId). says (stands_in p e.name) (item_of (items_now s) x) ≡ true) (same_item i.id item (eqb-true i.id.0 item.0 own)) stands)) where
      path : (j : Item) → stands_in p e.name j ≡ true → stands_at_path (items_now s) j (seen_entry i.id e) ≡ true
      path j q =
          let up : j.parent.0 ≡ p.id.0 = eqb-true j.parent.0 p.id.0 (left_true (j.parent.0 == p.id.0) (same j.name e.name) q) in
          let at : (parent_target (items_now s) j).0 ≡ e.parent.0 =
          subst (λ (n : ℕ). (part target_of no_rid (find (λ k. k.id.0 == n) (items_now s))).0 ≡ e.parent.0) (sym up) (ap (λ (o : Option Item). (part target_of no_rid o).0) (there fair) ∙ eqb-true (target_of p).0 e.parent.0 (right_true (nat_lt 0 e.parent.0) ((target_of p).0 == e.parent.0) target)) in
          both ((parent_target (items_now s) j).0 == e.parent.0) (same j.name e.name) (eq-eqb (parent_target (items_now s) j).0 e.parent.0 at) (right_true (j.parent.0 == p.id.0) (same j.name e.name) q)

      by : (o : Option Item) → item_of (items_now s) item ≡ o → says (stands_in p e.name) o ≡ true → StandsAtPath (items_now s) item (seen_entry i.id e)
      by None f q = no_way q
      by (Some j) f q = (j, f, path j q)

-- The item may come there: the parent is here, and not below the item.
abbrev IsFree : Item → Item → State → Type 0
IsFree i p s = IsFair s.link → is_under (items_now s) p.id i.id ≡ false

-- a directory that was moved to the root is below no other
pub root_first : (fuel : ℕ) (items : List Item) → line_up fuel items (item_of items root_id) ≡ []
root_first zero items = refl
root_first (suc fuel) items = by (item_of items root_id) refl where
  by : (o : Option Item) → item_of items root_id ≡ o → line_up (suc fuel) items o ≡ []
  by None q = refl
  by (Some r) q = rw (eq-eqb r.id.0 1 (found_id root_id items r q)) refl

freed_line : (fuel : ℕ) (items : List Item) (p : Item) (top : ItemId) → p.parent ≡ root_id → (p.id.0 ≡ top.0 → ⊥) → list_any (λ k. k == top.0) (line_up fuel items (Some p)) ≡ false
freed_line zero items p top up apart = refl
freed_line (suc fuel) items p top up apart = by (p.id.0 == 1) where
  differ : (p.id.0 == top.0) ≡ false
  differ = one (p.id.0 == top.0) refl where
    one : (b : Bool) → (p.id.0 == top.0) ≡ b → b ≡ false
    one true q = absurd (apart (eqb-true p.id.0 top.0 q))
    one false q = refl

  by : (b : Bool) → list_any (λ k. k == top.0) (cond b [] (p.id.0 ∷ line_up fuel items (item_of items p.parent))) ≡ false
  by true = refl
  by false = rw differ (subst (λ (x : ItemId). list_any (λ k. k == top.0) (line_up fuel items (item_of items x)) ≡ false) (sym up) (subst (λ (l : List ℕ). list_any (λ k. k == top.0) l ≡ false) (sym (root_first fuel items)) refl))

freed : (i p : Item) (name : List ℕ) (s t : State) → Led (change.Move p.id root_id name) s t → (IsFair s.link → p.id.0 ≡ i.id.0 → ⊥) → (IsFair s.link → (q : Item) × (item_of (items_now s) p.id ≡ Some q)) → IsFree i p t
freed i p name s t led others there fair =
    let apart = others (subst IsFair led.link fair) in
    let q = there (subst IsFair led.link fair) in
    let m : Item = moved root_id name (pin_of (items_now s) root_id) (next_number s.filter.volume) q.0 in
    let same : q.0.id.0 ≡ p.id.0 = found_id p.id (items_now s) q.0 q.1 in
    let found : item_of (items_now t) p.id ≡ Some m = subst (λ (is : List Item). item_of is p.id ≡ Some m) (sym led.after.items) (found_changed p.id _ (λ j. refl) (items_now s) p.id q.0 q.1 ∙ ap (λ (b : Bool). Some (cond b m q.0)) (eq-eqb q.0.id.0 p.id.0 same)) in
    neither_true (p.id.0 == i.id.0) (is_below (items_now t) p.id i.id) (not_same p.id.0 i.id.0 apart)
    (subst (λ (o : Option Item). list_any (λ k. k == i.id.0) (line_up (length (items_now t)) (items_now t) o) ≡ false) (sym found) (freed_line (length (items_now t)) (items_now t) m i.id refl (λ z. apart (sym same ∙ z)))) where
      neither_true : (a b : Bool) → a ≡ false → b ≡ false → (a || b) ≡ false
      neither_true true b e f = no_way (sym e)
      neither_true false b e f = f

      not_same : (a b : ℕ) → (a ≡ b → ⊥) → (a == b) ≡ false
      not_same a b k = one (a == b) refl where
        one : (c : Bool) → (a == b) ≡ c → c ≡ false
        one true q = absurd (k (eqb-true a b q))
        one false q = refl

-- a directory under another is not the root
under_below : (items : List Item) (p i : ItemId) → (p.0 ≡ i.0 → ⊥) → is_under items p i ≡ true → p.0 ≡ 1 → ⊥
under_below items p i apart under top = by (p.0 == i.0) refl under where
  root : (fuel : ℕ) → list_any (λ k. k == i.0) (line_up fuel items (item_of items p)) ≡ false
  root fuel = subst (λ (x : ItemId). list_any (λ k. k == i.0) (line_up fuel items (item_of items x)) ≡ false) (sym (same_item p root_id top)) (subst (λ (l : List ℕ). list_any (λ k. k == i.0) l ≡ false) (sym (root_first fuel items)) refl)

  by : (b : Bool) → (p.0 == i.0) ≡ b → (b || is_below items p i) ≡ true → ⊥
  by true q e = apart (eqb-true p.0 i.0 q)
  by false q e = no_way (sym (root (length items)) ∙ e)

-- the root is under no other
not_above : (p : Item) (items : List Item) → (p.id.0 ≡ 1 → ⊥) → is_under items root_id p.id ≡ false
not_above p items below = by (1 == p.id.0) refl where
  by : (b : Bool) → (1 == p.id.0) ≡ b → (b || is_below items root_id p.id) ≡ false
  by true q = absurd (below (sym (eqb-true 1 p.id.0 q)))
  by false q = subst (λ (l : List ℕ). list_any (λ k. k == p.id.0) l ≡ false) (sym (root_first (length items) items)) refl

pub move_entry_at : {On : Entry → Type 0} (Ok : Change → Type 0) (P : State → Type 0) → Skipping On Ok P → ((item parent : ItemId) (name : List ℕ) → Ok (change.Move item parent name)) → (e : Entry) (i p : Item) (s : State) → (i.id.0 ≡ 1 → ⊥) → ((t : State) → P t → IsFair t.link → p.id.0 ≡ i.id.0 → ⊥)
    → ((t : State) → P t → SeatAt p.id t) → ((t : State) → P t → IsFair t.link → IsSeenBy On (items_now t) (seen_entry i.id e)) → IsReady e i p s → P s → Keeps P (move_entry e i p s)
move_entry_at Ok P steps ok e i p s below apart seat told ready h =
    and_then_led P (IsReady e i p) (try_clear_name p.id e.name i.id) (and_then (free_parent i p) (and_then (move_in e i p) (try_seen (seen_entry i.id e)))) s ((try_clear_name_keeps Ok P steps ok p.id e.name i.id).keeps s h) (clear_ready e i p s ready)
    (λ t j a. and_then_led P (λ u. IsReady e i p u × IsFree i p u) (free_parent i p) (and_then (move_in e i p) (try_seen (seen_entry i.id e))) t (parent_freed t j (is_under (items_now t) p.id i.id) refl) (freed_ready t j a (is_under (items_now t) p.id i.id) refl)
    (λ u k b. and_then_led P (λ v. IsFair v.link → KeepsPlaced (with_seen (seen_entry i.id e)) v) (move_in e i p) (try_seen (seen_entry i.id e)) u
    (only_if_at P (not (says (stands_in p e.name) (item_of (items_now u) i.id))) (try_change (change.Move i.id p.id e.name)) u k (λ _. move_at Ok P steps ok i.id p.id e.name u (λ fair. inr (seat u k fair, b.1 fair, inl below)) k))
    (in_ready e i p (not (says (stands_in p e.name) (item_of (items_now u) i.id))) u refl b.0)
    (λ v m c. try_seen_at Ok P steps (seen_entry i.id e) v c (told v m) m))) where
      -- the parent is no root where it is freed
      here : (t : State) → P t → is_under (items_now t) p.id i.id ≡ true → IsFair t.link → (q : Item) × (item_of (items_now t) p.id ≡ Some q)
      here t j under fair = by (seat t j fair) where
        by : IsSeated (items_now t) p.id true → (q : Item) × (item_of (items_now t) p.id ≡ Some q)
        by (inl k) = (k.0, k.1)
        by (inr k) = absurd (under_below (items_now t) p.id i.id (apart t j fair) under k.0)

      to_root : (t : State) → P t → is_under (items_now t) p.id i.id ≡ true → IsFair t.link → Stands t.filter (change.Move p.id root_id (name_in_root (items_now t) p))
      to_root t j under fair = inr (inr (refl, refl), not_above p (items_now t) (under_below (items_now t) p.id i.id (apart t j fair) under), inl (under_below (items_now t) p.id i.id (apart t j fair) under))

      parent_freed : (t : State) → P t → (b : Bool) → is_under (items_now t) p.id i.id ≡ b → Keeps P (only_if b (try_change (change.Move p.id root_id (name_in_root (items_now t) p))) t)
      parent_freed t j true q = move_at Ok P steps ok p.id root_id (name_in_root (items_now t) p) t (to_root t j q) j
      parent_freed t j false q = j

      freed_ready : (t : State) → P t → IsReady e i p t → (b : Bool) → is_under (items_now t) p.id i.id ≡ b
          → Leads Any (λ done u. done ≡ true → IsReady e i p u × IsFree i p u) (only_if b (try_change (change.Move p.id root_id (name_in_root (items_now t) p))) t)
      freed_ready t j a true q =
          leads_weaker Any (λ done u. done ≡ true → Led (change.Move p.id root_id (name_in_root (items_now t) p)) t u) (λ done u. done ≡ true → IsReady e i p u × IsFree i p u) (try_change (change.Move p.id root_id (name_in_root (items_now t) p)) t)
          (λ done u led d. ((λ fair stands. moved_ready e i p p.id root_id (name_in_root (items_now t) p) t u (led d)), freed i p (name_in_root (items_now t) p) t u (led d) (apart t j) (here t j q))) (try_led (change.Move p.id root_id (name_in_root (items_now t) p)) t)
      freed_ready t j a false q = λ d. (a, λ fair. q)
