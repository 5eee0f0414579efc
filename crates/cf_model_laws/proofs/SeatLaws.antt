-- Items that are here stay here, and of their kind.
use Rattle.std.proofs.Common.{◌≡◌, Bool, true, false, List, [], ◌∷◌, ◌++◌, refl, sym, ◌∙◌, ap, subst, inl, inr}
use Rattle.std.specs.Prelude.{Some, cond, not, ◌==◌}
use Rattle.std.proofs.lemmas.Bool.{eqb-true}
use Rattle.cf_base.specs.declared.ids.ItemId.{ItemId}
use Rattle.cf_model.specs.Effects.{changed, without}
use Rattle.cf_model.specs.Items.{Item, item_of}
use Rattle.cf_model_laws.specs.Seats.{IsSeated}

-- an item that is found is found again as it was, or changed
pub found_changed : (item : ItemId) (f : Item → Item) → ((i : Item) → (f i).id ≡ i.id) → (items : List Item) (id : ItemId) (i : Item) → item_of items id ≡ Some i
    → item_of (changed item f items) id ≡ Some (cond (i.id.0 == item.0) (f i) i)
found_changed item f same [] id i e = cc
found_changed item f same (j ∷ js) id i e = by (j.id.0 == id.0) refl e (found_changed item f same js id i) where
  at : (b : Bool) → (cond b (f j) j).id ≡ j.id
  at true = same j
  at false = refl

  by : (b : Bool) → (j.id.0 == id.0) ≡ b → cond b (Some j) (item_of js id) ≡ Some i → (item_of js id ≡ Some i → item_of (changed item f js) id ≡ Some (cond (i.id.0 == item.0) (f i) i))
      → item_of (cond (j.id.0 == item.0) (f j) j ∷ changed item f js) id ≡ Some (cond (i.id.0 == item.0) (f i) i)
  by true q e g =
      let z : j ≡ i = cc in
      subst (λ (x : Item). item_of (cond (j.id.0 == item.0) (f j) j ∷ changed item f js) id ≡ Some (cond (x.id.0 == item.0) (f x) x)) z
      (subst (λ (b : Bool). cond b (Some (cond (j.id.0 == item.0) (f j) j)) (item_of (changed item f js) id) ≡ Some (cond (j.id.0 == item.0) (f j) j)) (sym (ap (λ (x : ItemId). x.0 == id.0) (at (j.id.0 == item.0)) ∙ q)) refl)
  by false q e g =
      subst (λ (b : Bool). cond b (Some (cond (j.id.0 == item.0) (f j) j)) (item_of (changed item f js) id) ≡ Some (cond (i.id.0 == item.0) (f i) i)) (sym (ap (λ (x : ItemId). x.0 == id.0) (at (j.id.0 == item.0)) ∙ q)) (g e)

pub found_more : (items more : List Item) (id : ItemId) (i : Item) → item_of items id ≡ Some i → item_of (items ++ more) id ≡ Some i
found_more [] more id i e = cc
found_more (j ∷ js) more id i e = by (j.id.0 == id.0) e (found_more js more id i) where
  by : (b : Bool) → cond b (Some j) (item_of js id) ≡ Some i → (item_of js id ≡ Some i → item_of (js ++ more) id ≡ Some i) → cond b (Some j) (item_of (js ++ more) id) ≡ Some i
  by true e g = e
  by false e g = g e

pub found_less : (item : ItemId) (items : List Item) (id : ItemId) (i : Item) → (id.0 ≡ item.0 → ⊥) → item_of items id ≡ Some i → item_of (without item items) id ≡ Some i
found_less item [] id i apart e = cc
found_less item (j ∷ js) id i apart e = by (j.id.0 == item.0) (j.id.0 == id.0) refl refl e (found_less item js id i apart) where
  by : (a b : Bool) → (j.id.0 == item.0) ≡ a → (j.id.0 == id.0) ≡ b → cond b (Some j) (item_of js id) ≡ Some i → (item_of js id ≡ Some i → item_of (without item js) id ≡ Some i)
      → item_of (cond (not a) (j ∷ without item js) (without item js)) id ≡ Some i
  by true true p q e g = absurd (apart (sym (eqb-true j.id.0 id.0 q) ∙ eqb-true j.id.0 item.0 p))
  by true false p q e g = g e
  by false true p q e g = rw q e
  by false false p q e g = rw q (g e)

pub seated_changed : (item : ItemId) (f : Item → Item) → ((i : Item) → (f i).id ≡ i.id) → ((i : Item) → (f i).directory ≡ i.directory) → (items : List Item) (id : ItemId) (d : Bool) → IsSeated items id d → IsSeated (changed item f items) id d
seated_changed item f same kind items id d (inl h) = inl (cond (h.0.id.0 == item.0) (f h.0) h.0, found_changed item f same items id h.0 h.1, by (h.0.id.0 == item.0) ∙ h.2) where
  by : (b : Bool) → (cond b (f h.0) h.0).directory ≡ h.0.directory
  by true = kind h.0
  by false = refl
seated_changed item f same kind items id d (inr h) = inr h

pub seated_more : (items more : List Item) (id : ItemId) (d : Bool) → IsSeated items id d → IsSeated (items ++ more) id d
seated_more items more id d (inl h) = inl (h.0, found_more items more id h.0 h.1, h.2)
seated_more items more id d (inr h) = inr h

pub seated_less : (item : ItemId) (items : List Item) (id : ItemId) (d : Bool) → (id.0 ≡ item.0 → ⊥) → IsSeated items id d → IsSeated (without item items) id d
seated_less item items id d apart (inl h) = inl (h.0, found_less item items id h.0 apart h.1, h.2)
seated_less item items id d apart (inr h) = inr h
