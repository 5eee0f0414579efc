-- A list of items of which each comes after its parent inherits one state.
use Rattle.std.proofs.Common.{◌≡◌, ℕ, ◌+◌, ◌≤◌, Bool, true, false, cond, not, List, [], ◌∷◌, ◌++◌, refl, sym, ap, ◌∙◌, arith, eqb, ltb, Some, inl, inr}
use Rattle.std.specs.Prelude.{is_some, ◌&&◌, ◌||◌}
use Rattle.std.specs.List.{list_any}
use Rattle.std.proofs.lemmas.Bool.{eq-eqb, eqb-true, le-ltb, or_cases, or_from, and_right}
use Rattle.cf_base.specs.declared.changes.Change.{Change}
use Rattle.cf_base.specs.declared.changes.Change.TheVariants as change
use Rattle.cf_base.specs.declared.ids.ItemId.{ItemId}
use Rattle.cf_base.specs.declared.items.Pin.{Pin}
use Rattle.cf_base.specs.declared.items.Pin.TheVariants as pin
use Rattle.cf_model.specs.Effects.{changed, pinned}
use Rattle.cf_model.specs.Items.{Item, item_of, pin_of}
use Rattle.cf_model.specs.Plans.{pin_changes, same_pin, stored_pin}
use Rattle.cf_model.specs.Words.{when}
use Rattle.cf_tree.proofs.Stable.{Rises}
use Rattle.cf_tree.proofs.Walks.{same_item_id}
use Rattle.cf_tree.proofs.Elements.{Each, each_also}

-- one state for all
abbrev pub settled : Pin → List Item → List Change
settled state [] = []
settled state (i ∷ is) = when (not (same_pin state i.pin)) (change.SetPin i.id state ∷ []) ++ settled state is

pub given_state : (asked state : Pin) → ((items : List Item) (i : Item) → stored_pin asked items i ≡ state) → (items list : List Item) → pin_changes asked items list ≡ settled state list
given_state asked state h items [] = refl
given_state asked state h items (i ∷ is) =
    (λ k. when (not (same_pin (h items i k) i.pin)) (change.SetPin i.id (h items i k) ∷ []) ++ pin_changes asked (changed i.id (pinned (h items i k)) items) is)
    ∙ ap (λ l. when (not (same_pin state i.pin)) (change.SetPin i.id state ∷ []) ++ l) (given_state asked state h (changed i.id (pinned state) items) is)

-- at its turn each has a parent of that state
abbrev Ready : Pin → List Item → List Item → Type 0
Ready state items [] = Unit {0}
Ready state items (i ∷ is) = (pin_of items i.parent ≡ state) × Ready state (changed i.id (pinned state) items) is

inherited_state : (state : Pin) (items list : List Item) → Ready state items list → pin_changes pin.Inherit items list ≡ settled state list
inherited_state state items [] r = refl
inherited_state state items (i ∷ is) r =
    (λ k. when (not (same_pin (r.0 k) i.pin)) (change.SetPin i.id (r.0 k) ∷ []) ++ pin_changes pin.Inherit (changed i.id (pinned (r.0 k)) items) is)
    ∙ ap (λ l. when (not (same_pin state i.pin)) (change.SetPin i.id state ∷ []) ++ l) (inherited_state state (changed i.id (pinned state) items) is r.1)

-- a state that is set stays

pub stays_set : (state : Pin) (items : List Item) (key id : ItemId) → pin_of items id ≡ state → pin_of (changed key (pinned state) items) id ≡ state
stays_set state [] key id e = e
stays_set state (x ∷ xs) key id e = four (eqb x.id.0 key.0) (eqb x.id.0 id.0) refl e (λ k. stays_set state xs key id k) where
  four : (b c : Bool) → eqb x.id.0 id.0 ≡ c → cond c x.pin (pin_of xs id) ≡ state → (pin_of xs id ≡ state → pin_of (changed key (pinned state) xs) id ≡ state) →
      cond (eqb (cond b (pinned state x) x).id.0 id.0) (cond b (pinned state x) x).pin (pin_of (changed key (pinned state) xs) id) ≡ state
  four true true h k rest = ap (λ v. cond v state (pin_of (changed key (pinned state) xs) id)) h
  four true false h k rest = ap (λ v. cond v state (pin_of (changed key (pinned state) xs) id)) h ∙ rest k
  four false true h k rest = ap (λ v. cond v x.pin (pin_of (changed key (pinned state) xs) id)) h ∙ k
  four false false h k rest = ap (λ v. cond v x.pin (pin_of (changed key (pinned state) xs) id)) h ∙ rest k

gets_set : (state : Pin) (items : List Item) (key : ItemId) → is_some (item_of items key) ≡ true → pin_of (changed key (pinned state) items) key ≡ state
gets_set state [] key there = let z : false ≡ true = there in absurd cc
gets_set state (x ∷ xs) key there = two (eqb x.id.0 key.0) refl there (λ k. gets_set state xs key k) where
  two : (b : Bool) → eqb x.id.0 key.0 ≡ b → is_some (cond b (Some x) (item_of xs key)) ≡ true → (is_some (item_of xs key) ≡ true → pin_of (changed key (pinned state) xs) key ≡ state) →
      cond (eqb (cond b (pinned state x) x).id.0 key.0) (cond b (pinned state x) x).pin (pin_of (changed key (pinned state) xs) key) ≡ state
  two true h k rest = ap (λ v. cond v state (pin_of (changed key (pinned state) xs) key)) h
  two false h k rest = ap (λ v. cond v x.pin (pin_of (changed key (pinned state) xs) key)) h ∙ rest k

stays_there : (state : Pin) (items : List Item) (key id : ItemId) → is_some (item_of items id) ≡ true → is_some (item_of (changed key (pinned state) items) id) ≡ true
stays_there state [] key id there = there
stays_there state (x ∷ xs) key id there = four (eqb x.id.0 key.0) (eqb x.id.0 id.0) refl there (λ k. stays_there state xs key id k) where
  four : (b c : Bool) → eqb x.id.0 id.0 ≡ c → is_some (cond c (Some x) (item_of xs id)) ≡ true → (is_some (item_of xs id) ≡ true → is_some (item_of (changed key (pinned state) xs) id) ≡ true) →
      is_some (cond (eqb (cond b (pinned state x) x).id.0 id.0) (Some (cond b (pinned state x) x)) (item_of (changed key (pinned state) xs) id)) ≡ true
  four true true h k rest = ap (λ v. is_some (cond v (Some (pinned state x)) (item_of (changed key (pinned state) xs) id))) h
  four true false h k rest = ap (λ v. is_some (cond v (Some (pinned state x)) (item_of (changed key (pinned state) xs) id))) h ∙ rest k
  four false true h k rest = ap (λ v. is_some (cond v (Some x) (item_of (changed key (pinned state) xs) id))) h
  four false false h k rest = ap (λ v. is_some (cond v (Some x) (item_of (changed key (pinned state) xs) id))) h ∙ rest k

-- each parent is known, or comes before

abbrev Led : List ℕ → List Item → Type 0
Led known [] = Unit {0}
Led known (i ∷ is) = (list_any (eqb i.parent.0) known ≡ true) × Led (i.id.0 ∷ known) is

abbrev AllSet : Pin → List Item → List ℕ → Type 0
AllSet state items known = (id : ItemId) → list_any (eqb id.0) known ≡ true → pin_of items id ≡ state

ready : (state : Pin) (known : List ℕ) (items list : List Item) → AllSet state items known → Each (λ i. is_some (item_of items i.id) ≡ true) list → Led known list → Ready state items list
ready state known items [] set there led = tt
ready state known items (i ∷ is) set there led = (
  set i.parent led.0,
  ready state (i.id.0 ∷ known) (changed i.id (pinned state) items) is
      (λ id any. elim (or_cases (eqb id.0 i.id.0) (list_any (eqb id.0) known) any) [
        | inl hit ↦ ap (pin_of (changed i.id (pinned state) items)) (same_item_id id i.id (eqb-true id.0 i.id.0 hit)) ∙ gets_set state items i.id there.0
        | inr more ↦ stays_set state items i.id id (set id more)
      ])
      (each_also (λ j. is_some (item_of items j.id) ≡ true) (λ j. is_some (item_of (changed i.id (pinned state) items) j.id) ≡ true) (λ j e. stays_there state items i.id j.id e) is there.1)
      led.1,
)

-- lists by a key: the parent is known, or one of the list with a lower key

abbrev pub lower_parent : (Item → ℕ) → Item → Item → Bool
lower_parent key i k = eqb k.id.0 i.parent.0 && ltb (key k) (key i)

abbrev pub IsCovered : (Item → ℕ) → List ℕ → List Item → Item → Type 0
IsCovered key known list i = (list_any (eqb i.parent.0) known || list_any (lower_parent key i) list) ≡ true

none_lower : (key : Item → ℕ) (i : Item) (low : ℕ) (list : List Item) → Rises key low list → key i ≤ low → list_any (lower_parent key i) list ≡ false
none_lower key i low [] r le = refl
none_lower key i low (k ∷ ks) r le =
    or_from _ _ (and_right (eqb k.id.0 i.parent.0) (ltb (key k) (key i)) (le-ltb (key k) (key i) (omega (arith, r.0)))) (none_lower key i (key k) ks r.1 (omega (arith, r.0)))

led_by : (key : Item → ℕ) (known : List ℕ) (low : ℕ) (list : List Item) → Rises key low list → Each (IsCovered key known list) list → Led known list
led_by key known low [] r e = tt
led_by key known low (i ∷ is) r e = (
  first (list_any (eqb i.parent.0) known) (list_any (lower_parent key i) (i ∷ is)) e.0 (none_lower key i (key i) (i ∷ is) (omega arith, r.1) (omega arith)),
  led_by key (i.id.0 ∷ known) (key i) is r.1
      (each_also (IsCovered key known (i ∷ is)) (IsCovered key (i.id.0 ∷ known) is)
      (λ k c. moved (list_any (eqb k.parent.0) known) (eqb i.id.0 k.parent.0) (eqb k.parent.0 i.id.0) (ltb (key i) (key k)) (list_any (lower_parent key k) is) (λ h. eq-eqb k.parent.0 i.id.0 (sym (eqb-true i.id.0 k.parent.0 h))) c) is e.1),
) where
  first : (a b : Bool) → (a || b) ≡ true → b ≡ false → a ≡ true
  first true b e n = refl
  first false true e n = let z : true ≡ false = n in absurd cc
  first false false e n = e

  moved : (a h g l c : Bool) → (h ≡ true → g ≡ true) → (a || ((h && l) || c)) ≡ true → ((g || a) || c) ≡ true
  moved a h true l c turn e = refl
  moved true h false l c turn e = refl
  moved false true false l c turn e = let z : false ≡ true = turn refl in absurd cc
  moved false false false l c turn e = e

pub inherits_one : (key : Item → ℕ) (state : Pin) (known : List ℕ) (items list : List Item) → AllSet state items known → Each (λ i. is_some (item_of items i.id) ≡ true) list → Rises key 0 list → Each (IsCovered key known list) list →
    pin_changes pin.Inherit items list ≡ settled state list
inherits_one key state known items list set there r covered = inherited_state state items list (ready state known items list set there (led_by key known 0 list r covered))
