-- Lists of items of which one is changed, or to which one comes.
use Rattle.std.proofs.Common.{◌≡◌, ◌⊎◌, inl, inr, ℕ, ◌+◌, ◌<◌, Bool, true, false, cond, eqb, List, [], ◌∷◌, ◌++◌, Option, Some, None, refl, sym, ◌∙◌, ap, subst, arith}
use Rattle.std.specs.Prelude.{All}
use Rattle.std.proofs.lemmas.Bool.{cond-false, eqb-true, ne_eqb}
use Rattle.std.proofs.lemmas.List.Elements.{All-head, All-tail}
use Rattle.std.proofs.lemmas.Option.{none-some, same_Some}
use Rattle.cf_base.specs.declared.ids.ItemId.{ItemId}
use Rattle.cf_model.specs.Effects.{changed}
use Rattle.cf_model.specs.Items.{Item, item_of, pin_of}
use Rattle.cf_model.specs.Soundness.{Each}
use Rattle.cf_filter_steps.specs.Good.{Every}
use Rattle.cf_table.specs.Reading.{IsStored}
use Rattle.cf_tree.specs.Trees.{RiseFrom}

-- what is known of the one that is found

pub each_found : (P : Item → Type 0) (id : ItemId) (items : List Item) (i : Item) → Each id P items → item_of items id ≡ Some i → P i
each_found P id [] i h e = absurd (none-some i e)
each_found P id (x ∷ xs) i h e = by (eqb x.id.0 id.0) refl e (each_found P id xs i h.1)
  where
    by : (t : Bool) → eqb x.id.0 id.0 ≡ t → cond t (Some x) (item_of xs id) ≡ Some i → (item_of xs id ≡ Some i → P i) → P i
    by true q f rest = subst P (same_Some x i f) (h.0 q)
    by false q f rest = rest f

pub all_found : (P : Item → Type 0) (id : ItemId) (items : List Item) (i : Item) → All (λ j. j.id.0 ≡ id.0 → P j) items → item_of items id ≡ Some i → P i
all_found P id [] i h e = absurd (none-some i e)
all_found P id (x ∷ xs) i h e = by (eqb x.id.0 id.0) refl e (all_found P id xs i (All-tail (λ (j : Item). j.id.0 ≡ id.0 → P j) x xs h))
  where
    by : (t : Bool) → eqb x.id.0 id.0 ≡ t → cond t (Some x) (item_of xs id) ≡ Some i → (item_of xs id ≡ Some i → P i) → P i
    by true q f rest = subst P (same_Some x i f) (All-head (λ (j : Item). j.id.0 ≡ id.0 → P j) x xs h (eqb-true x.id.0 id.0 q))
    by false q f rest = rest f

-- a property of each

every_other : (P : Item → Type 0) (key : ItemId) (f : Item → Item) (low : ℕ) (items : List Item) → RiseFrom low items → key.0 < low → Every P items → Every P (changed key f items)
every_other P key f low [] rise lt h = h
every_other P key f low (x ∷ xs) rise lt h =
    (subst P (sym (cond-false (eqb x.id.0 key.0) (f x) x (ne_eqb x.id.0 key.0 (λ e. omega (arith, e, lt, rise.0))))) h.0, every_other P key f (x.id.0 + 1) xs rise.1 (omega (arith, lt, rise.0)) h.1)

pub every_changed : (P : Item → Type 0) (key : ItemId) (f : Item → Item) (low : ℕ) (items : List Item) → RiseFrom low items → ((i : Item) → item_of items key ≡ Some i → P i → P (f i)) → Every P items → Every P (changed key f items)
every_changed P key f low [] rise step h = h
every_changed P key f low (x ∷ xs) rise step h = by (eqb x.id.0 key.0) refl step (every_changed P key f (x.id.0 + 1) xs rise.1)
  where
    by : (t : Bool) → eqb x.id.0 key.0 ≡ t → ((i : Item) → cond t (Some x) (item_of xs key) ≡ Some i → P i → P (f i)) → (((i : Item) → item_of xs key ≡ Some i → P i → P (f i)) → Every P xs → Every P (changed key f xs))
        → Every P (cond t (f x) x ∷ changed key f xs)
    by true q g rest = (g x refl h.0, every_other P key f (x.id.0 + 1) xs rise.1 (let e = eqb-true x.id.0 key.0 q in omega (arith, e)) h.1)
    by false q g rest = (h.0, rest g h.1)

pub every_last : (P : Item → Type 0) (items : List Item) (new : Item) → Every P items → P new → Every P (items ++ new ∷ [])
every_last P [] new h last = (last, record {})
every_last P (x ∷ xs) new h last = (h.0, every_last P xs new h.1 last)

pub pin_stored : (items : List Item) (id : ItemId) → Every (λ i. IsStored i.pin) items → IsStored (pin_of items id)
pin_stored [] id h = record {}
pin_stored (x ∷ xs) id h = by (eqb x.id.0 id.0) (pin_stored xs id h.1)
  where
    by : (t : Bool) → IsStored (pin_of xs id) → IsStored (cond t x.pin (pin_of xs id))
    by true rest = h.0
    by false rest = rest

-- what is found afterwards

pub changed_at : (key : ItemId) (f : Item → Item) (items : List Item) (id : ItemId) (j : Item) → ((i : Item) → (f i).id ≡ i.id) → item_of (changed key f items) id ≡ Some j
    → (i : Item) × (item_of items id ≡ Some i) × (j ≡ cond (eqb i.id.0 key.0) (f i) i)
changed_at key f [] id j same e = absurd (none-some j e)
changed_at key f (x ∷ xs) id j same e = by (eqb x.id.0 key.0) (eqb x.id.0 id.0) refl refl e (changed_at key f xs id j same)
  where
    own : (t : Bool) → (cond t (f x) x).id ≡ x.id
    own true = same x
    own false = refl

    by : (t u : Bool) → eqb x.id.0 key.0 ≡ t → eqb x.id.0 id.0 ≡ u → cond (eqb (cond t (f x) x).id.0 id.0) (Some (cond t (f x) x)) (item_of (changed key f xs) id) ≡ Some j
        → (item_of (changed key f xs) id ≡ Some j → (i : Item) × (item_of xs id ≡ Some i) × (j ≡ cond (eqb i.id.0 key.0) (f i) i))
        → (i : Item) × (cond u (Some x) (item_of xs id) ≡ Some i) × (j ≡ cond (eqb i.id.0 key.0) (f i) i)
    by t true p q g rest = (
      x,
      refl,
      sym (same_Some (cond t (f x) x) j (sym (ap (λ (b : Bool). cond b (Some (cond t (f x) x)) (item_of (changed key f xs) id)) (ap (λ (k : ItemId). eqb k.0 id.0) (own t) ∙ q)) ∙ g))
          ∙ ap (λ (b : Bool). cond b (f x) x) (sym p),
    )
    by t false p q g rest = rest (sym (ap (λ (b : Bool). cond b (Some (cond t (f x) x)) (item_of (changed key f xs) id)) (ap (λ (k : ItemId). eqb k.0 id.0) (own t) ∙ q)) ∙ g)

pub last_at : (items : List Item) (new : Item) (id : ItemId) (j : Item) → item_of (items ++ new ∷ []) id ≡ Some j → (item_of items id ≡ Some j) ⊎ ((item_of items id ≡ None) × (new.id.0 ≡ id.0) × (j ≡ new))
last_at [] new id j e = by (eqb new.id.0 id.0) refl e
  where
    by : (t : Bool) → eqb new.id.0 id.0 ≡ t → cond t (Some new) None ≡ Some j → (◌≡◌ {A = Option Item} None (Some j)) ⊎ ((◌≡◌ {A = Option Item} None None) × (new.id.0 ≡ id.0) × (j ≡ new))
    by true q f = inr (refl, eqb-true new.id.0 id.0 q, sym (same_Some new j f))
    by false q f = absurd (none-some j f)
last_at (x ∷ xs) new id j e = by (eqb x.id.0 id.0) e (last_at xs new id j)
  where
    by : (t : Bool) → cond t (Some x) (item_of (xs ++ new ∷ []) id) ≡ Some j → (item_of (xs ++ new ∷ []) id ≡ Some j → (item_of xs id ≡ Some j) ⊎ ((item_of xs id ≡ None) × (new.id.0 ≡ id.0) × (j ≡ new)))
        → (cond t (Some x) (item_of xs id) ≡ Some j) ⊎ ((cond t (Some x) (item_of xs id) ≡ None) × (new.id.0 ≡ id.0) × (j ≡ new))
    by true f rest = inl f
    by false f rest = rest f
