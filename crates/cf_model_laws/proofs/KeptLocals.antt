-- The byte of a local write is kept over any changes that spare it.
use Rattle.std.proofs.Common.{◌≡◌, ◌<◌, ℕ, Bool, true, false, List, [], ◌∷◌, ◌++◌, refl, sym, ◌∙◌, ap, subst, arith, eq-eqb}
use Rattle.std.specs.Prelude.{Option, Some, None, cond, ◌||◌, ◌==◌}
use Rattle.std.specs.List.{list_any}
use Rattle.std.proofs.lemmas.Bool.{eqb-true}
use Rattle.std.proofs.lemmas.List.{append-nil}
use Rattle.cf_base.specs.declared.changes.Change.{Change}
use Rattle.cf_base.specs.declared.changes.Change.TheVariants as change
use Rattle.cf_base.specs.declared.ids.ItemId.{ItemId}
use Rattle.cf_base.specs.declared.ids.Usn.{Usn}
use Rattle.cf_model.specs.Effects.{changed, converted, copied, copies, effect, got, kept, left_out, made, marked, moved, pinned, populated, rebased, sized, took, unmarked, validated_in, without, wrote}
use Rattle.cf_model.specs.Items.{Item, item_of, pin_of}
use Rattle.cf_model.specs.Kept.{has_id, lists, lists_at, takes_away, with_copy}
use Rattle.cf_model.specs.Logs.{items_of, next_of}
use Rattle.cf_model.specs.Numbers.{above}
use Rattle.cf_model.specs.Soundness.{Each}
use Rattle.cf_model.specs.Store.{Held}
use Rattle.cf_model.specs.Words.{when}
use Rattle.cf_model.proofs.GivenLaws.{others_changed, others_left}
use Rattle.cf_model_laws.specs.History.{HasMet, IsConvertible, IsRebasable}
use Rattle.cf_model_laws.specs.Invariant.{All}
use Rattle.cf_model_laws.proofs.Gathered.{all_both, all_weaker}
use Rattle.cf_model_laws.proofs.HeldLocals.{lists_more}
use Rattle.cf_model_laws.proofs.LocalSteps.{HoldsAt, HoldsIn, Passes, at_other, clean_passes, converted_passes, copied_holds, found_first, found_second, got_passes, left_passes, none_left, passes_holds, plain_passes, rebased_passes, sized_passes, wrote_passes}
use Rattle.cf_model_laws.proofs.RightItems.{no_way}
use Rattle.cf_model_laws.proofs.SoundSettles.{same_item}

-- members

pub all_at : (P : ItemId → Type 0) (ids : List ItemId) (h : ItemId) → has_id ids h ≡ true → All P ids → P h
all_at P [] h e k = no_way e
all_at P (i ∷ is) h e k = by (i.0 == h.0) refl e (λ z. all_at P is h z k.1) where
  by : (c : Bool) → (i.0 == h.0) ≡ c → (c || has_id is h) ≡ true → (has_id is h ≡ true → P h) → P h
  by true q e g = subst P (same_item i h (eqb-true i.0 h.0 q)) k.0
  by false q e g = g e

pub any_at : (f : ItemId → Bool) (ids : List ItemId) (h : ItemId) → has_id ids h ≡ true → f h ≡ true → list_any f ids ≡ true
any_at f [] h e k = no_way e
any_at f (i ∷ is) h e k = by (i.0 == h.0) refl e (λ z. any_at f is h z k) where
  one : (c : Bool) → c ≡ true → (c || list_any f is) ≡ true
  one true z = refl
  one false z = no_way z

  other : (c : Bool) → list_any f is ≡ true → (c || list_any f is) ≡ true
  other true z = refl
  other false z = z

  by : (c : Bool) → (i.0 == h.0) ≡ c → (c || has_id is h) ≡ true → (has_id is h ≡ true → list_any f is ≡ true) → list_any f (i ∷ is) ≡ true
  by true q e g = one (f i) (subst (λ (x : ItemId). f x ≡ true) (sym (same_item i h (eqb-true i.0 h.0 q))) k)
  by false q e g = other (f i) (g e)

pub any_after : {A : Type 0} (f : A → Bool) (xs ys : List A) → list_any f ys ≡ true → list_any f (xs ++ ys) ≡ true
any_after f [] ys e = e
any_after f (x ∷ xs) ys e = by (f x) (any_after f xs ys e) where
  by : (c : Bool) → list_any f (xs ++ ys) ≡ true → (c || list_any f (xs ++ ys)) ≡ true
  by true k = refl
  by false k = k

module _ (r : Held) (n : Usn) (p b : ℕ) where
  abbrev pub Sparing : List Item → Change → ItemId → Type 0
  Sparing items c h = lists_at items h n ≡ true → takes_away items h p c ≡ false

  -- each item that lists the write holds the byte

  by_passing : (items : List Item) (item : ItemId) (f : Item → Item) → Passes r n p b items item f → (ids : List ItemId) → All (HoldsAt r n p b items) ids → All (HoldsAt r n p b (changed item f items)) ids
  by_passing items item f pass ids h = all_weaker (HoldsAt r n p b items) (HoldsAt r n p b (changed item f items)) (passes_holds r n p b items item f pass) ids h

  by_sparing : (items : List Item) (c : Change) (item : ItemId) (f : Item → Item) → ((i : Item) → (f i).id ≡ i.id) → (Sparing items c item → Passes r n p b items item f) → (ids : List ItemId) → All (HoldsAt r n p b items) ids → All (Sparing items c) ids
      → All (HoldsAt r n p b (changed item f items)) ids
  by_sparing items c item f keeps pass ids h k = all_both (HoldsAt r n p b items) (Sparing items c) (HoldsAt r n p b (changed item f items)) (λ i old spares. by i old spares (item.0 == i.0) refl) ids h k where
    by : (h : ItemId) → HoldsAt r n p b items h → Sparing items c h → (d : Bool) → (item.0 == h.0) ≡ d → HoldsAt r n p b (changed item f items) h
    by h old spares true q = passes_holds r n p b items item f (pass (subst (Sparing items c) (at_other r n p b item h q) spares)) h old
    by h old spares false q = λ i found listed. old i (sym (others_changed f item h items keeps q) ∙ found) listed

  by_removal : (items : List Item) (item : ItemId) (ids : List ItemId) → All (HoldsAt r n p b items) ids → All (HoldsAt r n p b (without item items)) ids
  by_removal items item ids h = all_weaker (HoldsAt r n p b items) (HoldsAt r n p b (without item items)) (λ i old. by i old (item.0 == i.0) refl) ids h where
    by : (h : ItemId) → HoldsAt r n p b items h → (d : Bool) → (item.0 == h.0) ≡ d → HoldsAt r n p b (without item items) h
    by h old true q i found listed =
        let z : ◌≡◌ {A = Option Item} None (Some i) = sym (subst (λ (x : ItemId). item_of (without x items) h ≡ None) (at_other r n p b item h q) (none_left h items)) ∙ found in cc
    by h old false q i found listed = old i (sym (others_left item h items q) ∙ found) listed

  -- an item at the end that is none of these
  not_new : (new : ItemId) (next : ℕ) (h : ItemId) → new.0 ≡ next → h.0 < next → (new.0 == h.0) ≡ false
  not_new new next h e k = by (new.0 == h.0) refl where
    by : (c : Bool) → (new.0 == h.0) ≡ c → c ≡ false
    by true q = let z : new.0 ≡ h.0 = eqb-true new.0 h.0 q in absurd (omega (arith, z, e, k))
    by false q = refl

  added_holds : (items : List Item) (x : Item) (h : ItemId) → (x.id.0 == h.0) ≡ false → HoldsAt r n p b items h → HoldsAt r n p b (items ++ x ∷ []) h
  added_holds items x h apart old i found listed = by (item_of items h) refl where
    by : (o : Option Item) → item_of items h ≡ o → HoldsIn r n p b i
    by None e = let z : ◌≡◌ {A = Option Item} None (Some i) = sym (found_second items (x ∷ []) h e ∙ ap (λ (c : Bool). cond c (Some x) None) apart) ∙ found in cc
    by (Some j) e = old i (e ∙ sym (found_first items (x ∷ []) h j e) ∙ found) listed

  pub held_step : (items : List Item) (ids : List ItemId) (front : List (Usn × Change)) (m : Usn) (c : Change) → items_of front ≡ items → above m n ≡ true → HasMet r front m c → All (λ h. h.0 < next_of front) ids
      → All (HoldsAt r n p b items) ids → All (Sparing items c) ids → All (HoldsAt r n p b (effect items c m)) (with_copy c ids)
  held_step items ids front m (change.Make item parent name k size identity) is a met below h spares =
      all_both (HoldsAt r n p b items) (λ h. h.0 < next_of front) (HoldsAt r n p b (items ++ made item parent name k size identity (pin_of items parent) m ∷ []))
      (λ i old low. added_holds items (made item parent name k size identity (pin_of items parent) m) i (not_new item (next_of front) i met low) old) ids h below
  held_step items ids front m (change.Remove item) is a met below h spares = by_removal items item ids h
  held_step items ids front m (change.Move item parent name) is a met below h spares = by_passing items item (moved parent name (pin_of items parent) m) (plain_passes r n p b items item _ (λ i. refl) (λ i. refl) (λ i e k g. g)) ids h
  held_step items ids front m (change.Write item at bytes) is a met below h spares = by_sparing items (change.Write item at bytes) item (wrote at bytes m) (λ i. refl) (λ s. wrote_passes r n p b items item at bytes m a s) ids h spares
  held_step items ids front m (change.Size item size) is a met below h spares = by_sparing items (change.Size item size) item (sized size m) (λ i. refl) (λ s. sized_passes r n p b items item size m a s) ids h spares
  held_step items ids front m (change.Filled item start bytes) is a met below h spares = by_passing items item (got start bytes) (got_passes r n p b items item start bytes) ids h
  held_step items ids front m (change.Validated item start len) is a met below h spares = by_passing items item (validated_in start len) (plain_passes r n p b items item _ (λ i. refl) (λ i. refl) (λ i e k g. g)) ids h
  held_step items ids front m (change.Emptied item start len) is a met below h spares = by_passing items item (left_out start len) (left_passes r n p b items item start len) ids h
  held_step items ids front m (change.SetPin item pin) is a met below h spares = by_passing items item (pinned pin) (plain_passes r n p b items item _ (λ i. refl) (λ i. refl) (λ i e k g. g)) ids h
  held_step items ids front m (change.Mark item number) is a met below h spares = by_passing items item marked (clean_passes r n p b items item marked (λ i. refl) (λ i. refl)) ids h
  held_step items ids front m (change.Clear item) is a met below h spares = by_passing items item unmarked (plain_passes r n p b items item _ (λ i. refl) (λ i. refl) (λ i e k g. g)) ids h
  held_step items ids front m (change.Convert item identity) is a met below h spares = by_passing items item (converted identity m) (converted_passes r n p b items item identity m (subst (λ (is : List Item). Each item (IsConvertible r identity) is) is met)) ids h
  held_step items ids front m (change.Revert item) is a met below h spares = elim met as (λ _. All (HoldsAt r n p b (effect items (change.Revert item) m)) ids) [ ]
  held_step items ids front m (change.Rebase item identity len at) is a met below h spares = by_passing items item (rebased identity len at) (rebased_passes r n p b items item identity len at (subst (λ (is : List Item). Each item (IsRebasable r identity len at) is) is met)) ids h
  held_step items ids front m (change.Take item identity size) is a met below h spares = by_passing items item (took identity size m) (clean_passes r n p b items item (took identity size m) (λ i. refl) (λ i. refl)) ids h
  held_step items ids front m (change.Copy item from parent name) is a met below h spares = by (item_of items from) refl (has_id ids from) refl where
    none : item_of items item ≡ None
    none = subst (λ (is : List Item). item_of is item ≡ None) is met.1

    old : (o : Option Item) → item_of items from ≡ o → All (HoldsAt r n p b (items ++ copies item parent name (pin_of items parent) m o)) ids
    old None e = subst (λ (is : List Item). All (HoldsAt r n p b is) ids) (sym (append-nil items)) h
    old (Some i) e =
        all_both (HoldsAt r n p b items) (λ h. h.0 < next_of front) (HoldsAt r n p b (items ++ copied item parent name (pin_of items parent) m i ∷ []))
        (λ k was low. added_holds items (copied item parent name (pin_of items parent) m i) k (not_new item (next_of front) k met.0 low) was) ids h below

    new : (o : Option Item) → item_of items from ≡ o → has_id ids from ≡ true → HoldsAt r n p b (items ++ copies item parent name (pin_of items parent) m o) item
    new None e among i found listed = let z : ◌≡◌ {A = Option Item} None (Some i) = sym (found_second items [] item none) ∙ found in cc
    new (Some j) e among i found listed =
        let x : Item = copied item parent name (pin_of items parent) m j in
        let z : x ≡ i = the_same x i (sym (found_second items (x ∷ []) item none ∙ ap (λ (c : Bool). cond c (Some x) None) (eq-eqb item.0 item.0 refl)) ∙ found) in
        subst (HoldsIn r n p b) z
        (copied_holds r n p b item parent name (pin_of items parent) m j a (all_at (HoldsAt r n p b items) ids from among h j e (lists_more n j.writes _ a (subst (λ (y : Item). lists n y.writes ≡ true) (sym z) listed)))) where
          the_same : (x y : Item) → ◌≡◌ {A = Option Item} (Some x) (Some y) → x ≡ y
          the_same x y e = cc

    by : (o : Option Item) → item_of items from ≡ o → (c : Bool) → has_id ids from ≡ c → All (HoldsAt r n p b (items ++ copies item parent name (pin_of items parent) m o)) (when c (item ∷ []) ++ ids)
    by o e true q = (new o e q, old o e)
    by o e false q = old o e
  held_step items ids front m (change.Populated item) is a met below h spares = by_passing items item populated (plain_passes r n p b items item _ (λ i. refl) (λ i. refl) (λ i e k g. g)) ids h
  held_step items ids front m (change.Keep item on) is a met below h spares = by_passing items item (kept on) (plain_passes r n p b items item _ (λ i. refl) (λ i. refl) (λ i e k g. g)) ids h
