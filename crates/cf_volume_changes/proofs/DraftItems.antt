-- Items found in a list after a change, and sums over it.
use Rattle.std.proofs.Common.{◌≡◌, ℕ, ◌+◌, ◌<◌, ◌≤◌, ◌==◌, Bool, true, false, not, cond, eqb, List, [], ◌∷◌, ◌++◌, length, refl, sym, ◌∙◌, ap, subst, arith, Option, Some, None}
use Rattle.std.specs.Prelude.{All, option_map, sum_by}
use Rattle.std.proofs.lemmas.Bool.{cond-true, cond-false, eq-eqb, eqb-true, ne_eqb, true≢false}
use Rattle.std.proofs.lemmas.List.Elements.{All-head, All-tail}
use Rattle.std.proofs.lemmas.List.Sums.{sum_by-cons}
use Rattle.std.proofs.lemmas.Option.{none-some, same_Some}
use Rattle.cf_base.specs.declared.changes.Change.{Change}
use Rattle.cf_base.specs.declared.changes.Change.TheVariants as change
use Rattle.cf_base.specs.declared.ids.ItemId.{ItemId}
use Rattle.cf_base.specs.declared.ids.Usn.{Usn}
use Rattle.cf_base.specs.declared.items.Pin.{Pin}
use Rattle.cf_base.specs.declared.items.Pin.TheVariants as pin
use Rattle.cf_model.specs.Books.{Book}
use Rattle.cf_model.specs.Effects.{changed, effect, without}
use Rattle.cf_model.specs.Items.{Item, item_of, pin_of}
use Rattle.cf_volume_points.proofs.Found.{found_left}
use Rattle.cf_volume_points.proofs.RowRoom.{ItemsRise}
use Rattle.cf_volume_points.specs.Known.{or_now}
use Rattle.cf_table.specs.Applied.{item_effect}
use Rattle.cf_table.specs.Changing.{FitsItems, item_of_change, stays}
use Rattle.cf_volume_changes.specs.Drafts.{AreInOrder}
use Rattle.cf_volume_changes.specs.RoomLeft.{FitsAmong}

-- look-ups

pub item_changed : (id key : ItemId) (f : Item → Item) (items : List Item) → ((i : Item) → (f i).id ≡ i.id) → item_of (changed id f items) key ≡ cond (eqb id.0 key.0) (option_map f (item_of items key)) (item_of items key)
item_changed id key f [] same = by (eqb id.0 key.0)
  where
    by : (t : Bool) → ◌≡◌ {A = Option Item} None (cond t None None)
    by true = refl
    by false = refl
item_changed id key f (i ∷ is) same = by (eqb i.id.0 id.0) refl (eqb i.id.0 key.0) refl (eqb id.0 key.0) refl (item_changed id key f is same)
  where
    by : (t : Bool) → eqb i.id.0 id.0 ≡ t → (u : Bool) → eqb i.id.0 key.0 ≡ u → (x : Bool) → eqb id.0 key.0 ≡ x → item_of (changed id f is) key ≡ cond x (option_map f (item_of is key)) (item_of is key)
        → item_of (cond t (f i) i ∷ changed id f is) key ≡ cond x (option_map f (cond u (Some i) (item_of is key))) (cond u (Some i) (item_of is key))
    by true e true g true h rest = cond-true (eqb (f i).id.0 key.0) (Some (f i)) (item_of (changed id f is) key) (ap (λ (n : ItemId). eqb n.0 key.0) (same i) ∙ g)
    by true e true g false h rest = absurd (true≢false (sym (eq-eqb id.0 key.0 (sym (eqb-true i.id.0 id.0 e) ∙ eqb-true i.id.0 key.0 g)) ∙ h))
    by true e false g true h rest = absurd (true≢false (sym (eq-eqb i.id.0 key.0 (eqb-true i.id.0 id.0 e ∙ eqb-true id.0 key.0 h)) ∙ g))
    by true e false g false h rest = cond-false (eqb (f i).id.0 key.0) (Some (f i)) (item_of (changed id f is) key) (ap (λ (n : ItemId). eqb n.0 key.0) (same i) ∙ g) ∙ rest
    by false e true g true h rest = absurd (true≢false (sym (eq-eqb i.id.0 id.0 (eqb-true i.id.0 key.0 g ∙ sym (eqb-true id.0 key.0 h))) ∙ e))
    by false e true g false h rest = cond-true (eqb i.id.0 key.0) (Some i) (item_of (changed id f is) key) g
    by false e false g x h rest = cond-false (eqb i.id.0 key.0) (Some i) (item_of (changed id f is) key) g ∙ rest

turned : (a b : ℕ) → eqb a b ≡ eqb b a
turned a b = by (eqb a b) refl (eqb b a) refl
  where
    by : (t : Bool) → eqb a b ≡ t → (u : Bool) → eqb b a ≡ u → t ≡ u
    by true e true f = refl
    by true e false f = absurd (true≢false (sym (eq-eqb b a (sym (eqb-true a b e))) ∙ f))
    by false e true f = absurd (true≢false (sym (eq-eqb a b (sym (eqb-true b a f))) ∙ e))
    by false e false f = refl

pub item_without : (id key : ItemId) (items : List Item) → item_of (without id items) key ≡ cond (eqb id.0 key.0) None (item_of items key)
item_without id key items = found_left (λ (i : Item). i.id.0 == key.0) (λ (i : Item). i.id.0 == id.0) (eqb id.0 key.0) items (λ x h. ap (λ (n : ℕ). eqb n id.0) (eqb-true x.id.0 key.0 h) ∙ turned key.0 id.0)

pub item_last : (items : List Item) (i : Item) (key : ItemId) → item_of (items ++ i ∷ []) key ≡ or_now (item_of items key) (cond (eqb i.id.0 key.0) (Some i) None)
item_last [] i key = refl
item_last (j ∷ js) i key = by (eqb j.id.0 key.0) (item_last js i key)
  where
    by : (t : Bool) → item_of (js ++ i ∷ []) key ≡ or_now (item_of js key) (cond (eqb i.id.0 key.0) (Some i) None)
        → cond t (Some j) (item_of (js ++ i ∷ []) key) ≡ or_now (cond t (Some j) (item_of js key)) (cond (eqb i.id.0 key.0) (Some i) None)
    by true rest = refl
    by false rest = rest

pub item_id : (items : List Item) (id : ItemId) (i : Item) → item_of items id ≡ Some i → i.id.0 ≡ id.0
item_id [] id i e = absurd (none-some i e)
item_id (x ∷ xs) id i e = by (eqb x.id.0 id.0) refl e (item_id xs id i)
  where
    by : (t : Bool) → eqb x.id.0 id.0 ≡ t → cond t (Some x) (item_of xs id) ≡ Some i → (item_of xs id ≡ Some i → i.id.0 ≡ id.0) → i.id.0 ≡ id.0
    by true h s rest = subst (λ (y : Item). y.id.0 ≡ id.0) (same_Some x i s) (eqb-true x.id.0 id.0 h)
    by false h s rest = rest s

-- no item has an id above all
pub none_new : (id : ItemId) (items : List Item) → All (λ i. i.id.0 < id.0) items → item_of items id ≡ None
none_new id [] all = refl
none_new id (i ∷ is) all =
    let low = All-head (λ (x : Item). x.id.0 < id.0) i is all in
    cond-false (eqb i.id.0 id.0) (Some i) (item_of is id) (ne_eqb i.id.0 id.0 (λ e. omega (arith, low, e))) ∙ none_new id is (All-tail (λ (x : Item). x.id.0 < id.0) i is all)

-- what holds of all holds of the one that is found
pub item_holds : (P : Item → Type 0) (items : List Item) (id : ItemId) (i : Item) → All P items → item_of items id ≡ Some i → P i
item_holds P [] id i all e = absurd (none-some i e)
item_holds P (x ∷ xs) id i all e = by (eqb x.id.0 id.0) e (item_holds P xs id i (All-tail P x xs all))
  where
    by : (t : Bool) → cond t (Some x) (item_of xs id) ≡ Some i → (item_of xs id ≡ Some i → P i) → P i
    by true s rest = subst P (same_Some x i s) (All-head P x xs all)
    by false s rest = rest s

-- pins

pub pin_none : (items : List Item) (id : ItemId) → item_of items id ≡ None → pin_of items id ≡ pin.Unspecified
pin_none [] id e = refl
pin_none (i ∷ is) id e = by (eqb i.id.0 id.0) e (pin_none is id)
  where
    by : (t : Bool) → cond t (Some i) (item_of is id) ≡ None → (item_of is id ≡ None → pin_of is id ≡ pin.Unspecified) → cond t i.pin (pin_of is id) ≡ pin.Unspecified
    by true s rest = absurd (none-some i (sym s))
    by false s rest = rest s

pub pin_some : (items : List Item) (id : ItemId) (i : Item) → item_of items id ≡ Some i → pin_of items id ≡ i.pin
pin_some [] id i e = absurd (none-some i e)
pin_some (x ∷ xs) id i e = by (eqb x.id.0 id.0) e (pin_some xs id i)
  where
    by : (t : Bool) → cond t (Some x) (item_of xs id) ≡ Some i → (item_of xs id ≡ Some i → pin_of xs id ≡ i.pin) → cond t x.pin (pin_of xs id) ≡ i.pin
    by true s rest = ap (λ (y : Item). y.pin) (same_Some x i s)
    by false s rest = rest s

-- the order

pub in_order : (low : ℕ) (items : List Item) → ItemsRise low items → AreInOrder low items
in_order low [] r = tt
in_order low (i ∷ is) r = (r.0, in_order (i.id.0 + 1) is r.1)

pub order_rises : (low : ℕ) (items : List Item) → AreInOrder low items → ItemsRise low items
order_rises low [] r = tt
order_rises low (i ∷ is) r = (r.0, order_rises (i.id.0 + 1) is r.1)

order_lower : (low high : ℕ) (items : List Item) → low ≤ high → AreInOrder high items → AreInOrder low items
order_lower low high [] le r = tt
order_lower low high (i ∷ is) le r = (omega (arith, le, r.0), r.1)

pub order_changed : (low : ℕ) (id : ItemId) (f : Item → Item) (items : List Item) → ((i : Item) → (f i).id ≡ i.id) → AreInOrder low items → AreInOrder low (changed id f items)
order_changed low id f [] same r = tt
order_changed low id f (i ∷ is) same r = by (eqb i.id.0 id.0) (order_changed (i.id.0 + 1) id f is same r.1)
  where
    by : (t : Bool) → AreInOrder (i.id.0 + 1) (changed id f is) → AreInOrder low (cond t (f i) i ∷ changed id f is)
    by true rest = (subst (λ (n : ItemId). low ≤ n.0) (sym (same i)) r.0, subst (λ (n : ItemId). AreInOrder (n.0 + 1) (changed id f is)) (sym (same i)) rest)
    by false rest = (r.0, rest)

pub order_without : (low : ℕ) (id : ItemId) (items : List Item) → AreInOrder low items → AreInOrder low (without id items)
order_without low id [] r = tt
order_without low id (i ∷ is) r = by (eqb i.id.0 id.0) (order_without (i.id.0 + 1) id is r.1)
  where
    by : (t : Bool) → AreInOrder (i.id.0 + 1) (without id is) → AreInOrder low (cond (not t) (i ∷ without id is) (without id is))
    by true rest = order_lower low (i.id.0 + 1) (without id is) (omega (arith, r.0)) rest
    by false rest = (r.0, rest)

pub order_last : (low : ℕ) (items : List Item) (i : Item) → low ≤ i.id.0 → All (λ j. j.id.0 < i.id.0) items → AreInOrder low items → AreInOrder low (items ++ i ∷ [])
order_last low [] i le all r = (le, tt)
order_last low (j ∷ js) i le all r =
    let mine = All-head (λ (x : Item). x.id.0 < i.id.0) j js all in
    (r.0, order_last (j.id.0 + 1) js i (omega (arith, mine)) (All-tail (λ (x : Item). x.id.0 < i.id.0) j js all) r.1)

-- sums

past_all : (id : ItemId) (low : ℕ) (items : List Item) → AreInOrder low items → id.0 < low → without id items ≡ items
past_all id low [] r lt = refl
past_all id low (i ∷ is) r lt =
    cond-true (not (eqb i.id.0 id.0)) (i ∷ without id is) (without id is) (ap not (ne_eqb i.id.0 id.0 (λ e. omega (arith, e, lt, r.0))))
    ∙ ap (λ (l : List Item). i ∷ l) (past_all id (i.id.0 + 1) is r.1 (omega (arith, lt, r.0)))

same_sum : (g h : Item → ℕ) (id : ItemId) (low : ℕ) (items : List Item) → AreInOrder low items → id.0 < low → ((j : Item) → (j.id.0 ≡ id.0 → ⊥) → h j ≡ g j) → sum_by h items ≡ sum_by g items
same_sum g h id low [] r lt same = refl
same_sum g h id low (i ∷ is) r lt same =
    omega (arith, sum_by-cons g i is, sum_by-cons h i is, same i (λ e. omega (arith, e, lt, r.0)), same_sum g h id (i.id.0 + 1) is r.1 (omega (arith, lt, r.0)) same)

-- one that is found goes, the others count as before
pub sum_out : (g h : Item → ℕ) (id : ItemId) (low : ℕ) (items : List Item) (i : Item) → AreInOrder low items → item_of items id ≡ Some i → ((j : Item) → (j.id.0 ≡ id.0 → ⊥) → h j ≡ g j) → sum_by h (without id items) + g i ≡ sum_by g items
sum_out g h id low [] i r e same = absurd (none-some i e)
sum_out g h id low (x ∷ xs) i r e same = by (eqb x.id.0 id.0) refl e (λ s. sum_out g h id (x.id.0 + 1) xs i r.1 s same)
  where
    by : (t : Bool) → eqb x.id.0 id.0 ≡ t → cond t (Some x) (item_of xs id) ≡ Some i → (item_of xs id ≡ Some i → sum_by h (without id xs) + g i ≡ sum_by g xs)
        → sum_by h (cond (not t) (x ∷ without id xs) (without id xs)) + g i ≡ sum_by g (x ∷ xs)
    by true q s rest =
        let at : x.id.0 ≡ id.0 = eqb-true x.id.0 id.0 q in
        let past = ap (sum_by h) (past_all id (x.id.0 + 1) xs r.1 (omega (arith, at))) in
        let others = same_sum g h id (x.id.0 + 1) xs r.1 (omega (arith, at)) same in
        omega (arith, past, others, sum_by-cons g x xs, ap g (same_Some x i s))
    by false q s rest =
        let mine = same x (λ (at : x.id.0 ≡ id.0). true≢false (sym (eq-eqb x.id.0 id.0 at) ∙ q)) in
        omega (arith, rest s, mine, sum_by-cons g x xs, sum_by-cons h x (without id xs))

-- none is found, and all count as before
pub sum_none : (g h : Item → ℕ) (id : ItemId) (items : List Item) → item_of items id ≡ None → ((j : Item) → (j.id.0 ≡ id.0 → ⊥) → h j ≡ g j) → sum_by h (without id items) ≡ sum_by g items
sum_none g h id [] e same = refl
sum_none g h id (x ∷ xs) e same = by (eqb x.id.0 id.0) refl e (λ s. sum_none g h id xs s same)
  where
    by : (t : Bool) → eqb x.id.0 id.0 ≡ t → cond t (Some x) (item_of xs id) ≡ None → (item_of xs id ≡ None → sum_by h (without id xs) ≡ sum_by g xs)
        → sum_by h (cond (not t) (x ∷ without id xs) (without id xs)) ≡ sum_by g (x ∷ xs)
    by true q s rest = absurd (none-some x (sym s))
    by false q s rest =
        let mine = same x (λ (at : x.id.0 ≡ id.0). true≢false (sym (eq-eqb x.id.0 id.0 at) ∙ q)) in
        omega (arith, rest s, mine, sum_by-cons g x xs, sum_by-cons h x (without id xs))

pub length_sum : {A : Type 0} (xs : List A) → length xs ≡ sum_by (λ x. 1) xs
length_sum [] = refl
length_sum {A} (x ∷ xs) = omega (arith, length_sum xs, sum_by-cons (λ (y : A). 1) x xs)

-- changes of an item that stays

abbrev pub pin_moved : List Item → Change → Pin
pin_moved items (change.Move item parent name) = pin_of items parent
pin_moved items _ = pin.Unspecified

pub effect_items : (c : Change) (n : Usn) (items : List Item) → stays c ≡ true → effect items c n ≡ changed (item_of_change c) (item_effect c (pin_moved items c) n) items
effect_items (change.Make item parent name kind size identity) n items s = absurd (true≢false (sym s))
effect_items (change.Remove item) n items s = absurd (true≢false (sym s))
effect_items (change.Move item parent name) n items s = refl
effect_items (change.Write item at bytes) n items s = refl
effect_items (change.Size item size) n items s = refl
effect_items (change.Filled item start bytes) n items s = refl
effect_items (change.Validated item start len) n items s = refl
effect_items (change.Emptied item start len) n items s = refl
effect_items (change.SetPin item state) n items s = refl
effect_items (change.Mark item number) n items s = refl
effect_items (change.Clear item) n items s = refl
effect_items (change.Convert item identity) n items s = refl
effect_items (change.Revert item) n items s = refl
effect_items (change.Rebase item identity len at) n items s = refl
effect_items (change.Take item identity size) n items s = refl
effect_items (change.Copy item from parent name) n items s = absurd (true≢false (sym s))
effect_items (change.Populated item) n items s = refl
effect_items (change.Keep item on) n items s = refl

pub items_fit : (c : Change) (b : Book) (items : List Item) → stays c ≡ true → FitsAmong c b items → FitsItems c b items
items_fit (change.Make item parent name kind size identity) b items s f = absurd (true≢false (sym s))
items_fit (change.Remove item) b items s f = absurd (true≢false (sym s))
items_fit (change.Move item parent name) b items s f = f
items_fit (change.Write item at bytes) b items s f = f
items_fit (change.Size item size) b items s f = f
items_fit (change.Filled item start bytes) b items s f = f
items_fit (change.Validated item start len) b items s f = f
items_fit (change.Emptied item start len) b items s f = f
items_fit (change.SetPin item state) b items s f = f
items_fit (change.Mark item number) b items s f = f
items_fit (change.Clear item) b items s f = f
items_fit (change.Convert item identity) b items s f = f
items_fit (change.Revert item) b items s f = f
items_fit (change.Rebase item identity len at) b items s f = f
items_fit (change.Take item identity size) b items s f = f
items_fit (change.Copy item from parent name) b items s f = absurd (true≢false (sym s))
items_fit (change.Populated item) b items s f = f
items_fit (change.Keep item on) b items s f = f
