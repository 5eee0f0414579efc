-- Numbers and targets of items, over a change.
use Rattle.cf_base.specs.declared.ids.Rid.{Rid}
use Rattle.cf_model.specs.Numbers.{root_rid}
use Rattle.std.proofs.Common.{◌≡◌, ◌⊎◌, ◌<◌, ◌+◌, ℕ, Bool, true, false, List, [], ◌∷◌, ◌++◌, refl, sym, ◌∙◌, ap, subst, inl, inr, arith}
use Rattle.std.specs.Prelude.{Option, Some, None, cond, filter, ◌==◌}
use Rattle.std.proofs.lemmas.Bool.{eqb-true}
use Rattle.cf_base.specs.declared.changes.Change.{Change}
use Rattle.cf_base.specs.declared.changes.Change.TheVariants as change
use Rattle.cf_base.specs.declared.ids.ItemId.{ItemId}
use Rattle.cf_base.specs.declared.ids.Usn.{Usn}
use Rattle.cf_base.specs.declared.items.Pin.{Pin}
use Rattle.cf_model.specs.Books.{QueueEntry}
use Rattle.cf_model.specs.Effects.{changed, converted, copied, copies, effect, made}
use Rattle.cf_model.specs.Identities.{target_of}
use Rattle.cf_model.specs.Items.{Item, item_of, pin_of}
use Rattle.cf_model.specs.State.{Filter}
use Rattle.cf_model.specs.Store.{Held}
use Rattle.cf_model_laws.specs.Fitting.{AimsAlone, Fits, NoEntry}
use Rattle.cf_model_laws.specs.Invariant.{All, Among, target_in}
use Rattle.cf_model_laws.proofs.Gathered.{all_append, all_filter, all_in, all_weaker}
use Rattle.cf_model_convergence.proofs.FeedsTold.{all_among}
use Rattle.cf_model_arrivals.specs.Numbered.{AreFresh}
use Rattle.cf_model_arrivals.proofs.KeptItems.{each_among}

-- what is among the changed

pub among_of_filter : {A : Type 0} (f : A → Bool) (x : A) (xs : List A) → Among x (filter f xs) → Among x xs
among_of_filter f x xs among = all_among (λ y. Among y xs) (filter f xs) x among (all_filter (λ y. Among y xs) f xs (all_in xs))

pub among_of_append : {A : Type 0} (x : A) (xs ys : List A) → Among x (xs ++ ys) → Among x xs ⊎ Among x ys
among_of_append x xs ys among =
    all_among (λ y. Among y xs ⊎ Among y ys) (xs ++ ys) x among
    (all_append (λ y. Among y xs ⊎ Among y ys) xs ys (all_weaker (λ y. Among y xs) (λ y. Among y xs ⊎ Among y ys) (λ y k. inl k) xs (all_in xs)) (all_weaker (λ y. Among y ys) (λ y. Among y xs ⊎ Among y ys) (λ y k. inr k) ys (all_in ys)))

-- as it was, or changed
abbrev WasIn : ItemId → (Item → Item) → List Item → Item → Type 0
WasIn id f items i = Among i items ⊎ ((j : Item) × Among j items × ((j.id.0 == id.0) ≡ true) × (f j ≡ i))

was_in : (id : ItemId) (f : Item → Item) (items : List Item) (i : Item) → Among i (changed id f items) → WasIn id f items i
was_in id f [] i among = absurd among
was_in id f (j ∷ js) i (inl e) = by (j.id.0 == id.0) refl e where
  by : (b : Bool) → (j.id.0 == id.0) ≡ b → cond b (f j) j ≡ i → WasIn id f (j ∷ js) i
  by true q z = inr (j, inl refl, q, z)
  by false q z = inl (inl z)
was_in id f (j ∷ js) i (inr among) = by (was_in id f js i among) where
  by : WasIn id f js i → WasIn id f (j ∷ js) i
  by (inl k) = inl (inr k)
  by (inr k) = inr (k.0, inr k.1, k.2, k.3)

-- numbers

-- its number and its id are those of an item that was there, or its number is the new one
abbrev pub Comes : ℕ → Usn → List Item → Item → Type 0
Comes id n items i = ((j : Item) × Among j items × (j.id.0 ≡ i.id.0) × (j.number ≡ i.number)) ⊎ ((i.number ≡ n) × (i.id.0 ≡ id))

abbrev pub id_of : Change → ℕ
id_of (change.Make item parent name kind size identity) = item.0
id_of (change.Remove item) = item.0
id_of (change.Move item parent name) = item.0
id_of (change.Write item at bytes) = item.0
id_of (change.Size item size) = item.0
id_of (change.Filled item start bytes) = item.0
id_of (change.Validated item start len) = item.0
id_of (change.Emptied item start len) = item.0
id_of (change.SetPin item pin) = item.0
id_of (change.Mark item number) = item.0
id_of (change.Clear item) = item.0
id_of (change.Convert item identity) = item.0
id_of (change.Revert item) = item.0
id_of (change.Rebase item identity len at) = item.0
id_of (change.Take item identity size) = item.0
id_of (change.Copy item from parent name) = item.0
id_of (change.Populated item) = item.0
id_of (change.Keep item on) = item.0

comes_kept : (item : ItemId) (n : Usn) (f : Item → Item) → ((j : Item) → (j.id.0 ≡ (f j).id.0) × (j.number ≡ (f j).number)) → (items : List Item) (i : Item) → Among i (changed item f items) → Comes item.0 n items i
comes_kept item n f k items i among = by (was_in item f items i among) where
  by : WasIn item f items i → Comes item.0 n items i
  by (inl z) = inl (i, z, refl, refl)
  by (inr (j, z, q, e)) = inl (j, z, (k j).0 ∙ ap (λ (y : Item). y.id.0) e, (k j).1 ∙ ap (λ (y : Item). y.number) e)

comes_new : (item : ItemId) (n : Usn) (f : Item → Item) → ((j : Item) → (j.id.0 ≡ (f j).id.0) × ((f j).number ≡ n)) → (items : List Item) (i : Item) → Among i (changed item f items) → Comes item.0 n items i
comes_new item n f k items i among = by (was_in item f items i among) where
  by : WasIn item f items i → Comes item.0 n items i
  by (inl z) = inl (i, z, refl, refl)
  by (inr (j, z, q, e)) = inr (sym (ap (λ (y : Item). y.number) e) ∙ (k j).1, sym ((k j).0 ∙ ap (λ (y : Item). y.id.0) e) ∙ eqb-true j.id.0 item.0 q)

comes_copied : (item parent : ItemId) (name : List ℕ) (pin : Pin) (n : Usn) (items : List Item) (o : Option Item) (i : Item) → Among i (items ++ copies item parent name pin n o) → Comes item.0 n items i
comes_copied item parent name pin n items None i among = by (among_of_append i items [] among) where
  by : Among i items ⊎ ⊥ → Comes item.0 n items i
  by (inl z) = inl (i, z, refl, refl)
  by (inr z) = absurd z
comes_copied item parent name pin n items (Some j) i among = by (among_of_append i items (copied item parent name pin n j ∷ []) among) where
  by : Among i items ⊎ ((copied item parent name pin n j ≡ i) ⊎ ⊥) → Comes item.0 n items i
  by (inl z) = inl (i, z, refl, refl)
  by (inr (inl e)) = inr (sym (ap (λ (y : Item). y.number) e), sym (ap (λ (y : Item). y.id.0) e))
  by (inr (inr z)) = absurd z

pub comes : (items : List Item) (c : Change) (n : Usn) (i : Item) → Among i (effect items c n) → Comes (id_of c) n items i
comes items (change.Make item parent name kind size identity) n i among = by (among_of_append i items (made item parent name kind size identity (pin_of items parent) n ∷ []) among) where
  by : Among i items ⊎ ((made item parent name kind size identity (pin_of items parent) n ≡ i) ⊎ ⊥) → Comes item.0 n items i
  by (inl z) = inl (i, z, refl, refl)
  by (inr (inl e)) = inr (sym (ap (λ (y : Item). y.number) e), sym (ap (λ (y : Item). y.id.0) e))
  by (inr (inr z)) = absurd z
comes items (change.Remove item) n i among = inl (i, among_of_filter _ i items among, refl, refl)
comes items (change.Move item parent name) n i among = comes_new item n _ (λ j. (refl, refl)) items i among
comes items (change.Write item at bytes) n i among = comes_new item n _ (λ j. (refl, refl)) items i among
comes items (change.Size item size) n i among = comes_new item n _ (λ j. (refl, refl)) items i among
comes items (change.Filled item start bytes) n i among = comes_kept item n _ (λ j. (refl, refl)) items i among
comes items (change.Validated item start len) n i among = comes_kept item n _ (λ j. (refl, refl)) items i among
comes items (change.Emptied item start len) n i among = comes_kept item n _ (λ j. (refl, refl)) items i among
comes items (change.SetPin item pin) n i among = comes_kept item n _ (λ j. (refl, refl)) items i among
comes items (change.Mark item number) n i among = comes_kept item n _ (λ j. (refl, refl)) items i among
comes items (change.Clear item) n i among = comes_kept item n _ (λ j. (refl, refl)) items i among
comes items (change.Convert item identity) n i among = comes_new item n _ (λ j. (refl, refl)) items i among
comes items (change.Revert item) n i among = comes_new item n _ (λ j. (refl, refl)) items i among
comes items (change.Rebase item identity len at) n i among = comes_kept item n _ (λ j. (refl, refl)) items i among
comes items (change.Take item identity size) n i among = comes_new item n _ (λ j. (refl, refl)) items i among
comes items (change.Copy item from parent name) n i among = comes_copied item parent name (pin_of items parent) n items (item_of items from) i among
comes items (change.Populated item) n i among = comes_kept item n _ (λ j. (refl, refl)) items i among
comes items (change.Keep item on) n i among = comes_kept item n _ (λ j. (refl, refl)) items i among

-- items of an id have no target

fresh_kept : (item : ItemId) (id : ℕ) (f : Item → Item) → ((j : Item) → (j.id.0 ≡ (f j).id.0) × ((target_of j).0 ≡ (target_of (f j)).0)) → (items : List Item) → AreFresh items id → AreFresh (changed item f items) id
fresh_kept item id f k items h i among e = by (was_in item f items i among) where
  by : WasIn item f items i → (target_of i).0 ≡ 0
  by (inl z) = h i z e
  by (inr (j, z, q, w)) = sym ((k j).1 ∙ ap (λ (y : Item). (target_of y).0) w) ∙ h j z ((k j).0 ∙ ap (λ (y : Item). y.id.0) w ∙ e)

own : (b : Bool) (old new : Rid) → (cond b root_rid old).0 ≡ 0 → new.0 ≡ 0 → (cond b root_rid new).0 ≡ 0
own true old new h k = h
own false old new h k = k

-- with an identity that names no target
fresh_zero : (item : ItemId) (id : ℕ) (identity : List ℕ) (f : Item → Item) → ((j : Item) → (j.id.0 ≡ (f j).id.0) × ((f j).identity ≡ identity)) → (target_in identity).0 ≡ 0 → (items : List Item) → AreFresh items id → AreFresh (changed item f items) id
fresh_zero item id identity f k zero items h i among e = by (was_in item f items i among) where
  by : WasIn item f items i → (target_of i).0 ≡ 0
  by (inl z) = h i z e
  by (inr (j, z, q, w)) =
      sym (ap (λ (y : Item). (target_of y).0) w)
      ∙ subst (λ (m : ℕ). (cond (m == 1) root_rid (target_in (f j).identity)).0 ≡ 0) (k j).0
      (own (j.id.0 == 1) (target_in j.identity) (target_in (f j).identity) (h j z ((k j).0 ∙ ap (λ (y : Item). y.id.0) w ∙ e)) (ap (λ (is : List ℕ). (target_in is).0) (k j).1 ∙ zero))

fresh_aimed : (item : ItemId) (id : ℕ) (identity : List ℕ) (f : Item → Item) → ((j : Item) → (j.id.0 ≡ (f j).id.0) × ((f j).identity ≡ identity)) → (items : List Item) (es : List QueueEntry) → (NoEntry es item → item.0 ≡ id → ⊥) → AimsAlone es items item identity → AreFresh items id
    → AreFresh (changed item f items) id
fresh_aimed item id identity f k items es none aims h i among e = by (was_in item f items i among) aims where
  by : WasIn item f items i → AimsAlone es items item identity → (target_of i).0 ≡ 0
  by (inl z) a = h i z e
  by (inr (j, z, q, w)) (inl a) =
      fresh_zero item id identity f k (sym (each_among item (λ y. (target_of y).0 ≡ (target_in identity).0) items j a z q) ∙ h j z ((k j).0 ∙ ap (λ (y : Item). y.id.0) w ∙ e)) items h i among e
  by (inr (j, z, q, w)) (inr a) = absurd (none a.0 (sym (eqb-true j.id.0 item.0 q) ∙ (k j).0 ∙ ap (λ (y : Item). y.id.0) w ∙ e))

-- a new item has another id
fresh_added : (id : ℕ) (items news : List Item) → All (λ i. i.id.0 ≡ id → ⊥) news → AreFresh items id → AreFresh (items ++ news) id
fresh_added id items news apart h i among e = by (among_of_append i items news among) where
  by : Among i items ⊎ Among i news → (target_of i).0 ≡ 0
  by (inl z) = h i z e
  by (inr z) = absurd (all_among (λ j. j.id.0 ≡ id → ⊥) news i z apart e)

copies_apart : (id : ℕ) (item parent : ItemId) (name : List ℕ) (pin : Pin) (n : Usn) (o : Option Item) → (item.0 ≡ id → ⊥) → All (λ i. i.id.0 ≡ id → ⊥) (copies item parent name pin n o)
copies_apart id item parent name pin n None k = tt
copies_apart id item parent name pin n (Some i) k = (k, tt)

past : (a b id : ℕ) → id < b → a ≡ b → a ≡ id → ⊥
past a b id l e k = omega (arith, l, e, k)

pub fresh_effect : (r : Held) (x : Filter) (c : Change) (n : Usn) (id : ℕ) → id < x.volume.next_item.0 → ((item : ItemId) → NoEntry x.volume.book.entries item → item.0 ≡ id → ⊥) → Fits r x c → AreFresh x.volume.items id → AreFresh (effect x.volume.items c n) id
fresh_effect r x (change.Make item parent name kind size identity) n id low none fit h = fresh_added id x.volume.items _ ((λ e. past item.0 x.volume.next_item.0 id low fit.0.0 e), tt) h
fresh_effect r x (change.Remove item) n id low none fit h = λ i among e. h i (among_of_filter _ i x.volume.items among) e
fresh_effect r x (change.Move item parent name) n id low none fit h = fresh_kept item id _ (λ j. (refl, refl)) x.volume.items h
fresh_effect r x (change.Write item at bytes) n id low none fit h = fresh_kept item id _ (λ j. (refl, refl)) x.volume.items h
fresh_effect r x (change.Size item size) n id low none fit h = fresh_kept item id _ (λ j. (refl, refl)) x.volume.items h
fresh_effect r x (change.Filled item start bytes) n id low none fit h = fresh_kept item id _ (λ j. (refl, refl)) x.volume.items h
fresh_effect r x (change.Validated item start len) n id low none fit h = fresh_kept item id _ (λ j. (refl, refl)) x.volume.items h
fresh_effect r x (change.Emptied item start len) n id low none fit h = fresh_kept item id _ (λ j. (refl, refl)) x.volume.items h
fresh_effect r x (change.SetPin item pin) n id low none fit h = fresh_kept item id _ (λ j. (refl, refl)) x.volume.items h
fresh_effect r x (change.Mark item number) n id low none fit h = fresh_kept item id _ (λ j. (refl, refl)) x.volume.items h
fresh_effect r x (change.Clear item) n id low none fit h = fresh_kept item id _ (λ j. (refl, refl)) x.volume.items h
fresh_effect r x (change.Convert item identity) n id low none fit h = fresh_zero item id identity (converted identity n) (λ j. (refl, refl)) fit.0.1 x.volume.items h
fresh_effect r x (change.Revert item) n id low none fit h = absurd fit
fresh_effect r x (change.Rebase item identity len at) n id low none fit h = fresh_aimed item id identity _ (λ j. (refl, refl)) x.volume.items x.volume.book.entries (none item) fit.1.1 h
fresh_effect r x (change.Take item identity size) n id low none fit h = fresh_aimed item id identity _ (λ j. (refl, refl)) x.volume.items x.volume.book.entries (none item) fit.1.1 h
fresh_effect r x (change.Copy item from parent name) n id low none fit h = fresh_added id x.volume.items _ (copies_apart id item parent name (pin_of x.volume.items parent) n (item_of x.volume.items from) (λ e. past item.0 x.volume.next_item.0 id low fit.0 e)) h
fresh_effect r x (change.Populated item) n id low none fit h = fresh_kept item id _ (λ j. (refl, refl)) x.volume.items h
fresh_effect r x (change.Keep item on) n id low none fit h = fresh_kept item id _ (λ j. (refl, refl)) x.volume.items h
