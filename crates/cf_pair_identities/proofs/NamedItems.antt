-- What a change makes of items whose identities are named.
use Rattle.std.proofs.Common.{◌≡◌, inl, inr, ℕ, zero, suc, Bool, true, false, List, [], ◌∷◌, ◌++◌, append-nil, refl, sym, ◌∙◌, ap, subst, take, ◌⊎◌}
use Rattle.std.proofs.lemmas.Bool.{eqb-true}
use Rattle.std.specs.Prelude.{Option, Some, None, cond, not, ◌==◌}
use Rattle.cf_base.specs.declared.changes.Change.{Change}
use Rattle.cf_base.specs.declared.changes.Change.TheVariants as change
use Rattle.cf_base.specs.declared.ids.ItemId.{ItemId}
use Rattle.cf_base.specs.declared.ids.Usn.{Usn}
use Rattle.cf_base.specs.declared.items.Pin.{Pin}
use Rattle.cf_model.specs.Effects.{changed, copied, copies, effect, made, without}
use Rattle.cf_model.specs.Items.{Item, item_of, pin_of, root}
use Rattle.cf_model.specs.Logs.{after_changes}
use Rattle.cf_model_laws.proofs.SoundSettles.{same_item}
use Rattle.cf_pair_identities.specs.Named.{AreNamed, AreNamedAlong, Gives, GivesOver, IsNamed, IsNamedAs}

-- the item that is found is this one
pub one_found : (items : List Item) (id : ItemId) (i j : Item) → item_of items id ≡ Some i → item_of items id ≡ Some j → i ≡ j
one_found items id i j e f = same (sym e ∙ f) where
  same : ◌≡◌ {A = Option Item} (Some i) (Some j) → i ≡ j
  same z = cc

pub of_any_kind : (directory : Bool) (identity : List ℕ) → IsNamedAs true identity → IsNamedAs directory identity
of_any_kind directory identity (inl z) = inl z
of_any_kind directory identity (inr h) = inr (h.0, h.1, h.2, (λ d. h.3 refl), h.4)

pub gives_over : (full : Bool) (items : List Item) (c : Change) → Gives full c → GivesOver full items c
gives_over full items (change.Make item parent name kind size identity) h = h
gives_over full items (change.Remove item) h = h
gives_over full items (change.Move item parent name) h = h
gives_over full items (change.Write item at bytes) h = h
gives_over full items (change.Size item size) h = h
gives_over full items (change.Filled item start bytes) h = h
gives_over full items (change.Validated item start len) h = h
gives_over full items (change.Emptied item start len) h = h
gives_over full items (change.SetPin item pin) h = h
gives_over full items (change.Mark item number) h = h
gives_over full items (change.Clear item) h = h
gives_over full items (change.Convert item identity) h = h
gives_over full items (change.Revert item) h = h
gives_over full items (change.Rebase item identity len at) h = λ i e. of_any_kind i.directory identity h
gives_over full items (change.Take item identity size) h = λ i e. of_any_kind i.directory identity h
gives_over full items (change.Copy item from parent name) h = h
gives_over full items (change.Populated item) h = h
gives_over full items (change.Keep item on) h = h

-- look-ups after a change

-- the item was found before, or is the changed one
abbrev WasFound : ItemId → (Item → Item) → List Item → ItemId → Item → Type 0
WasFound item f items id j = (i : Item) × (item_of items id ≡ Some i) × ((j ≡ i) ⊎ ((id.0 ≡ item.0) × (j ≡ f i)))

found_changed : (item : ItemId) (f : Item → Item) → ((i : Item) → (f i).id ≡ i.id) → (items : List Item) (id : ItemId) (j : Item) → item_of (changed item f items) id ≡ Some j → WasFound item f items id j
found_changed item f same [] id j e = absurd (none e) where
  none : ◌≡◌ {A = Option Item} None (Some j) → ⊥
  none z = cc
found_changed item f same (i ∷ is) id j e = own (i.id.0 == item.0) (i.id.0 == id.0) refl refl e (found_changed item f same is id j) where
  is_some : (x y : Item) → ◌≡◌ {A = Option Item} (Some x) (Some y) → y ≡ x
  is_some x y z = cc

  here : (i.id.0 == id.0) ≡ true → item_of (i ∷ is) id ≡ Some i
  here q = ap (λ (b : Bool). cond b (Some i) (item_of is id)) q

  later : (i.id.0 == id.0) ≡ false → WasFound item f is id j → WasFound item f (i ∷ is) id j
  later q h = (h.0, ap (λ (b : Bool). cond b (Some i) (item_of is id)) q ∙ h.1, h.2)

  moved : (i.id.0 == id.0) ≡ false → ((f i).id.0 == id.0) ≡ false
  moved q = ap (λ (d : ItemId). d.0 == id.0) (same i) ∙ q

  stays : (i.id.0 == id.0) ≡ true → ((f i).id.0 == id.0) ≡ true
  stays q = ap (λ (d : ItemId). d.0 == id.0) (same i) ∙ q

  own : (a b : Bool) → (i.id.0 == item.0) ≡ a → (i.id.0 == id.0) ≡ b → cond ((cond a (f i) i).id.0 == id.0) (Some (cond a (f i) i)) (item_of (changed item f is) id) ≡ Some j
      → (item_of (changed item f is) id ≡ Some j → WasFound item f is id j) → WasFound item f (i ∷ is) id j
  own true true p q z k =
      (i, here q, inr (sym (eqb-true i.id.0 id.0 q) ∙ eqb-true i.id.0 item.0 p, is_some (f i) j (sym (ap (λ (b : Bool). cond b (Some (f i)) (item_of (changed item f is) id)) (stays q)) ∙ z)))
  own true false p q z k = later q (k (sym (ap (λ (b : Bool). cond b (Some (f i)) (item_of (changed item f is) id)) (moved q)) ∙ z))
  own false true p q z k = (i, here q, inl (is_some i j (sym (ap (λ (b : Bool). cond b (Some i) (item_of (changed item f is) id)) q) ∙ z)))
  own false false p q z k = later q (k (sym (ap (λ (b : Bool). cond b (Some i) (item_of (changed item f is) id)) q) ∙ z))

-- what is found with one item more was found before, or is that one
found_more : (items : List Item) (x : Item) (id : ItemId) (j : Item) → item_of (items ++ x ∷ []) id ≡ Some j → (item_of items id ≡ Some j) ⊎ (j ≡ x)
found_more [] x id j e = by (x.id.0 == id.0) e where
  by : (b : Bool) → cond b (Some x) None ≡ Some j → (◌≡◌ {A = Option Item} None (Some j)) ⊎ (j ≡ x)
  by true z = inr (same z) where
    same : ◌≡◌ {A = Option Item} (Some x) (Some j) → j ≡ x
    same z = cc
  by false z = inl z
found_more (i ∷ is) x id j e = by (i.id.0 == id.0) e (found_more is x id j) where
  by : (b : Bool) → cond b (Some i) (item_of (is ++ x ∷ []) id) ≡ Some j → (item_of (is ++ x ∷ []) id ≡ Some j → (item_of is id ≡ Some j) ⊎ (j ≡ x)) → (cond b (Some i) (item_of is id) ≡ Some j) ⊎ (j ≡ x)
  by true z k = inl z
  by false z k = k z

-- what was found is found with more items behind
pub found_still : (items more : List Item) (id : ItemId) (j : Item) → item_of items id ≡ Some j → item_of (items ++ more) id ≡ Some j
found_still [] more id j e = absurd (none e) where
  none : ◌≡◌ {A = Option Item} None (Some j) → ⊥
  none z = cc
found_still (i ∷ is) more id j e = by (i.id.0 == id.0) e (found_still is more id j) where
  by : (b : Bool) → cond b (Some i) (item_of is id) ≡ Some j → (item_of is id ≡ Some j → item_of (is ++ more) id ≡ Some j) → cond b (Some i) (item_of (is ++ more) id) ≡ Some j
  by true z k = z
  by false z k = k z

-- no item is found under an id that is gone
none_without : (item : ItemId) (items : List Item) (id : ItemId) (j : Item) → id.0 ≡ item.0 → item_of (without item items) id ≡ Some j → ⊥
none_without item [] id j same e = none e where
  none : ◌≡◌ {A = Option Item} None (Some j) → ⊥
  none z = cc
none_without item (i ∷ is) id j same e = by (i.id.0 == item.0) refl e (none_without item is id j same) where
  by : (b : Bool) → (i.id.0 == item.0) ≡ b → item_of (cond (not b) (i ∷ without item is) (without item is)) id ≡ Some j → (item_of (without item is) id ≡ Some j → ⊥) → ⊥
  by true q z k = k z
  by false q z k = k (sym (ap (λ (b : Bool). cond b (Some i) (item_of (without item is) id)) (ap (λ (n : ℕ). i.id.0 == n) same ∙ q)) ∙ z)

found_without : (item : ItemId) (items : List Item) (id : ItemId) (j : Item) → item_of (without item items) id ≡ Some j → item_of items id ≡ Some j
found_without item [] id j e = e
found_without item (i ∷ is) id j e = by (i.id.0 == item.0) (i.id.0 == id.0) refl refl e (found_without item is id j) where
  by : (a b : Bool) → (i.id.0 == item.0) ≡ a → (i.id.0 == id.0) ≡ b → item_of (cond (not a) (i ∷ without item is) (without item is)) id ≡ Some j → (item_of (without item is) id ≡ Some j → item_of is id ≡ Some j) → item_of (i ∷ is) id ≡ Some j
  by true true p q z k = absurd (none_without item is id j (sym (eqb-true i.id.0 id.0 q) ∙ eqb-true i.id.0 item.0 p) z)
  by true false p q z k = ap (λ (b : Bool). cond b (Some i) (item_of is id)) q ∙ k z
  by false true p q z k = ap (λ (b : Bool). cond b (Some i) (item_of is id)) q ∙ sym (ap (λ (b : Bool). cond b (Some i) (item_of (without item is) id)) q) ∙ z
  by false false p q z k = ap (λ (b : Bool). cond b (Some i) (item_of is id)) q ∙ k (sym (ap (λ (b : Bool). cond b (Some i) (item_of (without item is) id)) q) ∙ z)

-- changes

module _ (full : Bool) where
  changed_named : (item : ItemId) (f : Item → Item) → ((i : Item) → (f i).id ≡ i.id) → (items : List Item) → ((i : Item) → item_of items item ≡ Some i → IsNamed full i → IsNamed full (f i)) → AreNamed full items → AreNamed full (changed item f items)
  changed_named item f same items own h = λ id j e.
      let x = found_changed item f same items id j e in by id j x.0 x.1 x.2
    where
      by : (id : ItemId) (j i : Item) → item_of items id ≡ Some i → (j ≡ i) ⊎ ((id.0 ≡ item.0) × (j ≡ f i)) → IsNamed full j
      by id j i there (inl q) = subst (IsNamed full) (sym q) (h id i there)
      by id j i there (inr q) = subst (IsNamed full) (sym q.1) (own i (subst (λ (d : ItemId). item_of items d ≡ Some i) (same_item id item q.0) there) (h id i there))

  -- so it is where kind and identity stay
  still : (item : ItemId) (f : Item → Item) (items : List Item) → ((i : Item) → (f i).id ≡ i.id) → ((i : Item) → IsNamed full i → IsNamed full (f i)) → AreNamed full items → AreNamed full (changed item f items)
  still item f items same own h = changed_named item f same items (λ i there k. own i k) h

  more_named : (items : List Item) (x : Item) → IsNamed full x → AreNamed full items → AreNamed full (items ++ x ∷ [])
  more_named items x own h = λ id j e. by id j (found_more items x id j e) where
    by : (id : ItemId) (j : Item) → (item_of items id ≡ Some j) ⊎ (j ≡ x) → IsNamed full j
    by id j (inl there) = h id j there
    by id j (inr q) = subst (IsNamed full) (sym q) own

  -- a copy has no target
  copies_named : (item from parent : ItemId) (name : List ℕ) (pin : Pin) (n : Usn) (items : List Item) (o : Option Item) → item_of items from ≡ o → AreNamed full items → AreNamed full (items ++ copies item parent name pin n o)
  copies_named item from parent name pin n items None q h = subst (AreNamed full) (sym (append-nil items)) h
  copies_named item from parent name pin n items (Some i) q h = more_named items (copied item parent name pin n i) (record { identity = inl refl; filled = (h from i q).filled }) h

  pub effect_named : (items : List Item) (c : Change) (n : Usn) → GivesOver full items c → AreNamed full items → AreNamed full (effect items c n)
  effect_named items (change.Make item parent name kind size identity) n g h = more_named items (made item parent name kind size identity (pin_of items parent) n) (record { identity = g.0; filled = g.1 }) h
  effect_named items (change.Remove item) n g h = λ id j e. h id j (found_without item items id j e)
  effect_named items (change.Move item parent name) n g h = still item _ items (λ i. refl) (λ i k. record { identity = k.identity; filled = k.filled }) h
  effect_named items (change.Write item at bytes) n g h = still item _ items (λ i. refl) (λ i k. record { identity = k.identity; filled = k.filled }) h
  effect_named items (change.Size item size) n g h = still item _ items (λ i. refl) (λ i k. record { identity = k.identity; filled = k.filled }) h
  effect_named items (change.Filled item start bytes) n g h = still item _ items (λ i. refl) (λ i k. record { identity = k.identity; filled = k.filled }) h
  effect_named items (change.Validated item start len) n g h = still item _ items (λ i. refl) (λ i k. record { identity = k.identity; filled = k.filled }) h
  effect_named items (change.Emptied item start len) n g h = still item _ items (λ i. refl) (λ i k. record { identity = k.identity; filled = k.filled }) h
  effect_named items (change.SetPin item pin) n g h = still item _ items (λ i. refl) (λ i k. record { identity = k.identity; filled = k.filled }) h
  effect_named items (change.Mark item number) n g h = still item _ items (λ i. refl) (λ i k. record { identity = k.identity; filled = k.filled }) h
  effect_named items (change.Clear item) n g h = still item _ items (λ i. refl) (λ i k. record { identity = k.identity; filled = k.filled }) h
  effect_named items (change.Convert item identity) n g h = still item _ items (λ i. refl) (λ i k. record { identity = inl g; filled = k.filled }) h
  effect_named items (change.Revert item) n g h = still item _ items (λ i. refl) (λ i k. record { identity = inl refl; filled = k.filled }) h
  effect_named items (change.Rebase item identity len at) n g h = changed_named item _ (λ i. refl) items (λ i there k. record { identity = g i there; filled = k.filled }) h
  effect_named items (change.Take item identity size) n g h = changed_named item _ (λ i. refl) items (λ i there k. record { identity = g i there; filled = k.filled }) h
  effect_named items (change.Copy item from parent name) n g h = copies_named item from parent name (pin_of items parent) n items (item_of items from) refl h
  effect_named items (change.Populated item) n g h = still item _ items (λ i. refl) (λ i k. record { identity = k.identity; filled = λ _ _. refl }) h
  effect_named items (change.Keep item on) n g h = still item _ items (λ i. refl) (λ i k. record { identity = k.identity; filled = k.filled }) h

  -- logs

  pub root_named : AreNamed full (root ∷ [])
  root_named id j e = by (1 == id.0) e where
    is_root : ◌≡◌ {A = Option Item} (Some root) (Some j) → root ≡ j
    is_root z = cc

    none : ◌≡◌ {A = Option Item} None (Some j) → ⊥
    none z = cc

    by : (b : Bool) → cond b (Some root) None ≡ Some j → IsNamed full j
    by true z = subst (IsNamed full) (is_root z) (record { identity = inl refl; filled = λ _ _. refl })
    by false z = absurd (none z)

  pub along_now : (items : List Item) (log : List (Usn × Change)) → AreNamedAlong full items log → AreNamed full (after_changes items log)
  along_now items [] h = h
  along_now items (c ∷ cs) h = along_now (effect items c.1 c.0) cs h.1

  pub along_more : (items : List Item) (log : List (Usn × Change)) (n : Usn) (c : Change) → AreNamed full (effect (after_changes items log) c n) → AreNamedAlong full items log → AreNamedAlong full items (log ++ (n, c) ∷ [])
  along_more items [] n c k h = (h, k)
  along_more items (d ∷ ds) n c k h = (h.0, along_more (effect items d.1 d.0) ds n c k h.1)

  pub along_front : (items : List Item) (log : List (Usn × Change)) (k : ℕ) → AreNamedAlong full items log → AreNamedAlong full items (take k log)
  along_front items [] zero h = h
  along_front items [] (suc k) h = h
  along_front items (c ∷ cs) zero h = h.0
  along_front items (c ∷ cs) (suc k) h = (h.0, along_front (effect items c.1 c.0) cs k h.1)

pub after_one_more : (items : List Item) (log : List (Usn × Change)) (n : Usn) (c : Change) → after_changes items (log ++ (n, c) ∷ []) ≡ effect (after_changes items log) c n
after_one_more items [] n c = refl
after_one_more items (d ∷ log) n c = after_one_more (effect items d.1 d.0) log n c
