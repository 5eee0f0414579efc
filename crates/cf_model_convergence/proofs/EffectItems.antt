-- A property of all items, over a change.
use Rattle.std.proofs.Common.{◌≡◌, ℕ, Bool, true, false, List, [], ◌∷◌, ◌++◌, refl, sym, subst, append-nil, take}
use Rattle.std.specs.Prelude.{Option, Some, None, cond, ◌==◌}
use Rattle.std.proofs.lemmas.Bool.{eqb-true}
use Rattle.cf_base.specs.declared.changes.Change.{Change}
use Rattle.cf_base.specs.declared.changes.Change.TheVariants as change
use Rattle.cf_base.specs.declared.ids.ItemId.{ItemId}
use Rattle.cf_base.specs.declared.ids.Usn.{Usn}
use Rattle.cf_base.specs.declared.items.Pin.{Pin}
use Rattle.cf_model.specs.Effects.{changed, converted, copied, copies, effect, made}
use Rattle.cf_model.specs.Items.{Item, item_of, pin_of}
use Rattle.cf_model.specs.Soundness.{Each}
use Rattle.cf_model.specs.Words.{number_of}
use Rattle.cf_model_laws.specs.Invariant.{All}
use Rattle.cf_model_laws.proofs.FitItems.{all_changed}
use Rattle.cf_model_laws.proofs.Gathered.{all_append, all_filter, each_any}
use Rattle.cf_model_convergence.specs.Passed.{NamesAs}

-- It is of items with the same id, kind and identity alike, and of one with no target.
module _ (Q : Item → Type 0) (alike : (i j : Item) → i.id ≡ j.id → i.directory ≡ j.directory → i.identity ≡ j.identity → Q i → Q j) (free : (i : Item) → number_of (take 8 i.identity) ≡ 0 → Q i) where
  still : (item : ItemId) (f : Item → Item) → ((i : Item) → (i.id ≡ (f i).id) × (i.directory ≡ (f i).directory) × (i.identity ≡ (f i).identity)) → (items : List Item) → All Q items → All Q (changed item f items)
  still item f same items h = all_changed item f (λ i. Unit {0}) Q Q (λ i _ k. let z = same i in alike i (f i) z.0 z.1 z.2 k) (λ i k. k) items (each_any item (λ i. Unit {0}) (λ i. tt) items) h

  named : (item : ItemId) (f : Item → Item) (items : List Item) → Each item (λ i. Q (f i)) items → All Q items → All Q (changed item f items)
  named item f items c h = all_changed item f (λ i. Q (f i)) Q Q (λ i k _. k) (λ i k. k) items c h

  copied_all : (id parent : ItemId) (name : List ℕ) (pin : Pin) (n : Usn) (items : List Item) (o : Option Item) → All Q items → All Q (items ++ copies id parent name pin n o)
  copied_all id parent name pin n items None h = subst (λ (is : List Item). All Q is) (sym (append-nil items)) h
  copied_all id parent name pin n items (Some i) h = all_append Q items (copied id parent name pin n i ∷ []) h (free (copied id parent name pin n i) refl, tt)

  pub effect_all : (items : List Item) (c : Change) (n : Usn) → NamesAs Q items c n → All Q items → All Q (effect items c n)
  effect_all items (change.Make item parent name kind size identity) n fit h = all_append Q items (made item parent name kind size identity (pin_of items parent) n ∷ []) h (fit, tt)
  effect_all items (change.Remove item) n fit h = all_filter Q _ items h
  effect_all items (change.Move item parent name) n fit h = still item _ (λ i. (refl, refl, refl)) items h
  effect_all items (change.Write item at bytes) n fit h = still item _ (λ i. (refl, refl, refl)) items h
  effect_all items (change.Size item size) n fit h = still item _ (λ i. (refl, refl, refl)) items h
  effect_all items (change.Filled item start bytes) n fit h = still item _ (λ i. (refl, refl, refl)) items h
  effect_all items (change.Validated item start len) n fit h = still item _ (λ i. (refl, refl, refl)) items h
  effect_all items (change.Emptied item start len) n fit h = still item _ (λ i. (refl, refl, refl)) items h
  effect_all items (change.SetPin item pin) n fit h = still item _ (λ i. (refl, refl, refl)) items h
  effect_all items (change.Mark item number) n fit h = still item _ (λ i. (refl, refl, refl)) items h
  effect_all items (change.Clear item) n fit h = still item _ (λ i. (refl, refl, refl)) items h
  effect_all items (change.Convert item identity) n fit h = named item _ items (each_any item (λ i. Q (converted identity n i)) (λ i. free (converted identity n i) fit) items) h
  effect_all items (change.Revert item) n fit h = absurd fit
  effect_all items (change.Rebase item identity len at) n fit h = named item _ items fit h
  effect_all items (change.Take item identity size) n fit h = named item _ items fit h
  effect_all items (change.Copy item from parent name) n fit h = copied_all item parent name (pin_of items parent) n items (item_of items from) h
  effect_all items (change.Populated item) n fit h = still item _ (λ i. (refl, refl, refl)) items h
  effect_all items (change.Keep item on) n fit h = still item _ (λ i. (refl, refl, refl)) items h

-- the item itself, and the others
pub all_made : (id : ItemId) (f : Item → Item) (P Q : Item → Type 0) → ((i : Item) → i.id.0 ≡ id.0 → P i → Q (f i)) → ((i : Item) → (i.id.0 == id.0) ≡ false → P i → Q i) → (items : List Item) → All P items → All Q (changed id f items)
all_made id f P Q own other [] h = tt
all_made id f P Q own other (i ∷ is) h = (by (i.id.0 == id.0) refl, all_made id f P Q own other is h.1) where
  by : (b : Bool) → (i.id.0 == id.0) ≡ b → Q (cond b (f i) i)
  by true q = own i (eqb-true i.id.0 id.0 q) h.0
  by false q = other i q h.0
