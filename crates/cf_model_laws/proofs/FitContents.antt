-- What a change that fits keeps of contents.
use Rattle.std.proofs.Common.{◌≡◌, ◌⊎◌, ℕ, true, false, List, [], ◌++◌, refl, sym, ◌∙◌, ap, subst, inl, inr}
use Rattle.std.specs.Prelude.{Option, Some, None, is_some, map}
use Rattle.std.specs.List.{list_all}
use Rattle.cf_base.specs.declared.changes.Change.{Change}
use Rattle.cf_base.specs.declared.changes.Change.TheVariants as change
use Rattle.cf_base.specs.declared.ids.ItemId.{ItemId}
use Rattle.cf_base.specs.declared.ids.Usn.{Usn}
use Rattle.cf_base.specs.declared.items.Pin.{Pin}
use Rattle.cf_model.specs.Contents.{IsTrueTo, RisesFrom, StaysBy, base_named, laid, up_to}
use Rattle.cf_model.specs.Effects.{changed, converted, copies, effect, got, kept, later_than, left_out, marked, moved, pinned, populated, rebased, sized, took, unmarked, validated_in, wrote}
use Rattle.cf_model.specs.Identities.{base_bytes}
use Rattle.cf_model.specs.Items.{Item, item_of, pin_of}
use Rattle.cf_model.specs.Numbers.{no_usn}
use Rattle.cf_model.specs.Overlay.{Written, over}
use Rattle.cf_model.specs.Soundness.{Each}
use Rattle.cf_model.specs.State.{Filter}
use Rattle.cf_model.specs.Store.{Held}
use Rattle.cf_model.proofs.ContentItems.{converted-true, copied-true, got-true, left_out-true, made-true, marked-true, rebased-true, sized-true, took-true, wrote-true}
use Rattle.cf_model.proofs.Rebasing.{later-all, rebase_same, rebase_stays, split}
use Rattle.cf_model_laws.specs.Fitting.{Meets, NoEntry}
use Rattle.cf_model_laws.specs.Invariant.{All, AreTrueTo, IsRight, SameBase, put_bytes}
use Rattle.cf_model_laws.proofs.FitItems.{all_changed}
use Rattle.cf_model_laws.proofs.Gathered.{all_append, all_filter, all_found, each_all, each_any, each_both, each_weaker}
use Rattle.cf_model_laws.proofs.RightItems.{same_named}

abbrev True : Held → Item → Type 0
True r i = i.directory ≡ false → IsTrueTo r i

abbrev Any : Item → Type 0
Any i = Unit {0}

plainly : (r : Held) (id : ItemId) (f : Item → Item) → ((i : Item) → True r i → True r (f i)) → (items : List Item) → AreTrueTo r items → AreTrueTo r (changed id f items)
plainly r id f k items h = all_changed id f Any (True r) (True r) (λ i _. k i) (λ i g. g) items (each_any id Any (λ i. tt) items) h

with_each : (r : Held) (id : ItemId) (f : Item → Item) (C : Item → Type 0) → ((i : Item) → C i → True r i → True r (f i)) → (items : List Item) → Each id C items → AreTrueTo r items → AreTrueTo r (changed id f items)
with_each r id f C k items c h = all_changed id f C (True r) (True r) k (λ i g. g) items c h

-- a Rebase at 0.0 to the same base
rebased_stays : (r : Held) (identity : List ℕ) (at : Usn) (i : Item) → at ≡ no_usn → SameBase identity i.identity → (n : Usn) → IsRight r n i → StaysBy (base_bytes r i) (base_named r identity) (later_than at i.writes) i
rebased_stays r identity at i zero same n right =
    let bytes : base_named r identity ≡ base_bytes r i = same_named r identity i.identity same in
    subst (λ (a : Usn). StaysBy (base_bytes r i) (base_named r identity) (later_than a i.writes) i) (sym zero)
    (subst (λ (b : List ℕ). StaysBy (base_bytes r i) b (later_than no_usn i.writes) i) (sym bytes) (rebase_same (base_bytes r i) i right.rises))

-- a Rebase of a Done: all bytes are here, or there is nothing to take in
done_stays : (r : Held) (new : List ℕ) (at : Usn) (i : Item) → RisesFrom no_usn i.writes → (list_all is_some i.held ≡ true) ⊎ (up_to at i.writes ≡ []) → new ≡ put_bytes (base_bytes r i) at i.writes → StaysBy (base_bytes r i) new (later_than at i.writes) i
done_stays r new at i rises (inl here) e = rebase_stays (base_bytes r i) new at no_usn i rises here e
done_stays r new at i rises (inr none) e =
    let all : i.writes ≡ later_than at i.writes = split at no_usn i.writes rises ∙ ap (λ (ws : List Written). ws ++ later_than at i.writes) none in
    let same : new ≡ base_bytes r i = e ∙ ap (λ (ws : List Written). over (base_bytes r i) (map (λ w. w.write) ws)) none in
    (ap (λ (b : List ℕ). over b (map (λ w. w.write) (later_than at i.writes))) same ∙ ap (λ (ws : List Written). over (base_bytes r i) (map (λ w. w.write) ws)) (sym all), ap (λ (b : List ℕ). laid i.held b) same)

right_of : (r : Held) (n : Usn) (item : ItemId) (items : List Item) → All (IsRight r n) items → Each item (IsRight r n) items
right_of r n item items h = each_all item (IsRight r n) (IsRight r n) (λ i k. k) items h

-- each Rebase that the machine makes
pub rebase_leaves : (r : Held) (x : Filter) (item : ItemId) (identity : List ℕ) (len : ℕ) (at n : Usn) → Meets r x (change.Rebase item identity len at) → All (IsRight r n) x.volume.items
    → Each item (λ i. i.directory ≡ false → StaysBy (base_bytes r i) (base_named r identity) (later_than at i.writes) i) x.volume.items
rebase_leaves r x item identity len at n fit right = by fit.1 where
  by : (((at ≡ no_usn) × Each item (λ i. SameBase identity i.identity) x.volume.items)
      ⊎ (NoEntry x.volume.book.entries item × Each item (λ i. i.directory ≡ false → ((list_all is_some i.held ≡ true) ⊎ (up_to at i.writes ≡ [])) × (base_named r identity ≡ put_bytes (base_bytes r i) at i.writes)) x.volume.items))
      → Each item (λ i. i.directory ≡ false → StaysBy (base_bytes r i) (base_named r identity) (later_than at i.writes) i) x.volume.items
  by (inl k) =
      each_both item (λ i. SameBase identity i.identity) (IsRight r n) (λ i. i.directory ≡ false → StaysBy (base_bytes r i) (base_named r identity) (later_than at i.writes) i)
      (λ i same old d. rebased_stays r identity at i k.0 same n old) x.volume.items k.1 (right_of r n item x.volume.items right)
  by (inr k) =
      each_both item (λ i. i.directory ≡ false → ((list_all is_some i.held ≡ true) ⊎ (up_to at i.writes ≡ [])) × (base_named r identity ≡ put_bytes (base_bytes r i) at i.writes)) (IsRight r n) (λ i. i.directory ≡ false → StaysBy (base_bytes r i) (base_named r identity) (later_than at i.writes) i)
      (λ i c old d. done_stays r (base_named r identity) at i old.rises (c d).0 (c d).1) x.volume.items k.1 (right_of r n item x.volume.items right)

-- and the version has the bytes of the base under the writes that go
pub rebase_takes_in : (r : Held) (x : Filter) (item : ItemId) (identity : List ℕ) (len : ℕ) (at n : Usn) → Meets r x (change.Rebase item identity len at) → All (IsRight r n) x.volume.items
    → Each item (λ i. i.directory ≡ false → base_named r identity ≡ put_bytes (base_bytes r i) at i.writes) x.volume.items
rebase_takes_in r x item identity len at n fit right = by fit.1 where
  same : (i : Item) → SameBase identity i.identity → (at ≡ no_usn) → IsRight r n i → base_named r identity ≡ put_bytes (base_bytes r i) at i.writes
  same i k zero old =
      let none : up_to at i.writes ≡ [] = ap (λ (a : Usn). up_to a i.writes) zero ∙ (later-all no_usn no_usn i.writes refl old.rises).1 in
      same_named r identity i.identity k ∙ sym (ap (λ (ws : List Written). over (base_bytes r i) (map (λ w. w.write) ws)) none)

  by : (((at ≡ no_usn) × Each item (λ i. SameBase identity i.identity) x.volume.items)
      ⊎ (NoEntry x.volume.book.entries item × Each item (λ i. i.directory ≡ false → ((list_all is_some i.held ≡ true) ⊎ (up_to at i.writes ≡ [])) × (base_named r identity ≡ put_bytes (base_bytes r i) at i.writes)) x.volume.items))
      → Each item (λ i. i.directory ≡ false → base_named r identity ≡ put_bytes (base_bytes r i) at i.writes) x.volume.items
  by (inl k) = each_both item (λ i. SameBase identity i.identity) (IsRight r n) (λ i. i.directory ≡ false → base_named r identity ≡ put_bytes (base_bytes r i) at i.writes) (λ i q old d. same i q k.0 old) x.volume.items k.1 (right_of r n item x.volume.items right)
  by (inr k) = each_weaker item _ (λ i. i.directory ≡ false → base_named r identity ≡ put_bytes (base_bytes r i) at i.writes) (λ i c d. (c d).1) x.volume.items k.1

copies_true : (r : Held) (id parent : ItemId) (name : List ℕ) (pin : Pin) (n : Usn) (o : Option Item) → ((i : Item) → o ≡ Some i → True r i) → AreTrueTo r (copies id parent name pin n o)
copies_true r id parent name pin n None h = tt
copies_true r id parent name pin n (Some i) h = (λ d. copied-true r id parent name pin n i (h i refl d), tt)

pub effect_contents : (r : Held) (x : Filter) (c : Change) (n : Usn) → Meets r x c → All (IsRight r n) x.volume.items → AreTrueTo r x.volume.items → AreTrueTo r (effect x.volume.items c n)
effect_contents r x (change.Make item parent name k size identity) n fit right h = all_append (True r) x.volume.items _ h (λ d. made-true r item parent name k size identity (pin_of x.volume.items parent) n fit.1, tt)
effect_contents r x (change.Remove item) n fit right h = all_filter (True r) _ x.volume.items h
effect_contents r x (change.Move item parent name) n fit right h = plainly r item (moved parent name (pin_of x.volume.items parent) n) (λ i k. k) x.volume.items h
effect_contents r x (change.Write item at bytes) n fit right h = plainly r item (wrote at bytes n) (λ i k d. wrote-true r at bytes n i (k d)) x.volume.items h
effect_contents r x (change.Size item size) n fit right h = plainly r item (sized size n) (λ i k d. sized-true r size n i (k d)) x.volume.items h
effect_contents r x (change.Filled item start bytes) n fit right h = with_each r item (got start bytes) _ (λ i is k d. got-true r start bytes i is (k d)) x.volume.items fit h
effect_contents r x (change.Validated item start len) n fit right h = plainly r item (validated_in start len) (λ i k. k) x.volume.items h
effect_contents r x (change.Emptied item start len) n fit right h =
    with_each r item (left_out start len) (λ i. i.writes ≡ []) (λ i is k d. left_out-true r start len i is (k d)) x.volume.items
    (each_both item (λ i. i.in_sync ≡ true) (IsRight r n) (λ i. i.writes ≡ []) (λ i s k. k.clean s) x.volume.items fit (right_of r n item x.volume.items right)) h
effect_contents r x (change.SetPin item pin) n fit right h = plainly r item (pinned pin) (λ i k. k) x.volume.items h
effect_contents r x (change.Mark item number) n fit right h = with_each r item marked _ (λ i is k d. marked-true r i is.0 (k d)) x.volume.items fit h
effect_contents r x (change.Clear item) n fit right h = plainly r item unmarked (λ i k. k) x.volume.items h
effect_contents r x (change.Convert item identity) n fit right h = with_each r item (converted identity n) _ (λ i same k d. converted-true r identity n i (same_named r identity i.identity same) (k d)) x.volume.items fit.0 h
effect_contents r x (change.Revert item) n fit right h = elim fit as (λ _. AreTrueTo r (effect x.volume.items (change.Revert item) n)) [ ]
effect_contents r x (change.Rebase item identity len at) n fit right h =
    with_each r item (rebased identity len at) (λ i. i.directory ≡ false → StaysBy (base_bytes r i) (base_named r identity) (later_than at i.writes) i) (λ i is g d. rebased-true r identity len at i (is d) (g d)) x.volume.items (rebase_leaves r x item identity len at n fit right) h
effect_contents r x (change.Take item identity size) n fit right h = with_each r item (took identity size n) _ (λ i is k d. took-true r identity size n i is.0 (k d)) x.volume.items fit.0 h
effect_contents r x (change.Copy item from parent name) n fit right h =
    all_append (True r) x.volume.items _ h (copies_true r item parent name (pin_of x.volume.items parent) n (item_of x.volume.items from) (λ i e. (all_found (True r) _ x.volume.items i e h).0))
effect_contents r x (change.Populated item) n fit right h = plainly r item populated (λ i k. k) x.volume.items h
effect_contents r x (change.Keep item on) n fit right h = plainly r item (kept on) (λ i k. k) x.volume.items h
