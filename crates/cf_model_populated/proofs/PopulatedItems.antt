-- What a change makes of directories that are populated.
use Rattle.std.proofs.Common.{◌≡◌, ℕ, true, false, List, [], ◌∷◌, ◌++◌, refl, sym, ◌∙◌, subst}
use Rattle.std.specs.Prelude.{Option, Some, None}
use Rattle.std.proofs.lemmas.List.{append-nil}
use Rattle.cf_base.specs.declared.changes.Change.{Change}
use Rattle.cf_base.specs.declared.changes.Change.TheVariants as change
use Rattle.cf_base.specs.declared.ids.ItemId.{ItemId}
use Rattle.cf_base.specs.declared.ids.Usn.{Usn}
use Rattle.cf_base.specs.declared.items.Kind.{Kind}
use Rattle.cf_base.specs.declared.items.Kind.TheVariants as kind
use Rattle.cf_base.specs.declared.items.Pin.{Pin}
use Rattle.cf_base.specs.declared.policies.Policy.{Policy}
use Rattle.cf_model.specs.Effects.{changed, copied, copies, effect, is_directory, is_populated, made}
use Rattle.cf_model.specs.Items.{Item, item_of, pin_of}
use Rattle.cf_model.specs.Plans.{is_full_population}
use Rattle.cf_model.specs.State.{Filter}
use Rattle.cf_model.specs.Store.{Held}
use Rattle.cf_model_laws.specs.Fitting.{Fits, Populates}
use Rattle.cf_model_laws.specs.Invariant.{All}
use Rattle.cf_model_laws.proofs.FitItems.{all_changed}
use Rattle.cf_model_laws.proofs.Gathered.{all_append, all_filter, each_any}
use Rattle.cf_model_laws.proofs.PushRepliesGuarded.{each_at}
use Rattle.cf_model_laws.proofs.RightItems.{no_way}
use Rattle.cf_model_populated.specs.Populated.{IsPopulated}

made_populated : (p : Policy) (k : Kind) → is_full_population p.population ≡ false → Populates p k → is_directory k ≡ true → is_populated k ≡ true
made_populated p kind.File partial fit e = no_way e
made_populated p kind.Dir partial fit e = refl
made_populated p kind.PlaceholderFile partial fit e = no_way e
made_populated p kind.PlaceholderDir partial fit e = refl
made_populated p kind.UnpopulatedDir partial fit e = no_way (sym partial ∙ fit)

still : (item : ItemId) (f : Item → Item) → ((i : Item) → IsPopulated i → IsPopulated (f i)) → (items : List Item) → All IsPopulated items → All IsPopulated (changed item f items)
still item f k items h = all_changed item f (λ i. Unit {0}) IsPopulated IsPopulated (λ i _ z. k i z) (λ i z. z) items (each_any item (λ i. Unit {0}) (λ i. tt) items) h

-- a copy is a file
copies_populated : (item parent : ItemId) (name : List ℕ) (pin : Pin) (n : Usn) (items : List Item) (o : Option Item) → ((i : Item) → o ≡ Some i → i.directory ≡ false) → All IsPopulated items → All IsPopulated (items ++ copies item parent name pin n o)
copies_populated item parent name pin n items None file h = subst (All IsPopulated) (sym (append-nil items)) h
copies_populated item parent name pin n items (Some i) file h = all_append IsPopulated items (copied item parent name pin n i ∷ []) h ((λ d. no_way (sym (file i refl) ∙ d)), tt)

pub effect_populated : (r : Held) (x : Filter) (c : Change) (n : Usn) → is_full_population x.policy.population ≡ false → Fits r x c → All IsPopulated x.volume.items → All IsPopulated (effect x.volume.items c n)
effect_populated r x (change.Make item parent name k size identity) n partial fit h = all_append IsPopulated x.volume.items (made item parent name k size identity (pin_of x.volume.items parent) n ∷ []) h (made_populated x.policy k partial fit.3, tt)
effect_populated r x (change.Remove item) n partial fit h = all_filter IsPopulated _ x.volume.items h
effect_populated r x (change.Move item parent name) n partial fit h = still item _ (λ i z. z) x.volume.items h
effect_populated r x (change.Write item at bytes) n partial fit h = still item _ (λ i z. z) x.volume.items h
effect_populated r x (change.Size item size) n partial fit h = still item _ (λ i z. z) x.volume.items h
effect_populated r x (change.Filled item start bytes) n partial fit h = still item _ (λ i z. z) x.volume.items h
effect_populated r x (change.Validated item start len) n partial fit h = still item _ (λ i z. z) x.volume.items h
effect_populated r x (change.Emptied item start len) n partial fit h = still item _ (λ i z. z) x.volume.items h
effect_populated r x (change.SetPin item pin) n partial fit h = still item _ (λ i z. z) x.volume.items h
effect_populated r x (change.Mark item number) n partial fit h = still item _ (λ i z. z) x.volume.items h
effect_populated r x (change.Clear item) n partial fit h = still item _ (λ i z. z) x.volume.items h
effect_populated r x (change.Convert item identity) n partial fit h = still item _ (λ i z. z) x.volume.items h
effect_populated r x (change.Revert item) n partial fit h = absurd fit
effect_populated r x (change.Rebase item identity len at) n partial fit h = still item _ (λ i z. z) x.volume.items h
effect_populated r x (change.Take item identity size) n partial fit h = still item _ (λ i z. z) x.volume.items h
effect_populated r x (change.Copy item from parent name) n partial fit h =
    copies_populated item parent name (pin_of x.volume.items parent) n x.volume.items (item_of x.volume.items from) (λ i e. (each_at from (λ j. (j.parent.0 ≡ parent.0) × (j.directory ≡ false)) x.volume.items i e fit.1).1) h
effect_populated r x (change.Populated item) n partial fit h = still item _ (λ i z d. refl) x.volume.items h
effect_populated r x (change.Keep item on) n partial fit h = still item _ (λ i z. z) x.volume.items h
