-- A directory has neither bytes nor writes.
use Rattle.std.proofs.Common.{◌≡◌, ℕ, zero, suc, true, false, List, [], ◌∷◌, ◌++◌, refl, sym, ◌∙◌, ap, subst, inl, inr, append-nil, length}
use Rattle.std.specs.Prelude.{Option, Some, None, replicate, unwrap_or}
use Rattle.cf_base.specs.declared.changes.Change.{Change}
use Rattle.cf_base.specs.declared.changes.Change.TheVariants as change
use Rattle.cf_base.specs.declared.ids.ItemId.{ItemId}
use Rattle.cf_base.specs.declared.ids.Usn.{Usn}
use Rattle.cf_base.specs.declared.items.Kind.{Kind}
use Rattle.cf_base.specs.declared.items.Kind.TheVariants as kind
use Rattle.cf_base.specs.declared.items.Pin.{Pin}
use Rattle.cf_model.specs.Contents.{base_named}
use Rattle.cf_model.specs.Effects.{changed, copied, copies, effect, emptied, filled, filled_front, is_directory, later_than, leaves_at, made, size_made, took, writes_made}
use Rattle.cf_model.specs.Items.{Item, item_of, pin_of}
use Rattle.cf_model.specs.Overlay.{Written}
use Rattle.cf_model.specs.Soundness.{Each}
use Rattle.cf_model.specs.State.{Filter}
use Rattle.cf_model.specs.Store.{Held, stored_at, version_bytes}
use Rattle.cf_model.proofs.ContentItems.{no-version}
use Rattle.cf_model_laws.specs.Fitting.{Fits, NamesWell}
use Rattle.cf_model_laws.specs.Invariant.{All, HasNone, InOrder, rid_in}
use Rattle.cf_model_laws.specs.Seats.{IsOpenOn, IsSeated}
use Rattle.cf_model_laws.proofs.FitItems.{all_changed}
use Rattle.cf_model_laws.proofs.Gathered.{all_append, all_filter, each_any}
use Rattle.cf_model_laws.proofs.PushRepliesGuarded.{each_at}
use Rattle.cf_model_laws.proofs.RightItems.{no_way}
use Rattle.cf_model_laws.proofs.SoundSettles.{each_found}
use Rattle.cf_model_convergence.specs.Trees.{AreBare}

abbrev pub IsBare : Item → Type 0
IsBare i = i.directory ≡ true → (i.held ≡ []) × (i.writes ≡ [])

bare_when : (item : ItemId) (f : Item → Item) (C : Item → Type 0) → ((i : Item) → C i → IsBare i → IsBare (f i)) → (items : List Item) → Each item C items → All IsBare items → All IsBare (changed item f items)
bare_when item f C k items c h = all_changed item f C IsBare IsBare k (λ i z. z) items c h

bare_plain : (item : ItemId) (f : Item → Item) → ((i : Item) → IsBare i → IsBare (f i)) → (items : List Item) → All IsBare items → All IsBare (changed item f items)
bare_plain item f k items h = bare_when item f (λ i. Unit {0}) (λ i _ z. k i z) items (each_any item (λ i. Unit {0}) (λ i. tt) items) h

front_none : (bytes : List ℕ) → filled_front bytes [] ≡ []
front_none [] = refl
front_none (b ∷ bs) = refl

filled_none : (start : ℕ) (bytes : List ℕ) → filled start bytes [] ≡ []
filled_none zero bytes = front_none bytes
filled_none (suc n) bytes = front_none bytes

made_bare : (k : Kind) (size : ℕ) (n : Usn) → is_directory k ≡ true → (◌≡◌ {A = List (Option ℕ)} (replicate (size_made k size) None) []) × (writes_made k n ≡ [])
made_bare kind.File size n e = no_way e
made_bare kind.Dir size n e = (refl, refl)
made_bare kind.PlaceholderFile size n e = no_way e
made_bare kind.PlaceholderDir size n e = (refl, refl)
made_bare kind.UnpopulatedDir size n e = (refl, refl)

copied_bare : (item parent : ItemId) (name : List ℕ) (pin : Pin) (n : Usn) (items : List Item) (o : Option Item) → ((i : Item) → o ≡ Some i → i.directory ≡ false) → All IsBare items → All IsBare (items ++ copies item parent name pin n o)
copied_bare item parent name pin n items None file h = subst (All IsBare) (sym (append-nil items)) h
copied_bare item parent name pin n items (Some i) file h = all_append IsBare items (copied item parent name pin n i ∷ []) h ((λ d. no_way (sym (file i refl) ∙ d)), tt)

-- an identity that names no version has no bytes
no_bytes : (r : Held) (identity : List ℕ) → HasNone identity → base_named r identity ≡ []
no_bytes r identity none =
    ap (λ (v : ℕ). unwrap_or (version_bytes (stored_at r.items (rid_in identity)) v) []) none.1
    ∙ ap (λ (b : Option (List ℕ)). unwrap_or b []) (no-version (stored_at r.items (rid_in identity)))

taken_bare : (r : Held) (identity : List ℕ) (size : ℕ) (n : Usn) (i : Item) → (length (base_named r identity) ≡ size) × NamesWell r i.directory i.placeholder identity → IsBare (took identity size n i)
taken_bare r identity size n i fit d =
    (subst (λ (m : ℕ). ◌≡◌ {A = List (Option ℕ)} (replicate m None) []) (ap (λ (bs : List ℕ). length bs) (sym (no_bytes r identity (fit.1.bare d))) ∙ fit.0) refl, refl)

file_at : (x : Filter) (item : ItemId) → InOrder 0 x.volume.next_item.0 x.volume.items → IsSeated x.volume.items item false → Each item (λ i. i.directory ≡ false) x.volume.items
file_at x item order (inl h) = each_found item (λ i. i.directory ≡ false) 0 x.volume.next_item.0 x.volume.items h.0 order h.1 h.2
file_at x item order (inr h) = no_way h.1

pub effect_bare : (r : Held) (x : Filter) (c : Change) (n : Usn) → InOrder 0 x.volume.next_item.0 x.volume.items → ((item : ItemId) → IsOpenOn x item → IsSeated x.volume.items item false) → Fits r x c → AreBare x.volume.items → AreBare (effect x.volume.items c n)
effect_bare r x (change.Make item parent name kind size identity) n order used fit h = all_append IsBare x.volume.items (made item parent name kind size identity (pin_of x.volume.items parent) n ∷ []) h (made_bare kind size n, tt)
effect_bare r x (change.Remove item) n order used fit h = all_filter IsBare _ x.volume.items h
effect_bare r x (change.Move item parent name) n order used fit h = bare_plain item _ (λ i z. z) x.volume.items h
effect_bare r x (change.Write item at bytes) n order used fit h = bare_when item _ (λ i. i.directory ≡ false) (λ i file z d. no_way (sym file ∙ d)) x.volume.items (file_at x item order (used item fit)) h
effect_bare r x (change.Size item size) n order used fit h = bare_when item _ (λ i. i.directory ≡ false) (λ i file z d. no_way (sym file ∙ d)) x.volume.items (file_at x item order (used item fit)) h
effect_bare r x (change.Filled item start bytes) n order used fit h = bare_plain item _ (λ i z d. (ap (λ (hs : List (Option ℕ)). filled start bytes hs) (z d).0 ∙ filled_none start bytes, (z d).1)) x.volume.items h
effect_bare r x (change.Validated item start len) n order used fit h = bare_plain item _ (λ i z. z) x.volume.items h
effect_bare r x (change.Emptied item start len) n order used fit h = bare_plain item _ (λ i z d. (ap (λ (hs : List (Option ℕ)). emptied (leaves_at start len i.writes) hs) (z d).0, (z d).1)) x.volume.items h
effect_bare r x (change.SetPin item pin) n order used fit h = bare_plain item _ (λ i z. z) x.volume.items h
effect_bare r x (change.Mark item number) n order used fit h = bare_plain item _ (λ i z d. ((z d).0, refl)) x.volume.items h
effect_bare r x (change.Clear item) n order used fit h = bare_plain item _ (λ i z. z) x.volume.items h
effect_bare r x (change.Convert item identity) n order used fit h = bare_plain item _ (λ i z. z) x.volume.items h
effect_bare r x (change.Revert item) n order used fit h = elim fit as (λ _. AreBare (effect x.volume.items (change.Revert item) n)) [ ]
effect_bare r x (change.Rebase item identity len at) n order used fit h = bare_plain item _ (λ i z d. ((z d).0, ap (λ (ws : List Written). later_than at ws) (z d).1)) x.volume.items h
effect_bare r x (change.Take item identity size) n order used fit h = bare_when item _ (λ i. (length (base_named r identity) ≡ size) × NamesWell r i.directory i.placeholder identity) (λ i k z. taken_bare r identity size n i k) x.volume.items fit.0.0 h
effect_bare r x (change.Copy item from parent name) n order used fit h =
    copied_bare item parent name (pin_of x.volume.items parent) n x.volume.items (item_of x.volume.items from) (λ i e. (each_at from (λ j. (j.parent.0 ≡ parent.0) × (j.directory ≡ false)) x.volume.items i e fit.1).1) h
effect_bare r x (change.Populated item) n order used fit h = bare_plain item _ (λ i z. z) x.volume.items h
effect_bare r x (change.Keep item on) n order used fit h = bare_plain item _ (λ i z. z) x.volume.items h
