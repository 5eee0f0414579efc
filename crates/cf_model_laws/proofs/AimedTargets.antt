-- Which item of the remote an item here is: no two are one, and an upload names the item's.
use Rattle.std.proofs.Common.{◌≡◌, ◌⊎◌, ◌<◌, ◌≤◌, ℕ, Bool, true, false, List, [], ◌∷◌, ◌++◌, refl, sym, ◌∙◌, ap, inl, inr, arith, length}
use Rattle.std.specs.Prelude.{Option, Some, None, cond, find, nat_lt, ◌&&◌, ◌==◌}
use Rattle.std.proofs.lemmas.Bool.{eqb-true}
use Rattle.std.proofs.lemmas.Bool.Decides.{nat_tests}
use Rattle.cf_base.specs.declared.changes.Change.{Change}
use Rattle.cf_base.specs.declared.changes.Change.TheVariants as change
use Rattle.cf_base.specs.declared.ids.ItemId.{ItemId}
use Rattle.cf_base.specs.declared.ids.Rid.{Rid}
use Rattle.cf_base.specs.declared.ids.Usn.{Usn}
use Rattle.cf_base.specs.declared.items.Pin.{Pin}
use Rattle.cf_base.specs.declared.messages.Entry.{Entry}
use Rattle.cf_model.specs.Books.{QueueEntry}
use Rattle.cf_model.specs.Effects.{changed, converted, copies, effect}
use Rattle.cf_model.specs.Given.{named_by}
use Rattle.cf_model.specs.Identities.{by_target, entry_identity, has_target, no_identity, target_of}
use Rattle.cf_model.specs.Items.{Item, item_of}
use Rattle.cf_model.specs.Numbers.{root_rid}
use Rattle.cf_model.specs.Soundness.{Each}
use Rattle.cf_model.specs.State.{Filter}
use Rattle.cf_model.specs.Store.{Held}
use Rattle.cf_model_laws.specs.Fitting.{Aims, IsUnaimed, Meets, NoEntry}
use Rattle.cf_model_laws.specs.Invariant.{All, AreMadeNew, IsEntryOf, IsUnmade, Made, NamesTarget, target_in}
use Rattle.cf_model_laws.proofs.FitEntries.{apart_each, member_no, new_apart, three}
use Rattle.cf_model_laws.proofs.FitItems.{all_changed, each_append, each_changed, each_filter}
use Rattle.cf_model_laws.proofs.Gathered.{all_any, all_found, all_weaker, each_any}

-- of one item

abbrev pub HasTarget : ℕ → Item → Type 0
HasTarget t i = (target_of i).0 ≡ t

-- the target after a change of the identity; the root's stays
pub retargeted : (b : Bool) (old new : Rid) (t : ℕ) → (cond b root_rid old).0 ≡ new.0 → (cond b root_rid old).0 ≡ t → (cond b root_rid new).0 ≡ t
retargeted true old new t a k = k
retargeted false old new t a k = sym a ∙ k

-- an item with no target comes to have one
pub newly_aimed : (b : Bool) (old new : Rid) → (cond b root_rid old).0 ≡ 0 → (cond b root_rid new).0 ≡ new.0
newly_aimed true old new h = absurd (never h) where
  never : ◌≡◌ {A = ℕ} 1 0 → ⊥
  never z = omega (arith, z)
newly_aimed false old new h = refl

-- an item below the root has the target that its identity names
pub below_root : (id : ℕ) (rid : Rid) → 2 ≤ id → cond (id == 1) root_rid rid ≡ rid
below_root id rid h = by (id == 1) refl where
  apart : (n : ℕ) → 2 ≤ n → n ≡ 1 → ⊥
  apart n a b = omega (arith, a, b)

  by : (b : Bool) → (id == 1) ≡ b → cond b root_rid rid ≡ rid
  by true q = absurd (apart id h (eqb-true id 1 q))
  by false q = refl

-- what a change leaves of the target of an item with an upload on its way

abbrev Any : Item → Type 0
Any i = Unit {0}

same_at : (at : ItemId) (t : ℕ) (id : ItemId) (f : Item → Item) → ((i : Item) → (f i).id ≡ i.id) → ((i : Item) → target_of (f i) ≡ target_of i) → (items : List Item) → Each at (HasTarget t) items → Each at (HasTarget t) (changed id f items)
same_at at t id f same like items h = each_changed at id f Any (HasTarget t) (HasTarget t) same (λ i _ k. ap (λ (r : Rid). r.0) (like i) ∙ k) (λ i k. k) items (each_any id Any (λ i. tt) items) h

-- it gets the target that it has
again_at : (at : ItemId) (t : ℕ) (id : ItemId) (f : Item → Item) (new : List ℕ) → ((i : Item) → (f i).id ≡ i.id) → ((i : Item) → target_of (f i) ≡ cond (i.id.0 == 1) root_rid (target_in new)) → (items : List Item)
    → Each id (λ i. (target_of i).0 ≡ (target_in new).0) items → Each at (HasTarget t) items → Each at (HasTarget t) (changed id f items)
again_at at t id f new same gives items c h =
    each_changed at id f (λ i. (target_of i).0 ≡ (target_in new).0) (HasTarget t) (HasTarget t) same
    (λ i a k. ap (λ (r : Rid). r.0) (gives i) ∙ retargeted (i.id.0 == 1) (target_in i.identity) (target_in new) t a k) (λ i k. k) items c h

alone_at : (es : List QueueEntry) (at : ItemId) (t : ℕ) (id : ItemId) (f : Item → Item) (new : List ℕ) → ((i : Item) → (f i).id ≡ i.id) → ((i : Item) → target_of (f i) ≡ cond (i.id.0 == 1) root_rid (target_in new)) → (items : List Item)
    → (NoEntry es id → at.0 ≡ id.0 → ⊥) → Each id (λ i. (target_of i).0 ≡ (target_in new).0) items ⊎ (NoEntry es id × IsUnaimed items (target_in new)) → Each at (HasTarget t) items → Each at (HasTarget t) (changed id f items)
alone_at es at t id f new same gives items free (inl c) h = again_at at t id f new same gives items c h
alone_at es at t id f new same gives items free (inr k) h = apart_each id f at (HasTarget t) same (free k.0) items h

-- beside a copy
pub each_copied : (at : ItemId) (Q : Item → Type 0) (new parent : ItemId) (name : List ℕ) (pin : Pin) (n : Usn) (o : Option Item) (items : List Item) (next : ℕ) → new.0 ≡ next → at.0 < next → Each at Q items → Each at Q (items ++ copies new parent name pin n o)
each_copied at Q new parent name pin n None items next e below h = nothing items h where
  nothing : (items : List Item) → Each at Q items → Each at Q (items ++ [])
  nothing [] k = tt
  nothing (i ∷ is) k = (k.0, nothing is k.1)
each_copied at Q new parent name pin n (Some i) items next e below h = each_append at Q items _ h (λ z. absurd (new_apart new.0 at.0 next e below z))

target_kept : (r : Held) (x : Filter) (c : Change) (n : Usn) (at : ItemId) (t : ℕ) → at.0 < x.volume.next_item.0 → (NoEntry x.volume.book.entries (named_by c) → at.0 ≡ (named_by c).0 → ⊥) → Meets r x c → Aims r x c
    → Each at (HasTarget t) x.volume.items → Each at (HasTarget t) (effect x.volume.items c n)
target_kept r x (change.Make item parent name kind size identity) n at t below free fit aims h = each_append at (HasTarget t) x.volume.items _ h (λ z. absurd (new_apart item.0 at.0 x.volume.next_item.0 fit.0 below z))
target_kept r x (change.Remove item) n at t below free fit aims h = each_filter at (HasTarget t) _ x.volume.items h
target_kept r x (change.Move item parent name) n at t below free fit aims h = same_at at t item _ (λ i. refl) (λ i. refl) x.volume.items h
target_kept r x (change.Write item off bytes) n at t below free fit aims h = same_at at t item _ (λ i. refl) (λ i. refl) x.volume.items h
target_kept r x (change.Size item size) n at t below free fit aims h = same_at at t item _ (λ i. refl) (λ i. refl) x.volume.items h
target_kept r x (change.Filled item start bytes) n at t below free fit aims h = same_at at t item _ (λ i. refl) (λ i. refl) x.volume.items h
target_kept r x (change.Validated item start len) n at t below free fit aims h = same_at at t item _ (λ i. refl) (λ i. refl) x.volume.items h
target_kept r x (change.Emptied item start len) n at t below free fit aims h = same_at at t item _ (λ i. refl) (λ i. refl) x.volume.items h
target_kept r x (change.SetPin item pin) n at t below free fit aims h = same_at at t item _ (λ i. refl) (λ i. refl) x.volume.items h
target_kept r x (change.Mark item number) n at t below free fit aims h = same_at at t item _ (λ i. refl) (λ i. refl) x.volume.items h
target_kept r x (change.Clear item) n at t below free fit aims h = same_at at t item _ (λ i. refl) (λ i. refl) x.volume.items h
target_kept r x (change.Convert item identity) n at t below free fit aims h =
    again_at at t item _ identity (λ i. refl) (λ i. refl) x.volume.items (each_weaker_none item identity fit.1 x.volume.items aims) h where
      each_weaker_none : (id : ItemId) (new : List ℕ) → (target_in new).0 ≡ 0 → (items : List Item) → Each id (HasTarget 0) items → Each id (λ i. (target_of i).0 ≡ (target_in new).0) items
      each_weaker_none id new e [] k = tt
      each_weaker_none id new e (i ∷ is) k = (λ z. k.0 z ∙ sym e, each_weaker_none id new e is k.1)
target_kept r x (change.Revert item) n at t below free fit aims h = elim fit as (λ _. Each at (HasTarget t) (effect x.volume.items (change.Revert item) n)) [ ]
target_kept r x (change.Rebase item identity len number) n at t below free fit aims h = alone_at x.volume.book.entries at t item _ identity (λ i. refl) (λ i. refl) x.volume.items free aims.1 h
target_kept r x (change.Take item identity size) n at t below free fit aims h = alone_at x.volume.book.entries at t item _ identity (λ i. refl) (λ i. refl) x.volume.items free aims.1 h
target_kept r x (change.Copy item from parent name) n at t below free fit aims h = each_copied at (HasTarget t) item parent name _ n (item_of x.volume.items from) x.volume.items x.volume.next_item.0 fit below h
target_kept r x (change.Populated item) n at t below free fit aims h = same_at at t item _ (λ i. refl) (λ i. refl) x.volume.items h
target_kept r x (change.Keep item on) n at t below free fit aims h = same_at at t item _ (λ i. refl) (λ i. refl) x.volume.items h

pub targets_effect : (r : Held) (x : Filter) (c : Change) (n : Usn) (epoch tokens : ℕ) → Meets r x c → Aims r x c → All (IsEntryOf n x.volume.next_item.0 epoch tokens) x.volume.book.entries
    → All (NamesTarget x.volume.items) x.volume.book.entries → All (NamesTarget (effect x.volume.items c n)) x.volume.book.entries
targets_effect r x c n epoch tokens fit aims given h =
    three (IsEntryOf n x.volume.next_item.0 epoch tokens) (λ e. NoEntry x.volume.book.entries (named_by c) → e.item.0 ≡ (named_by c).0 → ⊥) (NamesTarget x.volume.items) (NamesTarget (effect x.volume.items c n))
    (λ e g free k other. target_kept r x c n e.item e.rid.0 g.item free fit aims (k other))
    x.volume.book.entries given (member_no (named_by c) x.volume.book.entries x.volume.book.entries (λ n. n)) h

-- no item has the target

pub unaimed_none : (items : List Item) (rid : Rid) → rid.0 ≡ 0 → IsUnaimed items rid
unaimed_none items rid e = all_any (λ i. (target_of i).0 ≡ rid.0 → rid.0 ≡ 0) (λ i k. e) items

-- what a look-up by target does not find
pub unaimed_unfound : (items : List Item) (rid : Rid) → by_target items rid ≡ None → IsUnaimed items rid
unaimed_unfound [] rid e = tt
unaimed_unfound (i ∷ is) rid e = by (has_target i rid) refl e (unaimed_unfound is rid) where
  zero : (a b : ℕ) → (nat_lt 0 b && (a == b)) ≡ false → a ≡ b → b ≡ 0
  zero a b q z = grind (arith, nat_tests, q, z)

  found : ◌≡◌ {A = Option Item} (Some i) None → IsUnaimed (i ∷ is) rid
  found z = cc

  by : (b : Bool) → has_target i rid ≡ b → cond b (Some i) (by_target is rid) ≡ None → (by_target is rid ≡ None → IsUnaimed is rid) → IsUnaimed (i ∷ is) rid
  by true q e g = found e
  by false q e g = (λ z. zero (target_of i).0 rid.0 q z, g e)

-- and one more item with another
pub unaimed_more : (items : List Item) (x : Item) (rid : Rid) → ((target_of x).0 ≡ rid.0 → rid.0 ≡ 0) → IsUnaimed items rid → IsUnaimed (items ++ x ∷ []) rid
unaimed_more [] x rid k h = (k, tt)
unaimed_more (i ∷ is) x rid k h = (h.0, unaimed_more is x rid k h.1)

pub unaimed_kept : (rid : Rid) (id : ItemId) (f : Item → Item) (items : List Item) → Each id (λ i. (target_of (f i)).0 ≡ (target_of i).0) items → IsUnaimed items rid → IsUnaimed (changed id f items) rid
unaimed_kept rid id f items c h = all_changed id f (λ i. (target_of (f i)).0 ≡ (target_of i).0) (λ i. (target_of i).0 ≡ rid.0 → rid.0 ≡ 0) (λ i. (target_of i).0 ≡ rid.0 → rid.0 ≡ 0) (λ i same k z. k (sym same ∙ z)) (λ i k. k) items c h

pub unaimed_still : (rid : Rid) (id : ItemId) (f : Item → Item) (items : List Item) → ((i : Item) → target_of (f i) ≡ target_of i) → IsUnaimed items rid → IsUnaimed (changed id f items) rid
unaimed_still rid id f items like h = unaimed_kept rid id f items (each_any id (λ i. (target_of (f i)).0 ≡ (target_of i).0) (λ i. ap (λ (r : Rid). r.0) (like i)) items) h

-- an item with no target gets none
pub converted_target : (n : Usn) (i : Item) → (target_of i).0 ≡ 0 → (target_of (converted no_identity n i)).0 ≡ (target_of i).0
converted_target n i e = retargeted (i.id.0 == 1) (target_in i.identity) (target_in no_identity) (target_of i).0 e refl

-- what the remote made for an upload on its way
pub unaimed_made : (r : Held) (items : List Item) (p : QueueEntry → Bool) (es : List QueueEntry) (e : QueueEntry) (rid : Rid) → find p es ≡ Some e → Made r e rid → AreMadeNew r items es → IsUnaimed items rid
unaimed_made r items p es e rid found m h = all_weaker (λ i. IsUnmade r es (target_in i.identity)) (λ i. (target_of i).0 ≡ rid.0 → rid.0 ≡ 0) one items h.unknown where
  below : 1 < rid.0
  below = ((all_found (λ q. (new : Rid) → Made r q new → (1 < new.0) × (new.0 ≤ length r.items)) p es e found h.there).0 rid m).0

  root : (n : ℕ) → 1 < n → 1 ≡ n → n ≡ 0
  root n a b = omega (arith, a, b)

  one : (i : Item) → IsUnmade r es (target_in i.identity) → (target_of i).0 ≡ rid.0 → rid.0 ≡ 0
  one i k z = by (i.id.0 == 1) z where
    by : (b : Bool) → (cond b root_rid (target_in i.identity)).0 ≡ rid.0 → rid.0 ≡ 0
    by true z = root rid.0 below z
    by false z = absurd ((all_found (λ q. (new : Rid) → Made r q new → new.0 ≡ (target_in i.identity).0 → ⊥) p es e found k).0 rid m (sym z))

-- the entries of a listing

abbrev pub named_in : Entry → Rid
named_in e = target_in (entry_identity e)

-- no item here is one of them, and no two are one
abbrev pub AreOthers : List Item → List Entry → Type 0
AreOthers items [] = Unit {0}
AreOthers items (e ∷ es) = IsUnaimed items (named_in e) × All (λ d. (named_in e).0 ≡ (named_in d).0 → (named_in d).0 ≡ 0) es × AreOthers items es

pub others_after : (items after : List Item) (C : Entry → Type 0) → ((d : Entry) → C d → IsUnaimed items (named_in d) → IsUnaimed after (named_in d)) → (es : List Entry) → All C es → AreOthers items es → AreOthers after es
others_after items after C k [] c h = tt
others_after items after C k (e ∷ es) c h = (k e c.0 h.0, h.1, others_after items after C k es c.1 h.2)
