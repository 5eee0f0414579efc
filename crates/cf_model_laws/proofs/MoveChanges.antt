-- The changes that are moves, and what they leave of the items.
use Rattle.std.proofs.Common.{◌≡◌, ℕ, true, List, refl, sym, subst}
use Rattle.cf_base.specs.declared.changes.Change.{Change}
use Rattle.cf_base.specs.declared.changes.Change.TheVariants as change
use Rattle.cf_base.specs.declared.ids.ItemId.{ItemId}
use Rattle.cf_base.specs.declared.ids.Rid.{Rid}
use Rattle.cf_base.specs.declared.ids.Usn.{Usn}
use Rattle.cf_model.specs.Effects.{effect}
use Rattle.cf_model.specs.Identities.{target_of}
use Rattle.cf_model.specs.Items.{Item}
use Rattle.cf_model.specs.Soundness.{Each}
use Rattle.cf_model.specs.State.{State, items_now}
use Rattle.cf_model_laws.specs.Fitting.{IsUnaimed}
use Rattle.cf_model_laws.specs.Invariant.{version_in}
use Rattle.cf_model_laws.specs.Premises.{IsFair}
use Rattle.cf_model_laws.specs.Seats.{IsSeated}
use Rattle.cf_model_laws.proofs.SeatLaws.{seated_changed}
use Rattle.cf_model_laws.proofs.AimedTargets.{unaimed_still}
use Rattle.cf_model_laws.proofs.FitItems.{each_changed}
use Rattle.cf_model_laws.proofs.Gathered.{each_any}
use Rattle.cf_model_laws.proofs.SkipsGuarded.{Framing, item_frame}

abbrev pub IsMove : Change → Type 0
IsMove (change.Move item parent name) = Unit {0}
IsMove _ = ⊥

pub is_move : (c : Change) → IsMove c → (item : ItemId) × (parent : ItemId) × (name : List ℕ) × (c ≡ change.Move item parent name)
is_move (change.Make item parent name kind size identity) ok = absurd ok
is_move (change.Remove item) ok = absurd ok
is_move (change.Move item parent name) ok = (item, parent, name, refl)
is_move (change.Write item at bytes) ok = absurd ok
is_move (change.Size item size) ok = absurd ok
is_move (change.Filled item start bytes) ok = absurd ok
is_move (change.Validated item start len) ok = absurd ok
is_move (change.Emptied item start len) ok = absurd ok
is_move (change.SetPin item pin) ok = absurd ok
is_move (change.Mark item number) ok = absurd ok
is_move (change.Clear item) ok = absurd ok
is_move (change.Convert item identity) ok = absurd ok
is_move (change.Revert item) ok = absurd ok
is_move (change.Rebase item identity len number) ok = absurd ok
is_move (change.Take item identity size) ok = absurd ok
is_move (change.Copy item from parent name) ok = absurd ok
is_move (change.Populated item) ok = absurd ok
is_move (change.Keep item on) ok = absurd ok

-- the directory is here
abbrev pub SeatAt : ItemId → State → Type 0
SeatAt id t = IsFair t.link → IsSeated (items_now t) id true

pub seat_frame : (id : ItemId) → Framing IsMove (SeatAt id)
seat_frame id = item_frame IsMove (λ is next. IsSeated is id true)
    (λ s c n ok fit g. let m = is_move c ok in
    subst (λ (d : Change). IsSeated (effect (items_now s) d n) id true) (sym m.3) (seated_changed m.0 _ (λ i. refl) (λ i. refl) (items_now s) id true g))

-- no item here has the target
abbrev pub UnaimedAt : Rid → State → Type 0
UnaimedAt rid t = IsFair t.link → IsUnaimed (items_now t) rid

pub unaimed_frame : (rid : Rid) → Framing IsMove (UnaimedAt rid)
unaimed_frame rid = item_frame IsMove (λ is next. IsUnaimed is rid)
    (λ s c n ok fit g. let m = is_move c ok in
    subst (λ (d : Change). IsUnaimed (effect (items_now s) d n) rid) (sym m.3) (unaimed_still rid m.0 _ (items_now s) (λ i. refl) g))

-- what a move leaves of an item
abbrev pub Alike : Item → Item → Type 0
Alike i j = ((version_in j.identity).0 ≡ (version_in i.identity).0) × (j.directory ≡ i.directory) × (j.placeholder ≡ i.placeholder) × ((target_of j).0 ≡ (target_of i).0)

pub alike_moved : (i : Item) (id : ItemId) (c : Change) (n : Usn) (items : List Item) → IsMove c → Each id (Alike i) items → Each id (Alike i) (effect items c n)
alike_moved i id c n items ok h =
    let m = is_move c ok in
    subst (λ (d : Change). Each id (Alike i) (effect items d n)) (sym m.3) (each_changed id m.0 _ (λ j. Unit {0}) (Alike i) (Alike i) (λ j. refl) (λ j _ a. a) (λ j a. a) items (each_any m.0 (λ j. Unit {0}) (λ j. tt) items) h)

abbrev pub AlikeAt : Item → ItemId → State → Type 0
AlikeAt i id t = IsFair t.link → Each id (Alike i) (items_now t)

pub alike_frame : (i : Item) (id : ItemId) → Framing IsMove (AlikeAt i id)
alike_frame i id = item_frame IsMove (λ is next. Each id (Alike i) is) (λ s c n ok fit g. alike_moved i id c n (items_now s) ok g)
