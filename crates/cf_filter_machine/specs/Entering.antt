-- A list of entries of a directory, change by change.
use Rattle.std.specs.Prelude.{◌≡◌, ◌++◌, Bool, true, false, List, [], ◌∷◌, None, Result, Ok, Err}
use Rattle.cf_base.specs.declared.answers.AuxRecord.{AuxRecord}
use Rattle.cf_base.specs.declared.changes.Change.{Change}
use Rattle.cf_base.specs.declared.changes.Change.TheVariants as change
use Rattle.cf_base.specs.declared.codes.CallError.{CallError}
use Rattle.cf_base.specs.declared.codes.CallError.TheVariants.{OutOfMemory, No}
use Rattle.cf_base.specs.declared.ids.ItemId.{ItemId}
use Rattle.cf_disk.specs.Disk.{State}
use Rattle.cf_filter_desk.specs.Desks.{Desk, desk_of}
use Rattle.cf_filter_machine.specs.Held.{Held}
use Rattle.cf_filter_machine.specs.Keeping.{HasKeptPoints, IsKeptVolume}
use Rattle.cf_filter_machine.specs.Lasting.{Lasts, Moved}
use Rattle.cf_filter_machine.specs.Sensing.{Rose, Stands, Stopped}
use Rattle.cf_model.specs.Arrows.{Arrow}
use Rattle.cf_model.specs.Books.{Book}
use Rattle.cf_model.specs.Changes.{next_number, put_change, why_no_room}
use Rattle.cf_model.specs.Effects.{changed, populated}
use Rattle.cf_model.specs.Numbers.{no_key, same_key}
use Rattle.cf_model.specs.Operations.{changes_with}
use Rattle.cf_model.specs.State.{Filter, Volume}
use Rattle.cf_model.specs.Trees.{Does}
use Rattle.cf_volume_points.proofs.Points.{Fair}
use Rattle.cf_volume_points.specs.At.{At}
use Rattle.cf_volume_room.specs.Aims.{IsAimedBy}
use Rattle.cf_filter_steps.specs.Good.{Every, IsFileIn, IsOnFile}
use Rattle.cf_filter_steps.specs.Listing.{HasRecordsBeside, IsEntry}
use Rattle.cf_volume.specs.Calls.{OnDisk}

-- one of the changes that such lists are made of, none of which needs a cluster
abbrev pub is_listed : Change → Bool
is_listed (change.Make item parent name kind size identity) = true
is_listed (change.Mark item number) = true
is_listed (change.Populated item) = true
is_listed _ = false

-- it suits the list, and finds room
pub record IsReadyEntry (dir : ItemId) (c : Change) (v : Volume) : Type 0 where
  pub room : why_no_room (c ∷ []) v ≡ None
  pub entry : IsEntry dir c v

-- each change in turn
abbrev pub AreReadyEntries : ItemId → List Change → Volume → Type 0
AreReadyEntries dir [] v = Unit {0}
AreReadyEntries dir (c ∷ cs) v = IsReadyEntry dir c v × AreReadyEntries dir cs (put_change c v)

-- the last change says that the entries have come
abbrev pub EndsBy : ItemId → List Change → Type 0
EndsBy dir [] = ⊥
EndsBy dir (c ∷ []) = c ≡ change.Populated dir
EndsBy dir (c ∷ d ∷ cs) = EndsBy dir (d ∷ cs)

-- a list that finds room, with the records that come beside its last change
pub record MayEnter (f : Book → Book) (dir : ItemId) (cs : List Change) (records : List AuxRecord) (s : Filter) : Type 0 where
  pub entries : AreReadyEntries dir cs s.volume
  pub ends : EndsBy dir cs
  pub beside : HasRecordsBeside (next_number s.volume) s.volume.book records (f s.volume.book)

-- the volume as if the entries had come
abbrev pub ahead : ItemId → Volume → Volume
ahead dir v = record v { items = changed dir populated v.items }

-- Between the changes of a list the directory has entries that have not come: but for that the state is one of a filter.
pub record Coming {D : Type 0} (state : D → State) (dir : ItemId) (x : Held D) (s : Filter) : Type 0 where
  pub fair : Fair (state x.disk)
  pub volume : At (state x.disk) x.known s.volume
  pub desk : x.desk ≡ desk_of s
  pub whole : x.known.broken ≡ false
  pub kept : IsKeptVolume (ahead dir s.volume)
  pub points : HasKeptPoints s.volume
  pub aimed : IsAimedBy (state x.disk).settings.aim s.volume
  pub files : Every (λ o. IsFileIn s.volume.items o.item) s.handles
  pub numbered : Every (λ w. same_key w.id.0 no_key ≡ false) s.waiting.waits
  pub reads : Every (λ w. IsOnFile w.kind s.volume.items w.item) s.waiting.waits

-- what is left, by the result
abbrev pub AfterEntry : {D A : Type 0} → (D → State) → (Held D → Filter → Type 0) → Held D → Result A CallError → Held D → Filter → Type 0
AfterEntry state Q x (Ok a) y t = Q y t
AfterEntry state Q x (Err (No c)) y t = Stopped state y t × Rose (state x.disk) (state y.disk)
AfterEntry state Q x (Err OutOfMemory) y t = Lasts (state y.disk) t.volume

-- A part of a list from a state between its changes on, where that has the property.
pub record Enters {D : Type 0} (state : D → State) (dir : ItemId) (Q : Held D → Filter → Type 0) (P : Filter → Type 0) (f : Arrow Filter (Unit {0})) (x : Held D) (r : Result (Unit {0}) CallError) (y : Held D) : Type 0 where
  pub leads : (s : Filter) → Coming state dir x s → P s → (t : Filter) × Does (f s) r t × Moved (state x.disk) (state y.disk) s.volume t.volume × AfterEntry state Q x r y t

-- a volume, and what stands in memory beside it
abbrev pub held : {D : Type 0} → OnDisk D → Desk → Held D
held o e = record { disk = o.disk; known = o.known; desk = e }

-- The changes before the last: what enters the last from there on enters all of the list. Where they stop, so does the list.
abbrev pub GoesOn : {D : Type 0} → (D → State) → ItemId → (Book → Book) → Change → List AuxRecord → List Change → Held D → Result (Unit {0}) CallError → Held D → Type 0
GoesOn {D} state dir f last records before x (Ok a) m =
    (r : Result (Unit {0}) CallError) (y : Held D) → Enters state dir (Stands state) (MayEnter f dir (last ∷ []) records) (changes_with f (last ∷ [])) m r y
    → Enters state dir (Stands state) (MayEnter f dir (before ++ last ∷ []) records) (changes_with f (before ++ last ∷ [])) x r y
GoesOn {D} state dir f last records before x (Err e) m = Enters state dir (Stands state) (MayEnter f dir (before ++ last ∷ []) records) (changes_with f (before ++ last ∷ [])) x (Err e) m
