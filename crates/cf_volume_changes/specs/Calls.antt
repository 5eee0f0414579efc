-- What the calls of a volume say of their ends.
use Rattle.std.specs.Prelude.{◌≡◌, ◌≤◌, ◌<◌, ◌⊎◌, ℕ, Bool, true, false, List, [], ◌∷◌, Option, None, Some, Result, Ok, Err}
use Rattle.cf_base.specs.declared.answers.AuxRecord.{AuxRecord}
use Rattle.cf_base.specs.declared.changes.Change.{Change}
use Rattle.cf_base.specs.declared.codes.Code.{Code}
use Rattle.cf_base.specs.declared.codes.Code.TheVariants.{Broken, Device, Full, TableFull}
use Rattle.cf_base.specs.declared.codes.CallError.{CallError}
use Rattle.cf_base.specs.declared.codes.CallError.TheVariants.{OutOfMemory, No}
use Rattle.cf_base.specs.declared.ids.Usn.{Usn}
use Rattle.cf_disk.specs.Disk.{HasFailed, State, may_fail, size_of}
use Rattle.cf_model.specs.Books.{Book, aux_records}
use Rattle.cf_model.specs.Changes.{may_need_room, next_number, put_change, why_no_room}
use Rattle.cf_model.specs.Formats.{with_record, without_record}
use Rattle.cf_model.specs.Images.{table_full}
use Rattle.cf_model.specs.State.{Volume}
use Rattle.cf_volume_points.specs.At.{At}
use Rattle.cf_volume_points.specs.Known.{Known}
use Rattle.cf_volume_points.specs.declared.stops.Stop.{Stop}
use Rattle.cf_volume_points.specs.declared.stops.Stop.TheVariants as stop
use Rattle.cf_ranges.specs.Positions.{contains}
use Rattle.cf_table.specs.declared.rows.Row.{Row}

-- a volume with its disk, as clauses see it
pub record OnDisk (D : Type 0) : Type 0 where
  pub disk : D
  pub known : Known

-- where an earlier call broke the volume, a call does nothing
abbrev pub IfBroken : {D A : Type 0} → OnDisk D → Result A CallError → OnDisk D → Type 0
IfBroken old result new = old.known.broken ≡ true → (result ≡ Err (No Broken)) × (new ≡ old)

-- Device and OutOfMemory break it
abbrev pub Breaks : CallError → Known → Type 0
Breaks OutOfMemory k = k.broken ≡ true
Breaks (No code) k = code ≡ Device → k.broken ≡ true

-- whether a failure is one of them
abbrev pub IsStopping : CallError → Bool → Type 0
IsStopping OutOfMemory b = b ≡ true
IsStopping (No code) b = (code ≡ Device → b ≡ true) × ((code ≡ Device → ⊥) → b ≡ false)

-- the device stops a call only where one of its calls failed
abbrev pub IsCause : CallError → State → State → Type 0
IsCause OutOfMemory s t = Unit {0}
IsCause (No code) s t = code ≡ Device → HasFailed s t

-- a disk after any calls
pub record Runs (s t : State) : Type 0 where
  pub size : size_of t ≡ size_of s
  pub powers : t.powers ≡ s.powers
  pub settings : t.settings ≡ s.settings
  pub faults : s.faults ≤ t.faults
  pub calm : may_fail t.armed ≤ may_fail s.armed

-- Why a change was refused, or was not: in the order of the volume's refusals, which leave all as it was, or since the
-- device failed.
abbrev pub Answers : {D : Type 0} → Change → Volume → OnDisk D → Result Usn CallError → OnDisk D → Type 0
Answers c v old (Ok n) new = why_no_room (c ∷ []) v ≡ None
Answers c v old (Err OutOfMemory) new = Unit {0}
Answers c v old (Err (No code)) new = (code ≡ Device) ⊎ ((why_no_room (c ∷ []) v ≡ Some code) × (new ≡ old))

-- a call that the device or memory alone can stop
abbrev pub StopsOnly : CallError → Type 0
StopsOnly OutOfMemory = Unit {0}
StopsOnly (No code) = code ≡ Device

-- a call that memory alone can stop
abbrev pub IsMemory : CallError → Type 0
IsMemory OutOfMemory = Unit {0}
IsMemory (No code) = ⊥

-- another book, whose auxiliary records are these
pub record HasRecords (b : Book) (records : List AuxRecord) (new : Book) : Type 0 where
  pub told : aux_records new ≡ records
  pub anchors : new.anchors ≡ b.anchors
  pub clock : new.clock ≡ b.clock
  pub accesses : new.accesses ≡ b.accesses

-- the records with this one, or without one of the key
abbrev pub put_record : List ℕ → Option (List ℕ) → List AuxRecord → List AuxRecord
put_record key None records = without_record key records
put_record key (Some value) records = with_record (record { key = key; value = value }) records

-- why an auxiliary record was not put
abbrev pub WhyAux : {D : Type 0} → Volume → Book → OnDisk D → Result (Unit {0}) CallError → OnDisk D → Type 0
WhyAux v b old (Ok n) new = table_full v.items b ≡ false
WhyAux v b old (Err OutOfMemory) new = Unit {0}
WhyAux v b old (Err (No code)) new = (code ≡ TableFull) × (table_full v.items b ≡ true) × (new ≡ old)

-- the row is there, and each of its positions from a place to another is here
abbrev pub IsHere : Option Row → ℕ → ℕ → Type 0
IsHere None start end = ⊥
IsHere (Some r) start end = (p : ℕ) → start ≤ p → p < end → contains r.here p ≡ true

-- why a disk was not formatted or opened
abbrev pub IsRefused : CallError → Code → Type 0
IsRefused OutOfMemory c = ⊥
IsRefused (No code) c = code ≡ c

-- what a call answers that was stopped
abbrev pub fail_of : Stop → CallError
fail_of stop.Device = No Device
fail_of stop.OutOfMemory = OutOfMemory

-- there is no room
abbrev pub IsFullness : Code → Type 0
IsFullness TableFull = Unit {0}
IsFullness Full = Unit {0}
IsFullness _ = ⊥

-- A change is put where the clusters that it needs are free: it is in the volume then, or is refused in the order of the
-- volume's refusals, or the device failed. None: a commit has to make room first.
abbrev pub IsPut : Change → Volume → State → State → Known → Result (Option Usn) CallError → Type 0
IsPut c v s t new (Ok (Some n)) = (n ≡ next_number v) × (why_no_room (c ∷ []) v ≡ None) × At t new (put_change c v)
IsPut c v s t new (Ok None) = (why_no_room (c ∷ []) v ≡ None) × (may_need_room c v ≡ true)
IsPut c v s t new (Err OutOfMemory) = Unit {0}
IsPut c v s t new (Err (No code)) = (code ≡ Device) ⊎ (why_no_room (c ∷ []) v ≡ Some code)

-- nothing is done but where the change is put, or was begun
abbrev pub IsKept : {D : Type 0} → D → Known → Result (Option Usn) CallError → D → Known → Type 0
IsKept s old (Ok (Some n)) t new = Unit {0}
IsKept s old (Ok None) t new = (t ≡ s) × (new ≡ old)
IsKept s old (Err OutOfMemory) t new = Unit {0}
IsKept s old (Err (No code)) t new = (code ≡ Device) ⊎ ((t ≡ s) × (new ≡ old))
