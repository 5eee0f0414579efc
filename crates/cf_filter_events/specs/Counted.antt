-- How the disk's count of failed calls, and what is armed, go with the answers of events.
use Rattle.std.specs.Prelude.{◌≡◌, ◌≤◌, ◌+◌, ℕ, Bool, true, false, IfOk, Result, Ok, Err}
use Rattle.cf_filter_events.specs.Actors.{Acts, LeavesTo}
use Rattle.cf_filter_events.specs.Faulted.{FaultsTo, LinesTo}
use Rattle.cf_filter_events.specs.Meaning.{IsBegun, IsOn}
use Rattle.cf_filter_events.specs.Pasts.{Past}
use Rattle.cf_filter_events.specs.Stepped.{SteppedTo}
use Rattle.cf_filter_events.specs.declared.places.RunningOn.{RunningOn as Run}
use Rattle.cf_base.specs.declared.answers.Answer.{Answer}
use Rattle.cf_base.specs.declared.answers.Shown.{Shown}
use Rattle.cf_base.specs.declared.answers.Shown.TheVariants as shown
use Rattle.cf_base.specs.declared.events.DeviceEvent.{DeviceEvent}
use Rattle.cf_base.specs.declared.events.DeviceEvent.TheVariants as device
use Rattle.cf_base.specs.declared.events.Event.{Event}
use Rattle.cf_base.specs.declared.events.Event.TheVariants as event
use Rattle.cf_base.specs.declared.memory.OutOfMemory.{OutOfMemory as NoMemory}
use Rattle.cf_disk.specs.Disk.{State as Disk, may_fail}
use Rattle.cf_filter_machine.specs.Sensing.{Rose}
use Rattle.cf_model.specs.Arrows.{is_device}
use Rattle.cf_model.specs.State.{Off, State}

-- a result that tells of a device call that failed
abbrev pub meets_device : Shown → Bool
meets_device (shown.Refused c) = is_device c
meets_device _ = false

-- The count of faults does not fall, where no call could fail none can fail then, and the settings stay.
abbrev pub GoesOn : Disk → Disk → Type 0
GoesOn d e = (d.faults ≤ e.faults) × (may_fail e.armed ≤ may_fail d.armed) × (e.settings ≡ d.settings)

-- So it is, and a call failed where the event is answered as Device.
abbrev pub CountsTo : Result Answer NoMemory → Disk → Disk → Type 0
CountsTo (Ok a) d e = GoesOn d e × (meets_device a.shown ≡ true → Rose d e)
CountsTo (Err m) d e = Unit {0}

-- in each state that the world stands for
pub record Counts {X : Type 0} (Is : Past → X → State → Type 0) (old : X) (r : Result Answer NoMemory) (d e : Disk) : Type 0 where
  pub counts : (past : Past) (s : State) → Is past old s → CountsTo r d e

-- a stop arms the disk, and no other event does
abbrev pub arms_in : DeviceEvent → ℕ
arms_in (device.Stop calls) = 1
arms_in (device.Crash choice) = 0
arms_in device.Restart = 0

abbrev pub arms : Event → ℕ
arms (event.Call c) = 0
arms (event.Device e) = arms_in e
arms (event.Peer e) = 0
arms (event.Engine e) = 0
arms (event.Provider e) = 0

-- As CountsTo, but that calls may fail after a stop.
abbrev pub CountsBy : ℕ → Result Answer NoMemory → Disk → Disk → Type 0
CountsBy n (Ok a) d e = (d.faults ≤ e.faults) × (may_fail e.armed ≤ may_fail d.armed + n) × (meets_device a.shown ≡ true → Rose d e) × (e.settings ≡ d.settings)
CountsBy n (Err m) d e = Unit {0}

-- in each state that the world stands for
pub record CountsOver {X : Type 0} (Is : Past → X → State → Type 0) (e : Event) (old : X) (r : Result Answer NoMemory) (d f : Disk) : Type 0 where
  pub counts : (past : Past) (s : State) → Is past old s → CountsBy (arms e) r d f

-- As CountsTo, but that a call failed is said only where the filter is broken after the event.
abbrev pub CountsIf : Bool → Result Answer NoMemory → Disk → Disk → Type 0
CountsIf broken (Ok a) d e = GoesOn d e × (broken ≡ true → meets_device a.shown ≡ true → Rose d e)
CountsIf broken (Err m) d e = Unit {0}

-- an event that has begun on the open volume is a step of the definitions, with this answer; and the counts of the disk and of the remote
pub record StepsOn {D A : Type 0} (acts : Acts A) (state : D → Disk) (e : Event) (old : Run D A) (r : Result Answer NoMemory) (new : Run D A) : Type 0 where
  pub steps : (past : Past) (s : State) → IsBegun acts state past old s → SteppedTo acts.mode (IsOn acts state past) e s r new
  pub counts : (past : Past) (s : State) → IsBegun acts state past old s → CountsIf new.filter.desk.broken r (state old.filter.disk) (state new.filter.disk)
  pub faults : (past : Past) (s : State) → IsBegun acts state past old s → LinesTo r (acts.remote old.actor) (acts.remote new.actor)

-- An event while the volume is off is a step of the definitions, with this answer, that leaves the filter. It is not answered as Device. As
-- many asks of the remote fail as the answer reports.
pub record StepsOff {A : Type 0} (acts : Acts A) (e : Event) (old : A) (r : Result Answer NoMemory) (new : A) : Type 0 where
  pub leads : (s : State) → s.mode ≡ acts.mode → s.power ≡ Off → acts.holds old s → LeavesTo acts.mode acts.holds e s r new
  pub well : IfOk r (λ a. meets_device a.shown ≡ false)
  pub faults : (s : State) → acts.holds old s → FaultsTo r (acts.remote old) (acts.remote new)

-- what is answered, by whether the filter is broken and whether the answer tells of a device call that failed
abbrev pub known_as : Bool → Bool → Answer → Result Answer NoMemory
known_as true met a = Ok a
known_as false true a = Err (record {})
known_as false false a = Ok a

abbrev pub known_by : Bool → Result Answer NoMemory → Result Answer NoMemory
known_by broken (Ok a) = known_as broken (meets_device a.shown) a
known_by broken (Err m) = Err m
