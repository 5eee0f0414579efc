-- What an event of the world is answered, and what it leaves.
use Rattle.std.specs.Prelude.{◌≡◌, ℕ, Bool, true, List, [], ◌∷◌, Some, Result, Ok, Err, option_map}
use Rattle.cf_filter_events.specs.Pasts.{Gains, Past, StandsFor}
use Rattle.cf_filter_events.specs.declared.places.Acting.{Acting}
use Rattle.cf_filter_events.specs.declared.places.Acting.TheVariants as acting
use Rattle.cf_base.specs.declared.answers.Answer.{Answer}
use Rattle.cf_base.specs.declared.answers.Shown.{Shown}
use Rattle.cf_base.specs.declared.answers.Shown.TheVariants as shown
use Rattle.cf_base.specs.declared.events.DeviceEvent.{DeviceEvent}
use Rattle.cf_base.specs.declared.events.DeviceEvent.TheVariants as device
use Rattle.cf_base.specs.declared.events.Event.{Event}
use Rattle.cf_base.specs.declared.events.Event.TheVariants as event
use Rattle.cf_base.specs.declared.memory.OutOfMemory.{OutOfMemory as NoMemory}
use Rattle.cf_base.specs.declared.policies.Choice.{Choice}
use Rattle.cf_base.specs.declared.policies.Mode.{Mode}
use Rattle.cf_disk.specs.Disk.{Powers, State as Disk}
use Rattle.cf_model.specs.Lawful.{IsStep}
use Rattle.cf_model.specs.Powers.{IsPower}
use Rattle.cf_model.specs.State.{Broken, Point, State}

-- a step of the definitions, with this answer
abbrev pub SteppedTo : {X : Type 0} → Mode → (X → State → Type 0) → Event → State → Result Answer NoMemory → X → Type 0
SteppedTo m Is e s (Ok a) new = (t : State) × IsStep m s e a t × Is new t
SteppedTo m Is e s (Err k) new = Unit {0}

-- in each state that it stands for, and without a power cut
pub record Steps {X : Type 0} (m : Mode) (Is : Past → X → State → Type 0) (e : Event) (old : X) (r : Result Answer NoMemory) (new : X) : Type 0 where
  pub leads : (past : Past) (s : State) → Is past old s → SteppedTo m (Is past) e s r new

-- A step of the definitions, with this answer, and with the power cuts that the event does: one with its choice for a crash, and
-- else none. A restart that resumes opens what the image that the last of them left stands for.
abbrev pub PoweredTo : {X : Type 0} → Mode → (Past → X → State → Type 0) → Past → Event → State → Result Answer NoMemory → X → Type 0
PoweredTo m Is past e s (Ok a) new =
    (t : State) × (powers : List (Choice × List ℕ)) × (after : Past)
    × IsStep m s e a t × IsPower StandsFor past.last e a t powers after.last [] × Gains powers past.told after.told × Is after new t
PoweredTo m Is past e s (Err k) new = Unit {0}

-- in each state that it stands for
pub record StepsOver {X : Type 0} (m : Mode) (Is : Past → X → State → Type 0) (e : Event) (old : X) (r : Result Answer NoMemory) (new : X) : Type 0 where
  pub leads : (past : Past) (s : State) → Is past old s → PoweredTo m Is past e s r new

-- no event met Device since the volume was opened
abbrev pub whole_of : {D A : Type 0} → Acting D A → Bool
whole_of (acting.On x) = true
whole_of (acting.Off x) = x.whole

-- so it is after an event where the volume was not broken
pub record KeepsWhole {D A : Type 0} (Is : Past → Acting D A → State → Type 0) (old new : Acting D A) : Type 0 where
  pub whole : (past : Past) (s : State) → Is past old s → (s.power ≡ Broken → ⊥) → whole_of old ≡ true → whole_of new ≡ true

-- where a result tells of a restart that resumed, it has the count of the newest point
abbrev pub ResumesNewest : Shown → List Point → Type 0
ResumesNewest (shown.Resumed n opened) points = (p : Point) (earlier : List Point) → points ≡ p ∷ earlier → n ≡ p.count
ResumesNewest _ points = Unit {0}

abbrev pub ResumesTo : Result Answer NoMemory → List Point → Type 0
ResumesTo (Ok a) points = ResumesNewest a.shown points
ResumesTo (Err m) points = Unit {0}

-- so it is of a restart, where no event met Device before
pub record OpensNewest {D A : Type 0} (Is : Past → Acting D A → State → Type 0) (e : Event) (old : Acting D A) (r : Result Answer NoMemory) : Type 0 where
  pub newest : (past : Past) (s : State) → Is past old s → e ≡ event.Device device.Restart → whole_of old ≡ true → ResumesTo r s.filter.volume.points

-- the disk of the world
abbrev pub disk_of : {D A : Type 0} → Acting D A → D
disk_of (acting.On x) = x.filter.disk
disk_of (acting.Off x) = x.disk

-- and what acts beside the filter
abbrev pub actor_of : {D A : Type 0} → Acting D A → A
actor_of (acting.On x) = x.actor
actor_of (acting.Off x) = x.actor

-- the same world with another actor
abbrev pub with_actor : {D A B : Type 0} → B → Acting D A → Acting D B
with_actor actor (acting.On x) = acting.On (record { filter = x.filter; actor = actor })
with_actor actor (acting.Off x) = acting.Off (record { disk = x.disk; policy = x.policy; whole = x.whole; actor = actor })

-- What an event of the device does to the disk: a stop arms it with its number, and a crash is one power cut with its choice.
abbrev pub BearsOn : DeviceEvent → Disk → Disk → Type 0
BearsOn (device.Stop calls) old new = new.armed ≡ option_map (λ _. Some calls) old.armed
BearsOn (device.Crash choice) old new = Powers choice old new
BearsOn device.Restart old new = Unit {0}

abbrev pub Bears : Event → Disk → Disk → Type 0
Bears (event.Call c) old new = Unit {0}
Bears (event.Device e) old new = BearsOn e old new
Bears (event.Peer e) old new = Unit {0}
Bears (event.Engine e) old new = Unit {0}
Bears (event.Provider e) old new = Unit {0}
