-- What of an event of a script of two devices is one device's own, and what that does to its disk.
use Rattle.std.specs.Prelude.{◌≡◌, ℕ, Bool, true, false, cond, List, [], Option, Some, None, Ok}
use Rattle.cf_base.specs.declared.answers.Answer.{Answer}
use Rattle.cf_base.specs.declared.events.Event.{Event}
use Rattle.cf_base.specs.declared.policies.Choice.{Choice}
use Rattle.cf_disk.specs.Disk.{State as Disk}
use Rattle.cf_filter_events.specs.Counted.{CountsBy, arms}
use Rattle.cf_filter_events.specs.Faulted.{faults_shown}
use Rattle.cf_filter_events.specs.Pasts.{Gains, Past, StandsFor}
use Rattle.cf_filter_events.specs.Stepped.{Bears}
use Rattle.cf_model.specs.Powers.{IsPower}
use Rattle.cf_model.specs.State.{State}
use Rattle.cf_pair_events.specs.OfDevices.{is_of_device}
use Rattle.cf_pair_events.specs.declared.answers.PairAnswer.{PairAnswer}
use Rattle.cf_pair_events.specs.declared.answers.PairAnswer.TheVariants as answer
use Rattle.cf_pair_events.specs.declared.events.PairEvent.{PairEvent}
use Rattle.cf_pair_events.specs.declared.events.PairEvent.TheVariants as pair
use Rattle.cf_pair_model.specs.declared.devices.Device.{Device}
use Rattle.cf_pair_model.specs.declared.devices.Device.TheVariants as device

-- an event that a script may have: that of one device is one that a device may have
abbrev pub is_playable : PairEvent → Bool
is_playable (pair.Of d e) = is_of_device e
is_playable (pair.Peer e) = true
is_playable pair.Compare = true

abbrev pub is_same : Device → Device → Bool
is_same device.First device.First = true
is_same device.First device.Second = false
is_same device.Second device.First = false
is_same device.Second device.Second = true

-- the event with its answer, where it is one of this device
abbrev pub own : Device → PairEvent → PairAnswer → Option (Event × Answer)
own d (pair.Of whose e) (answer.Event a) = cond (is_same d whose) (Some (e, a)) None
own d (pair.Of whose e) (answer.Comparison c) = None
own d (pair.Peer e) a = None
own d pair.Compare a = None

-- as IsPower; an event that is not of the device is no power cut of its disk
abbrev pub PowerBy : Option (List ℕ) → Option (Event × Answer) → State → List (Choice × List ℕ) → Option (List ℕ) → List (Choice × List ℕ) → Type 0
PowerBy last None t powers after rest = (after ≡ last) × (rest ≡ powers)
PowerBy last (Some x) t powers after rest = IsPower StandsFor last x.0 x.1 t powers after rest

-- what the event does to the disk and its count of faults; one that is not of the device does nothing
abbrev pub DiskBy : {D : Type 0} → (D → Disk) → Option (Event × Answer) → D → D → Type 0
DiskBy state None d e = e ≡ d
DiskBy state (Some x) d e = CountsBy (arms x.0) (Ok x.1) (state d) (state e) × Bears x.0 (state d) (state e)

-- The power cuts of a device in an event, which leaves this state of it: one with its choice for a crash of the device, and else none.
pub record Owned {D : Type 0} (state : D → Disk) (o : Option (Event × Answer)) (t : State) (past then : Past) (d e : D) : Type 0 where
  pub powers : List (Choice × List ℕ)
  pub power : PowerBy past.last o t powers then.last []
  pub gains : Gains powers past.told then.told
  pub disk : DiskBy state o d e

-- how often an answer reports that the remote failed
abbrev pub faults_of : PairAnswer → ℕ
faults_of (answer.Event a) = faults_shown a
faults_of (answer.Comparison c) = 0
