-- What an event of one device is, which has the remote for so long.
use Rattle.std.specs.Prelude.{◌≡◌, ◌==◌, ◌&&◌, ℕ, Bool, true, false, List, [], is_some, Result, Ok, Err}
use Rattle.cf_base.specs.declared.answers.Answer.{Answer}
use Rattle.cf_base.specs.declared.events.Event.{Event}
use Rattle.cf_base.specs.declared.events.Event.TheVariants as event
use Rattle.cf_base.specs.declared.events.PeerEvent.{PeerEvent}
use Rattle.cf_base.specs.declared.memory.OutOfMemory.{OutOfMemory as NoMemory}
use Rattle.cf_base.specs.declared.policies.Choice.{Choice}
use Rattle.cf_base.specs.declared.policies.Mode.TheVariants as mode
use Rattle.cf_disk.specs.Disk.{State as Disk}
use Rattle.cf_engine.specs.Actors.{Syncing}
use Rattle.cf_filter_events.specs.Counted.{CountsBy, arms}
use Rattle.cf_filter_events.specs.Faulted.{faults_shown}
use Rattle.cf_filter_events.specs.Meaning.{Is}
use Rattle.cf_filter_events.specs.Pasts.{Gains, Past, StandsFor}
use Rattle.cf_filter_events.specs.Stepped.{Bears, disk_of}
use Rattle.cf_filter_events.specs.declared.places.Acting.{Acting}
use Rattle.cf_link.specs.Faults.{RoseBy}
use Rattle.cf_model.specs.Lawful.{IsStep}
use Rattle.cf_model.specs.Powers.{IsPower}
use Rattle.cf_model.specs.State.{State}
use Rattle.cf_model.specs.Store.{Held}
use Rattle.cf_pair_lane.specs.Lanes.{Laned}
use Rattle.cf_pair_lane.specs.declared.absences.Away.{Away}
use Rattle.cf_pair_model.specs.Seen.{held_seen}
use Rattle.cf_pair_model.specs.declared.devices.Device.{Device}
use Rattle.cf_pair_traces.specs.Pairs.{facing}
use Rattle.cf_pair_run.specs.Owned.{is_same}
use Rattle.cf_pair_run.specs.Sharing.{IsThird, Trusts, resting}
use Rattle.cf_remote.specs.Peers.{IsHeld}
use Rattle.cf_remote.specs.Told.{Told}

-- whether the lane is that of the device, and refused no request
abbrev pub is_clear : {R : Type 0} → Laned R → Device → Bool
is_clear l d = (l.faults == 0) && is_same d l.device

-- what is answered then
abbrev pub passed_as : Bool → Result Answer NoMemory → Result Answer NoMemory
passed_as true r = r
passed_as false r = Err (record {})

abbrev pub passed_by : {R : Type 0} → Laned R → Device → Result Answer NoMemory → Result Answer NoMemory
passed_by l d r = passed_as (is_clear l d) r

-- The remote holds this then, where it reports it, and goes on to report it or not; and its count of faults rose as often as the
-- answer reports that it failed.
pub record Left (a : Answer) (held : Held) (t : State) (before after : Told) : Type 0 where
  pub held_is : IsHeld after.held held
  pub trusts : Trusts after t
  pub tells : is_some after.held ≡ is_some before.held
  pub rose : RoseBy (faults_shown a) before.faults after.faults

-- One step of the definitions from this state, in which the device faces the remote, with this answer and with the power cuts that
-- the event does. The remote is left as the step leaves it.
pub record Turned {D R : Type 0} (state : D → Disk) (told : R → Told) (d : Device) (e : Event) (a : Answer) (past : Past) (s : State) (old : Acting D (Syncing Away)) (before : R) (new : Acting D (Syncing Away)) (after : R) : Type 0 where
  pub left : State
  pub powers : List (Choice × List ℕ)
  pub then : Past
  pub step : IsStep mode.Replay s e a left
  pub power : IsPower StandsFor past.last e a left powers then.last []
  pub gains : Gains powers past.told then.told
  pub is : Is resting state then new left
  pub counts : CountsBy (arms e) (Ok a) (state (disk_of old)) (state (disk_of new))
  pub bears : Bears e (state (disk_of old)) (state (disk_of new))
  pub remote : Left a (held_seen d left.link.remote) left (told before) (told after)

abbrev pub TurnedBy : {D R : Type 0} → (D → Disk) → (R → Told) → Device → Event → Result Answer NoMemory → Past → State → Acting D (Syncing Away) → R → Acting D (Syncing Away) → R → Type 0
TurnedBy state told d e (Ok a) past s old before new after = Turned state told d e a past s old before new after
TurnedBy state told d e (Err m) past s old before new after = Unit {0}

-- in each state that the device stands for, and whatever the remote holds that reports nothing of it
pub record Turns {D R : Type 0} (state : D → Disk) (told : R → Told) (d : Device) (e : Event) (old : Acting D (Syncing Away)) (before : R) (r : Result Answer NoMemory) (new : Acting D (Syncing Away)) (after : R) : Type 0 where
  pub leads : (past : Past) (s : State) (held : Held) → Is resting state past old s → IsHeld (told before).held held → Trusts (told before) s → TurnedBy state told d e r past (facing (held_seen d held) s) old before new after

-- the same of the third device

pub record Visited {R : Type 0} (told : R → Told) (e : PeerEvent) (a : Answer) (s : State) (before : R) (new : Syncing Away) (after : R) : Type 0 where
  pub left : State
  pub step : IsStep mode.Replay s (event.Peer e) a left
  pub is : IsThird new left
  pub remote : Left a left.link.remote left (told before) (told after)

abbrev pub VisitedBy : {R : Type 0} → (R → Told) → PeerEvent → Result Answer NoMemory → State → R → Syncing Away → R → Type 0
VisitedBy told e (Ok a) s before new after = Visited told e a s before new after
VisitedBy told e (Err m) s before new after = Unit {0}

pub record Visits {R : Type 0} (told : R → Told) (e : PeerEvent) (old : Syncing Away) (before : R) (r : Result Answer NoMemory) (new : Syncing Away) (after : R) : Type 0 where
  pub leads : (s : State) (held : Held) → IsThird old s → IsHeld (told before).held held → Trusts (told before) s → VisitedBy told e r (facing held s) before new after
