-- A device without a disk, and the states that it stands for.
use Rattle.std.specs.Prelude.{◌≡◌, ℕ, false, length, [], Option, None, Result, Ok, Err}
use Rattle.cf_base.specs.declared.answers.Answer.{Answer}
use Rattle.cf_base.specs.declared.answers.Shown.TheVariants as shown
use Rattle.cf_base.specs.declared.events.Event.{Event}
use Rattle.cf_base.specs.declared.memory.OutOfMemory.{OutOfMemory as NoMemory}
use Rattle.cf_base.specs.declared.policies.Mode.TheVariants as mode
use Rattle.cf_base.specs.declared.policies.Policy.{Policy}
use Rattle.cf_check_report.specs.Playing.{ResumesNewest, aim_after}
use Rattle.cf_check_traces.specs.Tests.{is_device}
use Rattle.cf_check_world.specs.Remotes.{Failing, told_by}
use Rattle.cf_check_world.specs.declared.places.Place.{Place}
use Rattle.cf_check_world.specs.declared.places.Place.TheVariants as place
use Rattle.cf_check_world.specs.declared.places.Resting.{Resting}
use Rattle.cf_engine.specs.Actors.{Syncing, acts_of}
use Rattle.cf_filter.specs.Starting.{desk_at}
use Rattle.cf_filter_events.specs.Actors.{Acts, Reopens}
use Rattle.cf_filter_events.specs.Answered.{answer_with}
use Rattle.cf_filter_events.specs.Meaning.{IsDiskOf, IsOn}
use Rattle.cf_filter_events.specs.Pasts.{Past}
use Rattle.cf_filter_events.specs.declared.places.RunningOn.{RunningOn as Run}
use Rattle.cf_filter_machine.specs.Held.{Held}
use Rattle.cf_filter_machine.specs.Keeping.{HasKeptPoints}
use Rattle.cf_filter_machine.specs.Sensing as sensing
use Rattle.cf_model.specs.Books.{opened_of}
use Rattle.cf_model.specs.Lawful.{IsStep}
use Rattle.cf_model.specs.State.{Filter, Off, On, State}
use Rattle.cf_volume.specs.Calls.{OnDisk}
use Rattle.cf_volume_plain.specs.Plains.{Blocks, plain_state}
use Rattle.cf_volume_points.specs.At.{At}
use Rattle.cf_volume_room.specs.Aims.{IsAimedBy}

abbrev pub acts : Acts (Syncing Failing)
acts = acts_of told_by

-- no power cut of a disk is known
abbrev pub no_past : Past
no_past = record { told = None; last = None }

-- The volume is on, and its ground wants a commit where it is aimed.
pub record StandsOn (x : Run Blocks (Syncing Failing)) (aim : Option ℕ) (s : State) : Type 0 where
  pub is : IsOn acts plain_state no_past x s
  pub power : s.power ≡ On
  pub aims : x.filter.disk.aim ≡ aim

-- The volume is off, and all of it is as the crash found it.
pub record StandsOff (x : Resting) (aim : Option ℕ) (s : State) : Type 0 where
  pub mode : s.mode ≡ mode.Replay
  pub power : s.power ≡ Off
  pub holds : acts.holds x.actor s
  pub policy : x.policy ≡ s.filter.policy
  pub disk : IsDiskOf plain_state no_past (plain_state x.volume.disk) s.filter.volume
  pub volume : At (plain_state x.volume.disk) x.volume.known s.filter.volume
  pub usable : x.volume.known.broken ≡ false
  pub points : HasKeptPoints s.filter.volume
  pub aimed : IsAimedBy aim s.filter.volume

-- one that is lost stands for no state
abbrev pub Stands : Place → Option ℕ → State → Type 0
Stands (place.On x) aim s = StandsOn x aim s
Stands (place.Off x) aim s = StandsOff x aim s
Stands place.Lost aim s = ⊥

-- one that is not lost stands for some state
abbrev pub Lives : Place → Type 0
Lives (place.On x) = (aim : Option ℕ) × (s : State) × StandsOn x aim s
Lives (place.Off x) = (aim : Option ℕ) × (s : State) × StandsOff x aim s
Lives place.Lost = Unit {0}

-- A step of the definitions, with this answer, which is not Device; it stands for the state after it. Where memory runs out it is lost.
abbrev pub DoesTo : Event → (next aim : Option ℕ) → State → Result Answer NoMemory → Place → Type 0
DoesTo e next aim s (Ok a) new = (t : State) × IsStep mode.Replay s e a t × (is_device a.shown ≡ false) × Stands new (aim_after e a aim next) t × ResumesNewest e a s.filter.volume.points
DoesTo e next aim s (Err m) new = new ≡ place.Lost

-- So it is in each state that it stands for. One that is lost stays so.
pub record Does (e : Event) (next : Option ℕ) (old : Place) (r : Result Answer NoMemory) (new : Place) : Type 0 where
  pub leads : (aim : Option ℕ) (s : State) → Stands old aim s → DoesTo e next aim s r new
  pub lost : old ≡ place.Lost → new ≡ place.Lost

-- the filter on a volume that was just opened
abbrev pub filter_on : OnDisk Blocks → Policy → Held Blocks
filter_on v policy = record { disk = v.disk; known = v.known; desk = desk_at v.known.epoch policy }

-- The volume is on, the actor knows that, and the answer tells what was opened.
abbrev pub Reopened : OnDisk Blocks → Policy → Syncing Failing → Result Answer NoMemory → Place → Type 0
Reopened v policy old (Ok a) new =
    (actor : Syncing Failing) × (new ≡ place.On (record { filter = filter_on v policy; actor = actor })) × Reopens acts old actor
    × ((f : Filter) → sensing.Stands plain_state (filter_on v policy) f → a ≡ answer_with (shown.Resumed (length f.volume.log) (opened_of f.volume.book)) [])
Reopened v policy old (Err m) new = new ≡ place.Lost
