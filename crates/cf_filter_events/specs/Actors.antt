-- What acts beside the filter in the world of a command, and how it stands for its part of the state.
use Rattle.std.specs.Prelude.{◌≡◌, ℕ, Bool, true, false, List, [], None, Result, Ok, Err}
use Rattle.cf_filter_events.specs.Faulted.{FaultsTo}
use Rattle.cf_base.specs.declared.answers.Answer.{Answer}
use Rattle.cf_base.specs.declared.events.Event.{Event}
use Rattle.cf_base.specs.declared.events.Event.TheVariants as event
use Rattle.cf_base.specs.declared.memory.OutOfMemory.{OutOfMemory as NoMemory}
use Rattle.cf_base.specs.declared.policies.Mode.{Mode}
use Rattle.cf_engine_host.specs.CallbackLaws.{Plays}
use Rattle.cf_engine_host.specs.Callbacks.{Answering}
use Rattle.cf_engine_provider.specs.Agencies.{faults_among}
use Rattle.cf_link.specs.Faults.{AsksFailed}
use Rattle.cf_model.specs.Events.{begun}
use Rattle.cf_model.specs.Lawful.{IsStep}
use Rattle.cf_model.specs.Ports.{Act}
use Rattle.cf_model.specs.Restarts.{with_opened}
use Rattle.cf_model.specs.State.{Filter, On, Point, State, with_filter}
use Rattle.cf_provider.specs.Sights.{Sight}
use Rattle.cf_provider.specs.declared.outcomes.Callback.{Callback}
use Rattle.cf_remote.specs.Peers.{IsCount}
use Rattle.cf_remote.specs.Told.{Told}

-- an event begins without notes
abbrev pub hushed : Filter → Filter
hushed f = record f { notes = [] }

-- The mode of the command, and how an actor stands for its part of a state: between two events while the volume is open and no event
-- met Device; while the volume is broken or off; and within an event. And what the remote reports that it speaks with.
pub record Acts (A : Type 0) : Type 1 where
  pub mode : Mode
  pub stands : A → State → Type 0
  pub holds : A → State → Type 0
  pub sees : A → State → Type 0
  pub remote : A → Told

-- what an actor that acts within an event knows of the state
pub record IsActing {A : Type 0} (acts : Acts A) (x : A) (t : State) : Type 0 where
  pub mode : t.mode ≡ acts.mode
  pub power : t.power ≡ On
  pub stray : t.running.stray ≡ None
  pub stands : acts.stands x t

-- the parts of the state that an actor may stand for
pub record IsBeside (s t : State) : Type 0 where
  pub plan : t.plan ≡ s.plan
  pub link : t.link ≡ s.link
  pub volatile : t.volatile ≡ s.volatile
  pub tokens : t.peer_tokens ≡ s.peer_tokens

-- The actor plays the provider of its mode. How it stands hangs neither on the filter nor on what the running event did; while the volume
-- is broken or off it hangs on the link and on the tokens of other devices alone. The state counts the asks of its remote. As many of
-- these fail in a callback as it notes lines of a fault.
pub record IsActor {A : Type 0} (answers : Answering A) (acts : Acts A) : Type 0 where
  pub plays : Plays answers acts.sees
  pub sees_on : (x : A) (t : State) (f : Filter) → acts.sees x t → acts.sees x (with_filter f t)
  pub acting : (x : A) (t : State) → acts.sees x t → IsActing acts x t
  pub stands_on : (x : A) (s t : State) → IsBeside s t → acts.stands x s → acts.stands x t
  pub stands_held : (x : A) (s : State) → acts.stands x s → acts.holds x s
  pub asked : (x : A) (s : State) → acts.holds x s → IsCount (acts.remote x).asks s.link.remote_asks
  pub holds_on : (x : A) (s t : State) → t.link ≡ s.link → t.peer_tokens ≡ s.peer_tokens → acts.holds x s → acts.holds x t
  pub faulted : (x y : A) (seen : Sight) (call : Callback) (did : List Act) → answers x seen call did y → AsksFailed (faults_among did) (acts.remote x) (acts.remote y)

abbrev pub is_call : Event → Bool
is_call (event.Call c) = true
is_call _ = false

abbrev pub is_device_event : Event → Bool
is_device_event (event.Device e) = true
is_device_event _ = false

-- an event begins
abbrev pub Begins : {A : Type 0} → Acts A → A → A → Type 0
Begins acts old new = (s : State) → s.mode ≡ acts.mode → s.power ≡ On → acts.stands old s → acts.sees new (begun s)

-- the volume is opened again, at any point and in any epoch
abbrev pub Reopens : {A : Type 0} → Acts A → A → A → Type 0
Reopens acts old new = (s : State) (p : Point) (epoch : ℕ) → s.mode ≡ acts.mode → acts.holds old s → acts.stands new (with_opened p epoch s)

-- of the filter the event changes its notes alone
pub record LeavesFilter (s t : State) : Type 0 where
  pub mode : t.mode ≡ s.mode
  pub power : t.power ≡ s.power
  pub opens : t.failed_opens ≡ s.failed_opens
  pub filter : hushed t.filter ≡ hushed s.filter

-- a step of the definitions, with this answer, that leaves the filter
abbrev pub LeavesTo : {A : Type 0} → Mode → (A → State → Type 0) → Event → State → Result Answer NoMemory → A → Type 0
LeavesTo m Is e s (Ok a) new = (t : State) × IsStep m s e a t × LeavesFilter s t × Is new t
LeavesTo m Is e s (Err k) new = Unit {0}

-- An event that needs no volume: it is done whatever the power is. As many of its asks of the remote fail as the
-- answer reports.
pub record StepsBeside {A : Type 0} (acts : Acts A) (e : Event) (old : A) (r : Result Answer NoMemory) (new : A) : Type 0 where
  pub on : (s : State) → s.mode ≡ acts.mode → acts.stands old s → LeavesTo acts.mode acts.stands e s r new
  pub held : (s : State) → s.mode ≡ acts.mode → acts.holds old s → LeavesTo acts.mode acts.holds e s r new
  pub faults : (s : State) → acts.holds old s → FaultsTo r (acts.remote old) (acts.remote new)
