-- What the trace of a world is, and what it leaves.
use Rattle.std.specs.Prelude.{◌≡◌, ◌≤◌, ◌+◌, ℕ, Bool, true, false, List, [], ◌∷◌, Option, Some, None, cond}
use Rattle.cf_filter_events.specs.Actors.{Acts}
use Rattle.cf_filter_events.specs.Counted.{meets_device}
use Rattle.cf_filter_events.specs.Meaning.{Is}
use Rattle.cf_filter_events.specs.Pasts.{Gains, StandsFor, last_image}
use Rattle.cf_filter_events.specs.Stepped.{actor_of, disk_of}
use Rattle.cf_filter_events.specs.declared.places.Acting.{Acting}
use Rattle.cf_base.specs.declared.answers.Answer.{Answer}
use Rattle.cf_base.specs.declared.events.DeviceEvent.{DeviceEvent}
use Rattle.cf_base.specs.declared.events.DeviceEvent.TheVariants as device
use Rattle.cf_base.specs.declared.events.Event.{Event}
use Rattle.cf_base.specs.declared.events.Event.TheVariants as event
use Rattle.cf_base.specs.declared.policies.Choice.{Choice}
use Rattle.cf_base.specs.declared.policies.Mode.{Mode}
use Rattle.cf_base.specs.declared.policies.Mode.TheVariants.{Filter, Replay}
use Rattle.cf_disk.specs.Disk.{State as Disk, capped, may_fail}
use Rattle.cf_link.specs.Faults.{RoseBy}
use Rattle.cf_link.specs.Linked.{IsRemote}
use Rattle.cf_link.specs.Listed.{Lists}
use Rattle.cf_model.specs.Lawful.{Lawful}
use Rattle.cf_model.specs.Powers.{RunsOver, StandsNow}
use Rattle.cf_model.specs.State.{State, start}
use Rattle.cf_model.specs.Store.{Held}
use Rattle.cf_model_convergence.specs.Tidy.{IsTidy}
use Rattle.cf_model_headline.specs.Headline.{Headline, Premises, Promises}
use Rattle.cf_model_headline.specs.Reports.{OfEach}
use Rattle.cf_model_laws.specs.Premises.{IsFresh}
use Rattle.cf_model_settling.specs.Settling.{SettlesIfSilent}
use Rattle.cf_remote.specs.Peers.{IsCount, IsHeld}
use Rattle.cf_remote.specs.Told.{Told}
use Rattle.cf_world_plays.specs.States.{used_blocks}
use Rattle.cf_volume_points.specs.Standing.{clusters_for, clusters_on}
use Rattle.cf_world_plays.specs.RemoteFaults.{ReportsExactly, ReportsListed, faults_by}

-- how many answers of a trace report a device call that failed
abbrev pub met_by : List (Event × Answer) → ℕ
met_by [] = 0
met_by (p ∷ ps) = cond (meets_device p.1.shown) 1 0 + met_by ps

-- whether the disk is armed after an event: from a stop on, until a crash
abbrev pub armed_by : Bool → DeviceEvent → Bool
armed_by armed (device.Stop calls) = true
armed_by armed (device.Crash choice) = false
armed_by armed device.Restart = armed

abbrev pub armed_then : Bool → Event → Bool
armed_then armed (event.Call c) = armed
armed_then armed (event.Device e) = armed_by armed e
armed_then armed (event.Peer e) = armed
armed_then armed (event.Engine e) = armed
armed_then armed (event.Provider e) = armed

abbrev pub armed_after : Bool → List (Event × Answer) → Bool
armed_after armed [] = armed
armed_after armed (p ∷ ps) = armed_after (armed_then armed p.0) ps

-- each answer Device comes while the disk is armed
abbrev pub FailsArmed : Bool → List (Event × Answer) → Type 0
FailsArmed armed [] = Unit {0}
FailsArmed armed (p ∷ ps) = (meets_device p.1.shown ≡ true → armed ≡ true) × FailsArmed (armed_then armed p.0) ps

-- Which remote of the definitions a run may begin with. In `replay` it is what the remote that is handed in holds, where that reports it,
-- and it was asked nothing yet. In `filter` no event touches the remote, so it may be any.
abbrev pub Begins : {R : Type 0} → (R → Told) → Mode → R → Held → Type 0
Begins told Replay remote held = IsHeld (told remote).held held × IsCount (told remote).asks 0
Begins told Filter remote held = Unit {0}

-- the answers are lawful, whichever of these a run began with
abbrev pub IsLawful : Mode → (Held → Type 0) → ℕ → List (Event × Answer) → Type 0
IsLawful m From clusters trace = (held : Held) → From held → Lawful m held clusters trace

-- what a run of `replay` leaves of the remote
pub record RemoteLeft {R : Type 0} (told : R → Told) (held : Held) (clusters : ℕ) (trace : List (Event × Answer)) (left : State) (remote : R) : Type 0 where
  -- it holds what the last state has, and was asked as often; one that reports what it holds has kept its rules
  pub holds : IsRemote (told remote) left.link
  -- what a user may rely on, over a remote that kept its rules
  pub headline : Premises held left → Headline held clusters trace left
  -- and that both sides agree after each silent `sync` and `work`, where its items were a tree with names when it was handed in
  pub settles : Premises held left → IsTidy held → OfEach Replay held clusters trace left (λ before s e a t. SettlesIfSilent before s e a t)

abbrev pub LeavesRemote : {R : Type 0} → (R → Told) → Mode → Held → ℕ → List (Event × Answer) → State → R → Type 0
LeavesRemote told Replay held clusters trace left remote = RemoteLeft told held clusters trace left remote
LeavesRemote told Filter held clusters trace left remote = Unit {0}

-- no more blocks hold a byte than the disk has clusters, which are at most 65,536
abbrev pub UsesFew : Disk → State → Type 0
UsesFew d s = (used_blocks s ≤ clusters_on d.seen) × (used_blocks s ≤ 65536)

-- What a trace leaves of a disk on which it began with a new volume, and of the remote. There is one power cut of the disk for each
-- crash, with its choice and in order, and each `resumed` opens what the image that the last of them left stands for. These are all
-- the power cuts that the disk had, where it reports them. Of each answer Device a device call failed in its event: the count of
-- faults rose by as many at least; and where the disk reported that none was armed as the run began, an answer Device comes only after a
-- stop with no crash between. Of each line of a fault and each RemoteFault an ask of the remote failed: its count of faults rose by as
-- many at least, and where it lists the asks that fail these are exactly the failures that the answers report. Whatever a crash leaves
-- then stands for a point that a restart may open. No more blocks are in use than the disk has clusters. Of the same trace all holds that a
-- user is promised of both commands, where the remote had recorded no token.
pub record LeadsDisk {D R : Type 0} (state : D → Disk) (told : R → Told) (m : Mode) (held : Held) (disk : D) (first : R) (trace : List (Event × Answer)) (back : D) (after : R) : Type 0 where
  pub left : State
  pub powers : List (Choice × List ℕ)
  pub runs : RunsOver StandsFor m None (start m held (clusters_for (state disk))) trace powers left
  pub gains : Gains powers (state disk).powers (state back).powers
  pub met : capped ((state disk).faults + met_by trace) ≤ (state back).faults
  pub armed : (state disk).armed ≡ Some None → FailsArmed false trace
  pub reports : (state disk).armed ≡ Some None → may_fail (state back).armed ≤ 1
  pub faulted : RoseBy (faults_by trace) (told first).faults (told after).faults
  pub exactly : ReportsExactly m (told first) (start m held (clusters_for (state disk))) trace powers left runs
  pub lasts : (c : List ℕ) → (state back).may_leave c → StandsNow StandsFor left c
  pub few : UsesFew (state back) left
  pub promises : IsFresh held → Promises m held (clusters_for (state disk)) trace left
  pub remote : LeavesRemote told m held (clusters_for (state disk)) trace left after

-- so it is whichever remote of the definitions the run began with
abbrev pub Leads : {D R : Type 0} → (D → Disk) → (R → Told) → Mode → D → R → List (Event × Answer) → D → R → Type 0
Leads state told m disk first trace back remote = (held : Held) → Begins told m first held → LeadsDisk state told m held disk first trace back remote

-- The same of a world under an actor, which stands for the state after these power cuts.
pub record LeadsWorld {D A : Type 0} (state : D → Disk) (W : Acts A) (held : Held) (disk : D) (first : A) (trace : List (Event × Answer)) (a : Acting D A) : Type 0 where
  pub left : State
  pub powers : List (Choice × List ℕ)
  pub told : Option (List (Choice × List ℕ))
  pub runs : RunsOver StandsFor W.mode None (start W.mode held (clusters_for (state disk))) trace powers left
  pub gains : Gains powers (state disk).powers told
  pub met : capped ((state disk).faults + met_by trace) ≤ (state (disk_of a)).faults
  pub armed : (state disk).armed ≡ Some None → FailsArmed false trace × (may_fail (state (disk_of a)).armed ≤ cond (armed_after false trace) 1 0)
  pub faulted : RoseBy (faults_by trace) (W.remote first).faults (W.remote (actor_of a)).faults
  pub exactly : (fails : List ℕ) → Lists fails (W.remote first) → Lists fails (W.remote (actor_of a)) × ReportsListed fails W.mode None (start W.mode held (clusters_for (state disk))) trace powers left runs
  pub is : Is W state (record { told = told; last = last_image None powers }) a left

-- the remotes of the definitions that the actor stands for as the run begins
abbrev pub Stood : {A : Type 0} → Acts A → ℕ → A → Held → Type 0
Stood W clusters first held = W.stands first (start W.mode held clusters)

-- The world began on this disk with this actor, and has done these events. It is there but while an event goes on.
abbrev pub HasRunOn : {D A : Type 0} → (D → Disk) → Acts A → D → A → List (Event × Answer) → Option (Acting D A) → Type 0
HasRunOn state W disk first trace None = ⊥
HasRunOn state W disk first trace (Some a) = (held : Held) → Stood W (clusters_for (state disk)) first held → LeadsWorld state W held disk first trace a

-- What is left of disk and actor.
pub record LeadsActor {D A : Type 0} (state : D → Disk) (W : Acts A) (held : Held) (disk : D) (first : A) (trace : List (Event × Answer)) (back : D) (actor : A) : Type 0 where
  pub left : State
  pub powers : List (Choice × List ℕ)
  pub runs : RunsOver StandsFor W.mode None (start W.mode held (clusters_for (state disk))) trace powers left
  pub gains : Gains powers (state disk).powers (state back).powers
  pub met : capped ((state disk).faults + met_by trace) ≤ (state back).faults
  pub armed : (state disk).armed ≡ Some None → FailsArmed false trace
  pub reports : (state disk).armed ≡ Some None → may_fail (state back).armed ≤ 1
  pub faulted : RoseBy (faults_by trace) (W.remote first).faults (W.remote actor).faults
  pub exactly : (fails : List ℕ) → Lists fails (W.remote first) → ReportsListed fails W.mode None (start W.mode held (clusters_for (state disk))) trace powers left runs
  pub lasts : (c : List ℕ) → (state back).may_leave c → StandsNow StandsFor left c
  pub few : UsesFew (state back) left
  pub holds : W.holds actor left

-- whichever remote of the definitions the actor stood for
abbrev pub LeavesActor : {D A : Type 0} → (D → Disk) → Acts A → D → A → List (Event × Answer) → D → A → Type 0
LeavesActor state W disk first trace back actor = (held : Held) → Stood W (clusters_for (state disk)) first held → LeadsActor state W held disk first trace back actor

-- and of the state in which the trace ends this is said
abbrev pub LeavesText : {D A : Type 0} → (D → Disk) → Acts A → D → A → List (Event × Answer) → D → A → (State → Type 0) → Type 0
LeavesText state W disk first trace back actor Said = (held : Held) → Stood W (clusters_for (state disk)) first held → (l : LeadsActor state W held disk first trace back actor) × Said l.left
