-- What a trace of two devices leaves of their disks and of the remote.
use Rattle.std.specs.Prelude.{◌≡◌, ◌≤◌, ◌+◌, ◌||◌, ℕ, Bool, false, List, [], ◌∷◌, Option, Some, None, cond}
use Rattle.cf_base.specs.declared.answers.Answer.{Answer}
use Rattle.cf_base.specs.declared.events.Event.{Event}
use Rattle.cf_base.specs.declared.policies.Choice.{Choice}
use Rattle.cf_disk.specs.Disk.{State as Disk, capped, may_fail}
use Rattle.cf_filter_events.specs.Pasts.{Gains, StandsFor, last_image}
use Rattle.cf_filter_events.specs.Stepped.{disk_of}
use Rattle.cf_link.specs.Faults.{RoseBy}
use Rattle.cf_model.specs.Growth.{Extends}
use Rattle.cf_model.specs.Identities.{content}
use Rattle.cf_model.specs.Items.{Item}
use Rattle.cf_model.specs.Powers.{StandsNow}
use Rattle.cf_model.specs.State.{State, items_now}
use Rattle.cf_model.specs.Store.{Held}
use Rattle.cf_model_headline.specs.Tokens.{OneVersionEach}
use Rattle.cf_pair_compare.specs.First.{AgreeAt, row_at}
use Rattle.cf_pair_events.specs.declared.answers.PairAnswer.{PairAnswer}
use Rattle.cf_pair_events.specs.declared.answers.PairAnswer.TheVariants as answer
use Rattle.cf_pair_events.specs.declared.comparisons.Comparison.TheVariants as comparison
use Rattle.cf_pair_events.specs.declared.events.PairEvent.{PairEvent}
use Rattle.cf_pair_identities.specs.NamedPairs.{either_stands_full}
use Rattle.cf_pair_model.specs.declared.devices.Device.{Device}
use Rattle.cf_pair_model.specs.declared.devices.Device.TheVariants as device
use Rattle.cf_pair_settled.specs.Settled.{SaysEqual}
use Rattle.cf_pair_traces.specs.Pairs.{IsPairStep, Pair, PairRuns, path_row, path_rows, start_pair}
use Rattle.cf_pair_run.specs.Owned.{PowerBy, faults_of, own}
use Rattle.cf_pair_run.specs.Sharing.{Shares}
use Rattle.cf_pair_run.specs.declared.worlds.PairWorld.{PairWorld}
use Rattle.cf_remote.specs.Peers.{IsHeld}
use Rattle.cf_remote.specs.Told.{Told}
use Rattle.cf_volume_points.specs.Standing.{clusters_for}
use Rattle.cf_world_plays.specs.Led.{FailsArmed, armed_after, met_by}

-- the events of one device, with their answers

abbrev pub with_some : {A : Type 0} → Option A → List A → List A
with_some None xs = xs
with_some (Some x) xs = x ∷ xs

abbrev pub events_by : Device → List (PairEvent × PairAnswer) → List (Event × Answer)
events_by d [] = []
events_by d (x ∷ xs) = with_some (own d x.0 x.1) (events_by d xs)

-- how often the answers report that the remote failed
abbrev pub faults_by : List (PairEvent × PairAnswer) → ℕ
faults_by [] = 0
faults_by (x ∷ xs) = faults_of x.1 + faults_by xs

-- As PairRuns, and where both devices are settled a comparison says equal, if no policy of FULL population stood for one of them so far.
-- Besides, each device has one power cut of its disk for each of its crashes, with its choice and in order, and each `resumed` of it opens
-- what the image that the last of them left stands for.
abbrev pub RunsOver : Bool → Option (List ℕ) → Option (List ℕ) → Pair → List (PairEvent × PairAnswer) → List (Choice × List ℕ) → List (Choice × List ℕ) → Pair → Type 0
RunsOver full a b p [] cuts more q = (q ≡ p) × (cuts ≡ []) × (more ≡ [])
RunsOver full a b p (x ∷ xs) cuts more q =
    (mid : Pair) × (c : Option (List ℕ)) × (d : Option (List ℕ)) × (rest : List (Choice × List ℕ)) × (others : List (Choice × List ℕ))
    × (IsPairStep p x.0 x.1 mid × ((full || either_stands_full p) ≡ false → SaysEqual x.1 p)) × PowerBy a (own device.First x.0 x.1) mid.first cuts c rest × PowerBy b (own device.Second x.0 x.1) mid.second more d others × RunsOver (full || either_stands_full p) c d mid xs rest others q

-- what two devices have where a comparison says equal

pub record AreEqual (s t : State) : Type 0 where
  pub trees : (path : List ℕ) → AgreeAt (path_rows s) (path_rows t) path
  pub contents : (held : Held) (path : List ℕ) (i j : Item) → row_at (path_rows s) path ≡ Some (path_row (items_now s) i) → row_at (path_rows t) path ≡ Some (path_row (items_now t) j)
      → i.directory ≡ false → j.directory ≡ false → content held i ≡ content held j

abbrev pub AgreeBy : PairAnswer → Pair → Type 0
AgreeBy (answer.Comparison comparison.Equal) p = AreEqual p.first p.second
AgreeBy (answer.Comparison (comparison.Unequal path)) p = Unit {0}
AgreeBy (answer.Comparison (comparison.Refused c)) p = Unit {0}
AgreeBy (answer.Event a) p = Unit {0}

abbrev pub EqualsAgree : (p : Pair) (trace : List (PairEvent × PairAnswer)) (q : Pair) → PairRuns p trace q → Type 0
EqualsAgree p [] q runs = Unit {0}
EqualsAgree p (x ∷ xs) q runs = AgreeBy x.1 p × EqualsAgree runs.0 xs q runs.2

-- What holds of every lawful trace of two devices: each token, as it stands at the remote, makes at most one version; the remote only
-- grows; and where a comparison says equal both devices have equal trees and contents.
pub record Promised (p : Pair) (trace : List (PairEvent × PairAnswer)) (q : Pair) : Type 0 where
  pub runs : PairRuns p trace q
  pub one : OneVersionEach p.held q.held
  pub grows : Extends p.held q.held
  pub equals : EqualsAgree p trace q runs

-- Of a disk on which these events were done, with these power cuts, where it reports them. Of each answer Device a device call failed
-- in its event: the count of faults rose by as many at least; and where the disk reported that none was armed as the run began, an
-- answer Device comes only after a stop with no crash between.
pub record LedDisk (disk now : Disk) (told : Option (List (Choice × List ℕ))) (powers : List (Choice × List ℕ)) (mine : List (Event × Answer)) : Type 0 where
  pub gains : Gains powers disk.powers told
  pub met : capped (disk.faults + met_by mine) ≤ now.faults
  pub armed : disk.armed ≡ Some None → FailsArmed false mine × (may_fail now.armed ≤ cond (armed_after false mine) 1 0)

-- the world began on these disks with this remote, and has done these events
pub record LeadsWorld {D R : Type 0} (state : D → Disk) (told : R → Told) (held : Held) (first second : D) (remote : R) (trace : List (PairEvent × PairAnswer)) (w : PairWorld D R) : Type 0 where
  pub left : Pair
  pub first_powers : List (Choice × List ℕ)
  pub second_powers : List (Choice × List ℕ)
  pub first_told : Option (List (Choice × List ℕ))
  pub second_told : Option (List (Choice × List ℕ))
  pub runs : RunsOver false None None (start_pair held (clusters_for (state first)) (clusters_for (state second))) trace first_powers second_powers left
  pub first_led : LedDisk (state first) (state (disk_of w.first)) first_told first_powers (events_by device.First trace)
  pub second_led : LedDisk (state second) (state (disk_of w.second)) second_told second_powers (events_by device.Second trace)
  pub faulted : RoseBy (faults_by trace) (told remote).faults (told w.remote).faults
  pub shares : Shares state told (record { told = first_told; last = last_image None first_powers }) (record { told = second_told; last = last_image None second_powers }) w left

-- whatever the remote held that it began with, where that reports nothing of it
abbrev pub HasRun : {D R : Type 0} → (D → Disk) → (R → Told) → D → D → R → List (PairEvent × PairAnswer) → PairWorld D R → Type 0
HasRun state told first second remote trace w = (held : Held) → IsHeld (told remote).held held → LeadsWorld state told held first second remote trace w

-- what is handed back of a disk
pub record LeavesDisk (disk back : Disk) (powers : List (Choice × List ℕ)) (mine : List (Event × Answer)) (left : State) : Type 0 where
  pub gains : Gains powers disk.powers back.powers
  pub met : capped (disk.faults + met_by mine) ≤ back.faults
  pub armed : disk.armed ≡ Some None → FailsArmed false mine
  pub reports : disk.armed ≡ Some None → may_fail back.armed ≤ 1
  pub lasts : (c : List ℕ) → back.may_leave c → StandsNow StandsFor left c

-- What a trace leaves of two disks on which it began with new volumes, and of the remote that both devices shared. One remote state runs
-- through the whole trace, and each device's events are lawful with it. The power cuts of each disk are those of its device's crashes, and
-- whatever a crash leaves of it then stands for a point that a restart may open. Each answer Device is counted at the device's own disk,
-- and each line of a fault and each RemoteFault at the remote. The remote holds what the last pair has.
pub record LeadsPair {D R : Type 0} (state : D → Disk) (told : R → Told) (held : Held) (first second : D) (remote : R) (trace : List (PairEvent × PairAnswer)) (first_back second_back : D) (after : R) : Type 0 where
  pub left : Pair
  pub first_powers : List (Choice × List ℕ)
  pub second_powers : List (Choice × List ℕ)
  pub runs : RunsOver false None None (start_pair held (clusters_for (state first)) (clusters_for (state second))) trace first_powers second_powers left
  pub first_leaves : LeavesDisk (state first) (state first_back) first_powers (events_by device.First trace) left.first
  pub second_leaves : LeavesDisk (state second) (state second_back) second_powers (events_by device.Second trace) left.second
  pub faulted : RoseBy (faults_by trace) (told remote).faults (told after).faults
  pub holds : IsHeld (told after).held left.held
  pub promised : Promised (start_pair held (clusters_for (state first)) (clusters_for (state second))) trace left

abbrev pub Leads : {D R : Type 0} → (D → Disk) → (R → Told) → D → D → R → List (PairEvent × PairAnswer) → D → D → R → Type 0
Leads state told first second remote trace first_back second_back after = (held : Held) → IsHeld (told remote).held held → LeadsPair state told held first second remote trace first_back second_back after
