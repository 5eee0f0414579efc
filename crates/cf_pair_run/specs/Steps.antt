-- What the events of two devices do.
use Rattle.std.specs.Prelude.{◌≡◌, ◌⊎◌, false, Result, Ok, Err}
use Rattle.cf_base.specs.declared.answers.Answer.{Answer}
use Rattle.cf_base.specs.declared.codes.CallError.{CallError}
use Rattle.cf_base.specs.declared.codes.CallError.TheVariants.{No, OutOfMemory}
use Rattle.cf_base.specs.declared.memory.OutOfMemory.{OutOfMemory as NoMemory}
use Rattle.cf_disk.specs.Disk.{HasFailed, State as Disk}
use Rattle.cf_filter_events.specs.Counted.{GoesOn}
use Rattle.cf_filter_events.specs.Pasts.{Past}
use Rattle.cf_filter_events.specs.Stepped.{disk_of}
use Rattle.cf_link.specs.Faults.{RoseBy}
use Rattle.cf_model.specs.Store.{Held}
use Rattle.cf_pair_events.specs.declared.answers.PairAnswer.{PairAnswer}
use Rattle.cf_pair_events.specs.declared.answers.PairAnswer.TheVariants as answer
use Rattle.cf_pair_events.specs.declared.events.PairEvent.{PairEvent}
use Rattle.cf_pair_model.specs.declared.devices.Device.TheVariants as device
use Rattle.cf_pair_identities.specs.NamedPairs.{HasNamed}
use Rattle.cf_pair_settled.specs.Settled.{SaysEqual}
use Rattle.cf_pair_traces.specs.Pairs.{IsPairStep, Pair, start_pair}
use Rattle.cf_pair_run.specs.Owned.{Owned, faults_of, own}
use Rattle.cf_pair_run.specs.Sharing.{Shares}
use Rattle.cf_pair_run.specs.declared.worlds.PairWorld.{PairWorld}
use Rattle.cf_remote.specs.Peers.{IsHeld}
use Rattle.cf_remote.specs.Told.{Told}
use Rattle.cf_volume_points.specs.Standing.{clusters_for}

-- A step of the definitions, with this answer, with the power cuts of each disk, and with what the event does to it. The remote's
-- count of faults rose as often as the answer reports that it failed. A comparison of settled devices says equal, where identities are
-- spelled as an engine spells them and the entries of each directory have come.
pub record Stepped {D R : Type 0} (state : D → Disk) (told : R → Told) (e : PairEvent) (a : PairAnswer) (first second : Past) (p : Pair) (old new : PairWorld D R) : Type 0 where
  pub left : Pair
  pub first_then : Past
  pub second_then : Past
  pub step : IsPairStep p e a left
  pub settled : HasNamed false p → SaysEqual a p
  pub shares : Shares state told first_then second_then new left
  pub first_owns : Owned state (own device.First e a) left.first first first_then (disk_of old.first) (disk_of new.first)
  pub second_owns : Owned state (own device.Second e a) left.second second second_then (disk_of old.second) (disk_of new.second)
  pub rose : RoseBy (faults_of a) (told old.remote).faults (told new.remote).faults

abbrev pub SteppedBy : {D R : Type 0} → (D → Disk) → (R → Told) → PairEvent → Result PairAnswer NoMemory → Past → Past → Pair → PairWorld D R → PairWorld D R → Type 0
SteppedBy state told e (Ok a) first second p old new = Stepped state told e a first second p old new
SteppedBy state told e (Err m) first second p old new = Unit {0}

-- in each pair that the world stands for
pub record Steps {D R : Type 0} (state : D → Disk) (told : R → Told) (e : PairEvent) (old : PairWorld D R) (r : Result PairAnswer NoMemory) (new : PairWorld D R) : Type 0 where
  pub leads : (first second : Past) (p : Pair) → Shares state told first second old p → SteppedBy state told e r first second p old new

-- A world in which nothing has happened, on these disks and with this remote: the disks had no power cut in this, and no call of
-- them that was not armed failed.
pub record Begun {D R : Type 0} (state : D → Disk) (told : R → Told) (first second : D) (remote : R) (w : PairWorld D R) : Type 0 where
  pub shares : (held : Held) (a b : Past) → IsHeld (told remote).held held → a.told ≡ (state first).powers → b.told ≡ (state second).powers
      → Shares state told a b w (start_pair held (clusters_for (state first)) (clusters_for (state second)))
  pub first_goes : GoesOn (state first) (state (disk_of w.first))
  pub second_goes : GoesOn (state second) (state (disk_of w.second))
  pub same : w.remote ≡ remote

-- the answer to an event of a device
abbrev pub answered_by : Result Answer NoMemory → Result PairAnswer NoMemory
answered_by (Ok a) = Ok (answer.Event a)
answered_by (Err m) = Err m

-- why a world did not start: a call of one of the disks failed, if that is told
abbrev pub IsStopped : CallError → (first second first_then second_then : Disk) → Type 0
IsStopped OutOfMemory first second first_then second_then = Unit {0}
IsStopped (No c) first second first_then second_then = HasFailed first first_then ⊎ HasFailed second second_then
