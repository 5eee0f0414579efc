-- What a run of two devices writes, and how it ends.
use Rattle.std.specs.Prelude.{◌≡◌, ◌≢◌, ◌⊎◌, ℕ, ◌+◌, ◌<◌, ◌≤◌, List, [], ◌∷◌, ◌++◌, length, map, Option}
use Rattle.cf_base.specs.declared.statuses.Status.{Status}
use Rattle.cf_base.specs.declared.statuses.Status.TheVariants as status
use Rattle.cf_disk.specs.Disk.{State as Disk, size_of}
use Rattle.cf_io.specs.Moves.{Adds, AddsFront}
use Rattle.cf_model.specs.Store.{Held}
use Rattle.cf_pair_events.specs.declared.answers.PairAnswer.{PairAnswer}
use Rattle.cf_pair_events.specs.declared.events.PairEvent.{PairEvent}
use Rattle.cf_pair_report.specs.Texts.{text as text_of, texts}
use Rattle.cf_pair_run.specs.Led.{Leads}
use Rattle.cf_pair_script.specs.Causes.{IsCause}
use Rattle.cf_pair_script.specs.PairScript.{IsScript}
use Rattle.cf_pair_traces.specs.Pairs.{PairLawful}
use Rattle.cf_remote.specs.Peers.{IsHeld}
use Rattle.cf_remote.specs.Told.{Told}
use Rattle.cf_script.specs.Script.{lines_of}
use Rattle.cf_script.specs.declared.script_errors.ScriptError.{ScriptError}
use Rattle.cf_script.specs.declared.script_errors.ScriptError.TheVariants as fails
use Rattle.cf_volume_points.specs.Standing.{clusters_for}
use Rattle.cf_world_plays.specs.Runs.{IsComplete, IsLength, IsUnfit, fail_line, most_report, most_script}
use Rattle.cf_world_devices.specs.Sizes.{IsFit}

abbrev pub Trace : Type 0
Trace = List (PairEvent × PairAnswer)

abbrev pub events_of : Trace → List PairEvent
events_of trace = map (λ p. p.0) trace

abbrev pub answers_of : Trace → List PairAnswer
answers_of trace = map (λ p. p.1) trace

abbrev pub report_of : Trace → List ℕ
report_of trace = texts (answers_of trace)

-- the text is a script
abbrev pub IsGood : List ℕ → Type 0
IsGood text = (events : List PairEvent) × IsScript text events

-- Some first events of the text were done, with these answers, and these are still to do. Of the trace this is said.
pub record Played (Said : Trace → Type 0) (text : List ℕ) (trace : Trace) (more : List PairEvent) : Type 0 where
  pub events : List PairEvent
  pub spelled : IsScript text events
  pub first : events_of trace ++ more ≡ events
  pub said : Said trace

-- The report of a text: answers, one for each event that it spells.
pub record Reports (Said : Trace → Type 0) (text : List ℕ) (old new : Option (List ℕ)) : Type 0 where
  pub trace : Trace
  pub played : Played Said text trace []
  pub written : Adds old new (report_of trace)
  pub short : length (report_of trace) ≤ most_report

-- A front of a report: of the answers to some first events.
pub record ReportsFront (Said : Trace → Type 0) (text : List ℕ) (old new : Option (List ℕ)) : Type 0 where
  pub trace : Trace
  pub more : List PairEvent
  pub played : Played Said text trace more
  pub written : AddsFront old new (report_of trace)

-- A report that would pass its limit by the text of the next answer. Its event was done too, and this is said of the trace that ends
-- with it.
pub record ReportsLong (Said : Trace → Type 0) (text : List ℕ) (old new : Option (List ℕ)) : Type 0 where
  pub trace : Trace
  pub event : PairEvent
  pub answer : PairAnswer
  pub more : List PairEvent
  pub played : Played Said text (trace ++ (event, answer) ∷ []) more
  pub written : Adds old new (report_of trace)
  pub passes : most_report < length (report_of trace) + length (text_of answer)

-- This line is written of the text, which is not read for another cause than memory.
pub record IsRefusal (text line : List ℕ) : Type 0 where
  pub fail : ScriptError
  pub why : IsCause (lines_of text) fail
  pub not_memory : fail ≢ fails.OutOfMemory
  pub is : line ≡ fail_line fail

abbrev pub Refuses : List ℕ → Option (List ℕ) → Option (List ℕ) → Type 0
Refuses text old new = (line : List ℕ) × IsRefusal text line × Adds old new line

abbrev pub RefusesFront : List ℕ → Option (List ℕ) → Option (List ℕ) → Type 0
RefusesFront text old new = (line : List ℕ) × IsRefusal text line × AddsFront old new line

-- What was written where the run ended early: a front of the line of a refusal, and disks and remote are as they came, or a front of a
-- report, of whose trace this is said.
abbrev pub StopsEarly : (Trace → Type 0) → Type 0 → List ℕ → Option (List ℕ) → Option (List ℕ) → Type 0
StopsEarly Said Kept text old new = (RefusesFront text old new × Kept) ⊎ ReportsFront Said text old new

-- What was written of a text, by the status. At Done, at SinkFault and where the report is too long this is said of the trace, which
-- speaks of what is left. At OutOfMemory the trace is lawful, and no more is said, for memory may have run out within an event.
abbrev pub Writes : (Said Lawful : Trace → Type 0) → Type 0 → List ℕ → Option (List ℕ) → Option (List ℕ) → Status → Type 0
Writes Said Lawful Kept text old new status.Done = Reports Said text old new
Writes Said Lawful Kept text old new status.BadScript = Refuses text old new × Kept
Writes Said Lawful Kept text old new status.SinkFault = StopsEarly Said Kept text old new
Writes Said Lawful Kept text old new status.OutOfMemory = Adds old new [] ⊎ StopsEarly Lawful Kept text old new
Writes Said Lawful Kept text old new status.Usage = Adds old new [] × Kept
Writes Said Lawful Kept text old new status.SourceFault = Adds old new [] × Kept
Writes Said Lawful Kept text old new status.TooLong = (most_script < length text × Adds old new [] × Kept) ⊎ (length text ≤ most_script × ReportsLong Said text old new)
Writes Said Lawful Kept text old new status.BadDevice = IsGood text × Adds old new [] × Kept
Writes Said Lawful Kept text old new status.DeviceFault = IsGood text × Adds old new []
Writes Said Lawful Kept text old new status.BadImage = ⊥
Writes Said Lawful Kept text old new status.Unlawful = ⊥
Writes Said Lawful Kept text old new status.Undecided = ⊥
Writes Said Lawful Kept text old new status.Damaged = ⊥

-- the answers are lawful, whatever the remote held that the run began with and that reports nothing of it
abbrev pub IsLawful : {D R : Type 0} → (D → Disk) → (R → Told) → D → D → R → Trace → Type 0
IsLawful state told first second remote trace = (held : Held) → IsHeld (told remote).held held → PairLawful held (clusters_for (state first)) (clusters_for (state second)) trace

-- what was written of a text by a run that began on these disks with this remote, and leaves those
abbrev pub WritesOf : {D R : Type 0} → (D → Disk) → (R → Told) → D → D → R → List ℕ → Option (List ℕ) → Option (List ℕ) → Status → D → D → R → Type 0
WritesOf state told first second remote text old new end first_back second_back after =
    Writes (λ trace. Leads state told first second remote trace first_back second_back after) (IsLawful state told first second remote) ((first_back ≡ first) × (second_back ≡ second) × (after ≡ remote)) text old new end

-- both devices have sizes that a device may have
abbrev pub AreFit : Disk → Disk → Type 0
AreFit first second = IsFit (size_of first) × IsFit (size_of second)

-- All that holds of the text of a run, by how it ended. The run was quiet where neither source nor sink failed.
pub record OfText {D R : Type 0} (state : D → Disk) (told : R → Told) (first second : D) (remote : R) (text : List ℕ) (old new : Option (List ℕ)) (Unwritten Quiet : Type 0) (end : Status) (first_back second_back : D) (after : R) : Type 0 where
  -- what was written: at Done the texts of lawful answers, one for each event of the whole text
  pub writes : WritesOf state told first second remote text old new end first_back second_back after
  pub lengths : IsLength end text
  -- no script ends as BadScript
  pub bad : end ≡ status.BadScript → (events : List PairEvent) → IsScript text events → ⊥
  -- a device that is not fit ends as BadDevice, once the text was read
  pub unfit : (AreFit (state first) (state second) → ⊥) → length text ≤ most_script → (events : List PairEvent) → IsScript text events → IsUnfit end
  -- of a text that is too long nothing is written
  pub long : end ≡ status.TooLong → most_script < length text → Unwritten
  -- a quiet run on fit devices is done, or the report is too long, memory ran out, or a device failed before the first event
  pub complete : Quiet → AreFit (state first) (state second) → length text ≤ most_script → (events : List PairEvent) → IsScript text events → IsComplete end
