-- What a run writes, and how it ends.
use Rattle.std.specs.Prelude.{◌≡◌, ◌≢◌, ◌⊎◌, ℕ, ◌+◌, ◌<◌, ◌≤◌, List, [], ◌∷◌, ◌++◌, length, map, codes, Option}
use Rattle.std.specs.Fmt.{decimal}
use Rattle.cf_base.specs.declared.answers.Answer.{Answer}
use Rattle.cf_base.specs.declared.events.Event.{Event}
use Rattle.cf_base.specs.declared.policies.Mode.{Mode}
use Rattle.cf_base.specs.declared.statuses.Status.{Status}
use Rattle.cf_base.specs.declared.statuses.Status.TheVariants as status
use Rattle.cf_disk.specs.Disk.{State as Disk}
use Rattle.cf_io.specs.Moves.{Adds, AddsFront}
use Rattle.cf_volume_points.specs.Standing.{clusters_for}
use Rattle.cf_remote.specs.Told.{Told}
use Rattle.cf_report.specs.Texts.{text as text_of, texts}
use Rattle.cf_script.specs.FailEvents.{IsCause}
use Rattle.cf_script.specs.Script.{lines_of, IsScript}
use Rattle.cf_script.specs.declared.script_errors.ScriptError.{ScriptError}
use Rattle.cf_script.specs.declared.script_errors.ScriptError.TheVariants as fails
use Rattle.cf_world_plays.specs.Led.{Begins, IsLawful, Leads}
use Rattle.cf_world_devices.specs.Ends.{IsBeforeDevice}

-- the greatest length of a script, in bytes
abbrev pub most_script : ℕ
most_script = 16777216

-- the greatest length of a report, in bytes
abbrev pub most_report : ℕ
most_report = 67108864

abbrev pub events_of : List (Event × Answer) → List Event
events_of trace = map (λ p. p.0) trace

abbrev pub answers_of : List (Event × Answer) → List Answer
answers_of trace = map (λ p. p.1) trace

-- the text is a script
abbrev pub IsGood : Mode → List ℕ → Type 0
IsGood m text = (events : List Event) × IsScript m text events

-- The texts of answers were written, one for each event, and of their trace this is said.
pub record Plays (Said : List (Event × Answer) → Type 0) (events : List Event) (old new : Option (List ℕ)) : Type 0 where
  pub trace : List (Event × Answer)
  pub each : events_of trace ≡ events
  pub said : Said trace
  pub written : Adds old new (texts (answers_of trace))
  pub short : length (texts (answers_of trace)) ≤ most_report

-- A front of the texts of answers to some first events was written; these events were done, and of their trace this is said.
pub record PlaysFront (Said : List (Event × Answer) → Type 0) (events : List Event) (old new : Option (List ℕ)) : Type 0 where
  pub trace : List (Event × Answer)
  pub more : List Event
  pub first : events_of trace ++ more ≡ events
  pub said : Said trace
  pub written : AddsFront old new (texts (answers_of trace))

-- The texts of answers to some first events were written, and that of the next would pass the limit. It was done too, and this
-- is said of the trace that ends with it.
pub record PlaysLong (Said : List (Event × Answer) → Type 0) (events : List Event) (old new : Option (List ℕ)) : Type 0 where
  pub trace : List (Event × Answer)
  pub event : Event
  pub answer : Answer
  pub more : List Event
  pub first : events_of trace ++ event ∷ more ≡ events
  pub said : Said (trace ++ (event, answer) ∷ [])
  pub written : Adds old new (texts (answers_of trace))
  pub passes : most_report < length (texts (answers_of trace)) + length (text_of answer)

-- The report of a text: answers, one for each event that it spells.
pub record Reports (Said : List (Event × Answer) → Type 0) (m : Mode) (text : List ℕ) (old new : Option (List ℕ)) : Type 0 where
  pub events : List Event
  pub spelled : IsScript m text events
  pub played : Plays Said events old new

-- A front of a report.
pub record ReportsFront (Said : List (Event × Answer) → Type 0) (m : Mode) (text : List ℕ) (old new : Option (List ℕ)) : Type 0 where
  pub events : List Event
  pub spelled : IsScript m text events
  pub played : PlaysFront Said events old new

-- A report that would pass its limit.
pub record ReportsLong (Said : List (Event × Answer) → Type 0) (m : Mode) (text : List ℕ) (old new : Option (List ℕ)) : Type 0 where
  pub events : List Event
  pub spelled : IsScript m text events
  pub played : PlaysLong Said events old new

-- the line that is written of a script that is not read
abbrev pub fail_line : ScriptError → List ℕ
fail_line (fails.Syntax n) = codes "bad line " ++ decimal n ++ 10 ∷ []
fail_line (fails.TooManyEvents n) = codes "bad line " ++ decimal n ++ 10 ∷ []
fail_line fails.OutOfMemory = []

-- This line is written of the text, which is not read for another cause than memory.
pub record IsRefusal (m : Mode) (text line : List ℕ) : Type 0 where
  pub fail : ScriptError
  pub why : IsCause m (lines_of text) fail
  pub not_memory : fail ≢ fails.OutOfMemory
  pub is : line ≡ fail_line fail

-- The line of a refusal was written.
pub record Refuses (m : Mode) (text : List ℕ) (old new : Option (List ℕ)) : Type 0 where
  pub line : List ℕ
  pub refusal : IsRefusal m text line
  pub written : Adds old new line

-- A front of the line of a refusal was written.
pub record RefusesFront (m : Mode) (text : List ℕ) (old new : Option (List ℕ)) : Type 0 where
  pub line : List ℕ
  pub refusal : IsRefusal m text line
  pub written : AddsFront old new line

-- What was written where the run ended early: a front of the line of a refusal, and disk and remote are as they came, or a front of a
-- report, of whose trace this is said.
abbrev pub StopsEarly : (List (Event × Answer) → Type 0) → Type 0 → Mode → List ℕ → Option (List ℕ) → Option (List ℕ) → Type 0
StopsEarly Said Kept m text old new = (RefusesFront m text old new × Kept) ⊎ ReportsFront Said m text old new

-- What was written of a text, by the status. At Done, at SinkFault and where the report is too long this is said of the trace, which
-- speaks of what is left. At OutOfMemory the trace is lawful, and no more is said, for memory may have run out within an event.
abbrev pub Writes : (Said Lawful : List (Event × Answer) → Type 0) → Type 0 → Mode → List ℕ → Option (List ℕ) → Option (List ℕ) → Status → Type 0
Writes Said Lawful Kept m text old new status.Done = Reports Said m text old new
Writes Said Lawful Kept m text old new status.BadScript = Refuses m text old new
Writes Said Lawful Kept m text old new status.SinkFault = StopsEarly Said Kept m text old new
Writes Said Lawful Kept m text old new status.OutOfMemory = Adds old new [] ⊎ StopsEarly Lawful Kept m text old new
Writes Said Lawful Kept m text old new status.Usage = Adds old new []
Writes Said Lawful Kept m text old new status.SourceFault = Adds old new []
Writes Said Lawful Kept m text old new status.TooLong = (most_script < length text × Adds old new [] × Kept) ⊎ (length text ≤ most_script × ReportsLong Said m text old new)
Writes Said Lawful Kept m text old new status.BadDevice = IsGood m text × Adds old new []
Writes Said Lawful Kept m text old new status.DeviceFault = IsGood m text × Adds old new []
-- these are of commands that judge images and reports
Writes Said Lawful Kept m text old new status.BadImage = ⊥
Writes Said Lawful Kept m text old new status.Unlawful = ⊥
Writes Said Lawful Kept m text old new status.Undecided = ⊥
Writes Said Lawful Kept m text old new status.Damaged = ⊥

-- how long a text is, by the status
abbrev pub IsLength : Status → List ℕ → Type 0
IsLength status.Done text = length text ≤ most_script
IsLength status.BadScript text = length text ≤ most_script
IsLength status.SinkFault text = length text ≤ most_script
IsLength status.BadDevice text = length text ≤ most_script
IsLength status.DeviceFault text = length text ≤ most_script
IsLength status.TooLong text = Unit {0}
IsLength status.OutOfMemory text = Unit {0}
IsLength status.Usage text = Unit {0}
IsLength status.SourceFault text = Unit {0}
IsLength status.BadImage text = ⊥
IsLength status.Unlawful text = ⊥
IsLength status.Undecided text = ⊥
IsLength status.Damaged text = ⊥

-- the statuses of a text that was read
abbrev pub IsAfterReading : Status → Type 0
IsAfterReading status.Done = Unit {0}
IsAfterReading status.BadScript = Unit {0}
IsAfterReading status.SinkFault = Unit {0}
IsAfterReading status.OutOfMemory = Unit {0}
IsAfterReading status.TooLong = Unit {0}
IsAfterReading status.BadDevice = Unit {0}
IsAfterReading status.DeviceFault = Unit {0}
IsAfterReading status.Usage = ⊥
IsAfterReading status.SourceFault = ⊥
IsAfterReading status.BadImage = ⊥
IsAfterReading status.Unlawful = ⊥
IsAfterReading status.Undecided = ⊥
IsAfterReading status.Damaged = ⊥

-- the statuses of a report
abbrev pub IsOfReport : Status → Type 0
IsOfReport status.Done = Unit {0}
IsOfReport status.SinkFault = Unit {0}
IsOfReport status.OutOfMemory = Unit {0}
IsOfReport status.TooLong = Unit {0}
IsOfReport _ = ⊥

-- How a run of a good text ends on a fit device where neither source nor sink failed. DeviceFault has its own cause.
abbrev pub IsComplete : Status → Type 0
IsComplete status.Done = Unit {0}
IsComplete status.TooLong = Unit {0}
IsComplete status.OutOfMemory = Unit {0}
IsComplete status.DeviceFault = Unit {0}
IsComplete _ = ⊥

-- how it ends on a device that is not fit
abbrev pub IsUnfit : Status → Type 0
IsUnfit status.BadDevice = Unit {0}
IsUnfit status.SourceFault = Unit {0}
IsUnfit status.OutOfMemory = Unit {0}
IsUnfit _ = ⊥

-- how the events of a script end on a fit device
abbrev pub IsPlayed : Status → Type 0
IsPlayed status.DeviceFault = Unit {0}
IsPlayed s = IsOfReport s

-- the statuses of a script that was read
abbrev pub IsStarted : Status → Type 0
IsStarted status.BadDevice = Unit {0}
IsStarted s = IsPlayed s

-- those at which no event was done
abbrev pub IsBeforeEvents : Status → Type 0
IsBeforeEvents status.DeviceFault = Unit {0}
IsBeforeEvents s = IsBeforeDevice s

-- what is written of a script that is not read
abbrev pub WritesRefusal : Mode → List ℕ → Option (List ℕ) → Option (List ℕ) → Status → Type 0
WritesRefusal m text old new status.BadScript = Refuses m text old new
WritesRefusal m text old new status.SinkFault = RefusesFront m text old new
WritesRefusal m text old new status.OutOfMemory = Adds old new [] ⊎ RefusesFront m text old new
WritesRefusal m text old new _ = ⊥

-- what was written of a text by a run that began on this disk with this remote, and leaves those
abbrev pub WritesOf : {D R : Type 0} → (D → Disk) → (R → Told) → Mode → D → R → List ℕ → Option (List ℕ) → Option (List ℕ) → Status → D → R → Type 0
WritesOf state told m disk remote text old new end back left =
    Writes (λ trace. Leads state told m disk remote trace back left) (IsLawful m (Begins told m remote) (clusters_for (state disk))) ((back ≡ disk) × (left ≡ remote)) m text old new end
