-- Parts of a run of two devices.
use Rattle.std.specs.Prelude.{◌≡◌, ◌⊎◌, ℕ, ◌<◌, ◌≤◌, ◌+◌, List, [], ◌∷◌, ◌++◌, length, Option, Result, Ok, Err}
use Rattle.cf_base.specs.declared.memory.OutOfMemory.{OutOfMemory as NoMemory}
use Rattle.cf_base.specs.declared.statuses.Status.{Status}
use Rattle.cf_base.specs.declared.statuses.Status.TheVariants as status
use Rattle.cf_disk.specs.Disk.{State as Disk}
use Rattle.cf_io.specs.Moves.{Adds, AddsFront}
use Rattle.cf_pair_events.specs.declared.answers.PairAnswer.{PairAnswer}
use Rattle.cf_pair_events.specs.declared.events.PairEvent.{PairEvent}
use Rattle.cf_pair_report.specs.Texts.{text as text_of}
use Rattle.cf_pair_run.specs.Led.{HasRun}
use Rattle.cf_pair_run.specs.Runs.{IsLawful, Refuses, RefusesFront, Trace, events_of, report_of}
use Rattle.cf_pair_run.specs.declared.worlds.PairWorld.{PairWorld}
use Rattle.cf_remote.specs.Told.{Told}
use Rattle.cf_world_plays.specs.Runs.{most_report}
use Rattle.cf_world_plays.specs.Steps.{AddFails, IsDrafted}
use Rattle.cf_world_plays.specs.declared.play_errors.PlayError.{PlayError}
use Rattle.cf_world_plays.specs.declared.play_errors.PlayError.TheVariants as play

-- Some first events were done, and the rest is still to do. Of the texts of their answers a front was written, and what follows waits.
pub record IsUnderWay {D R : Type 0} (state : D → Disk) (told : R → Told) (first second : D) (remote : R) (events rest : List PairEvent) (waiting : List ℕ) (made : ℕ) (old now : Option (List ℕ)) (w : PairWorld D R) : Type 0 where
  pub trace : Trace
  pub run : HasRun state told first second remote trace w
  pub parts : events_of trace ++ rest ≡ events
  pub drafted : IsDrafted (report_of trace) waiting made old now

-- All events were done, and the texts of their answers written.
pub record AllPlayed {D R : Type 0} (state : D → Disk) (told : R → Told) (first second : D) (remote : R) (events : List PairEvent) (old new : Option (List ℕ)) (w : PairWorld D R) : Type 0 where
  pub trace : Trace
  pub run : HasRun state told first second remote trace w
  pub each : events_of trace ≡ events
  pub written : Adds old new (report_of trace)
  pub short : length (report_of trace) ≤ most_report

-- A front of the texts of answers to some first events was written; of their trace this is said.
pub record FrontPlayed (Said : Trace → Type 0) (events : List PairEvent) (old new : Option (List ℕ)) : Type 0 where
  pub trace : Trace
  pub more : List PairEvent
  pub first : events_of trace ++ more ≡ events
  pub said : Said trace
  pub written : AddsFront old new (report_of trace)

-- The texts of answers to some first events were written, and that of the next would pass the limit.
pub record LongPlayed (Said : Trace → Type 0) (events : List PairEvent) (old new : Option (List ℕ)) : Type 0 where
  pub trace : Trace
  pub event : PairEvent
  pub answer : PairAnswer
  pub more : List PairEvent
  pub first : events_of (trace ++ (event, answer) ∷ []) ++ more ≡ events
  pub said : Said (trace ++ (event, answer) ∷ [])
  pub written : Adds old new (report_of trace)
  pub passes : most_report < length (report_of trace) + length (text_of answer)

-- what was done where the run ends early
abbrev pub SomePlayed : {D R : Type 0} → (D → Disk) → (R → Told) → D → D → R → List PairEvent → Option (List ℕ) → Option (List ℕ) → PairWorld D R → PlayError → Type 0
SomePlayed state told first second remote events old new w play.TooLong = LongPlayed (λ trace. HasRun state told first second remote trace w) events old new
SomePlayed state told first second remote events old new w play.SinkFault = FrontPlayed (λ trace. HasRun state told first second remote trace w) events old new
SomePlayed state told first second remote events old new w play.OutOfMemory = FrontPlayed (IsLawful state told first second remote) events old new

-- the text of what was told waits too, or a front of all was written
abbrev pub IsPut : Result PairAnswer NoMemory → List ℕ → List ℕ → ℕ → Option (List ℕ) → Option (List ℕ) → Type 0
IsPut (Ok a) text waiting made old now = IsDrafted (text ++ text_of a) waiting made old now
IsPut (Err m) text waiting made old now = ⊥

-- it could not be added, or there was nothing to add
abbrev pub PutFails : Result PairAnswer NoMemory → List ℕ → Option (List ℕ) → Option (List ℕ) → PlayError → Type 0
PutFails (Ok a) text old now e = AddFails text (text_of a) old now e
PutFails (Err m) text old now e = (e ≡ play.OutOfMemory) × AddsFront old now text

-- what is written of a script that is not read
abbrev pub WritesRefusal : List ℕ → Option (List ℕ) → Option (List ℕ) → Status → Type 0
WritesRefusal text old new status.BadScript = Refuses text old new
WritesRefusal text old new status.SinkFault = RefusesFront text old new
WritesRefusal text old new status.OutOfMemory = Adds old new [] ⊎ RefusesFront text old new
WritesRefusal text old new _ = ⊥
