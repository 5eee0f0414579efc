-- Parts of a run.
use Rattle.std.specs.Prelude.{◌≡◌, ◌≤◌, ◌<◌, ◌+◌, ℕ, List, ◌++◌, length, Option, Result, Ok, Err}
use Rattle.cf_base.specs.declared.answers.Answer.{Answer}
use Rattle.cf_base.specs.declared.codes.CallError.{CallError}
use Rattle.cf_base.specs.declared.codes.CallError.TheVariants as fail
use Rattle.cf_base.specs.declared.events.Event.{Event}
use Rattle.cf_base.specs.declared.statuses.Status.{Status}
use Rattle.cf_base.specs.declared.statuses.Status.TheVariants as status
use Rattle.cf_disk.specs.Disk.{State as Disk}
use Rattle.cf_gen.specs.Summaries.{counts_of}
use Rattle.cf_gen.specs.declared.summaries.Counts.{Counts}
use Rattle.cf_io.specs.Moves.{Adds, AddsFront}
use Rattle.cf_io.specs.declared.faults.ReadError.{ReadError}
use Rattle.cf_io.specs.declared.faults.ReadError.TheVariants as reading
use Rattle.cf_volume_points.specs.Standing.{clusters_for}
use Rattle.cf_report.specs.Texts.{texts}
use Rattle.cf_filter_events.specs.Actors.{Acts}
use Rattle.cf_filter_events.specs.declared.places.Acting.{Acting}
use Rattle.cf_world_plays.specs.Led.{HasRunOn, IsLawful, LeavesActor, Stood}
use Rattle.cf_world_plays.specs.Runs.{PlaysFront, PlaysLong, Writes, answers_of, events_of, most_report}
use Rattle.cf_world_plays.specs.declared.play_errors.PlayError.{PlayError}
use Rattle.cf_world_plays.specs.declared.play_errors.PlayError.TheVariants as play

-- a front of what waited was written, and the rest waits on
abbrev pub Hands : Option (List ℕ) → Option (List ℕ) → List ℕ → List ℕ → Type 0
Hands old new before after = (front : List ℕ) × (before ≡ front ++ after) × Adds old new front

-- A front of the text was written, and the rest waits; so many bytes it has.
pub record IsDrafted (text waiting : List ℕ) (made : ℕ) (old now : Option (List ℕ)) : Type 0 where
  pub front : List ℕ
  pub parts : text ≡ front ++ waiting
  pub long : made ≡ length text
  pub short : made ≤ most_report
  pub written : Adds old now front

-- A piece could not be added: the text would be too long, or a front of it all was written.
abbrev pub AddFails : List ℕ → List ℕ → Option (List ℕ) → Option (List ℕ) → PlayError → Type 0
AddFails text piece old new play.TooLong = (most_report < length text + length piece) × Adds old new text
AddFails text piece old new play.SinkFault = AddsFront old new (text ++ piece)
AddFails text piece old new play.OutOfMemory = AddsFront old new (text ++ piece)

-- the status of a run that ends early
abbrev pub early_status : PlayError → Status
early_status play.SinkFault = status.SinkFault
early_status play.TooLong = status.TooLong
early_status play.OutOfMemory = status.OutOfMemory

-- the status of a run whose events were done, or not
abbrev pub play_status : Result (Unit {0}) PlayError → Status
play_status (Ok u) = status.Done
play_status (Err e) = early_status e

abbrev pub read_status : ReadError → Status
read_status reading.Fault = status.SourceFault
read_status reading.TooLong = status.TooLong
read_status reading.OutOfMemory = status.OutOfMemory

abbrev pub start_status : CallError → Status
start_status (fail.No c) = status.DeviceFault
start_status fail.OutOfMemory = status.OutOfMemory

-- what a sink or out of memory can stop
abbrev pub IsOfSink : PlayError → Type 0
IsOfSink play.TooLong = ⊥
IsOfSink _ = Unit {0}

-- Some first events were done, and the rest is still to do. Of the texts of their answers a front was written, and what follows waits.
pub record IsUnderWay {D A : Type 0} (state : D → Disk) (W : Acts A) (disk : D) (first : A) (events rest : List Event) (waiting : List ℕ) (made : ℕ) (old now : Option (List ℕ)) (w : Option (Acting D A)) (counts : Counts) : Type 0 where
  pub trace : List (Event × Answer)
  pub run : HasRunOn state W disk first trace w
  pub counted : counts ≡ counts_of (answers_of trace)
  pub parts : events_of trace ++ rest ≡ events
  pub drafted : IsDrafted (texts (answers_of trace)) waiting made old now

-- All events were done, their answers counted, and the texts of these written.
pub record AllPlayed {D A : Type 0} (state : D → Disk) (W : Acts A) (disk : D) (first : A) (events : List Event) (old new : Option (List ℕ)) (w : Option (Acting D A)) (counts : Counts) : Type 0 where
  pub trace : List (Event × Answer)
  pub run : HasRunOn state W disk first trace w
  pub counted : counts ≡ counts_of (answers_of trace)
  pub each : events_of trace ≡ events
  pub written : Adds old new (texts (answers_of trace))
  pub short : length (texts (answers_of trace)) ≤ most_report

-- the answers are lawful, whichever remote of the definitions the actor stood for
abbrev pub IsLawfulFrom : {A : Type 0} → Acts A → ℕ → A → List (Event × Answer) → Type 0
IsLawfulFrom W clusters first trace = IsLawful W.mode (Stood W clusters first) clusters trace

-- What was written of them where it ended early. But where memory ran out, the world is where the trace leads to.
abbrev pub SomePlayed : {D A : Type 0} → (D → Disk) → Acts A → D → A → List Event → Option (List ℕ) → Option (List ℕ) → Option (Acting D A) → PlayError → Type 0
SomePlayed state W disk first events old new w play.TooLong = PlaysLong (λ trace. HasRunOn state W disk first trace w) events old new
SomePlayed state W disk first events old new w play.SinkFault = PlaysFront (λ trace. HasRunOn state W disk first trace w) events old new
SomePlayed state W disk first events old new w play.OutOfMemory = PlaysFront (IsLawfulFrom W (clusters_for (state disk)) first) events old new

-- What was written of a script that was read, under an actor: as `Writes` says, of what is left of disk and actor.
abbrev pub WritesBy : {D A : Type 0} → (D → Disk) → Acts A → D → A → List ℕ → Option (List ℕ) → Option (List ℕ) → Status → D → A → Type 0
WritesBy state W disk first text old new end back actor =
    Writes (λ trace. LeavesActor state W disk first trace back actor) (IsLawfulFrom W (clusters_for (state disk)) first) ((back ≡ disk) × (actor ≡ first)) W.mode text old new end
