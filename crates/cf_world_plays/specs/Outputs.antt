-- What is written of a script: a report, or what the script leaves.
use Rattle.std.specs.Prelude.{◌≡◌, ◌⊎◌, ◌≤◌, ◌<◌, ℕ, List, [], length, Option, None, Result, Ok}
use Rattle.cf_base.specs.declared.answers.Answer.{Answer}
use Rattle.cf_base.specs.declared.events.Event.{Event}
use Rattle.cf_base.specs.declared.memory.OutOfMemory.{OutOfMemory as NoMemory}
use Rattle.cf_base.specs.declared.policies.Choice.TheVariants.{Keep}
use Rattle.cf_base.specs.declared.policies.Mode.{Mode}
use Rattle.cf_base.specs.declared.statuses.Status.{Status}
use Rattle.cf_base.specs.declared.statuses.Status.TheVariants as status
use Rattle.cf_disk.specs.Disk.{AddsPower, HasFailed, Powers, State as Disk, size_of}
use Rattle.cf_filter_events.specs.Actors.{Acts}
use Rattle.cf_filter_events.specs.Pasts.{StandsFor}
use Rattle.cf_gen.specs.Summaries.{summary}
use Rattle.cf_io.specs.Moves.{Adds, AddsFront}
use Rattle.cf_model.specs.Powers.{StandsNow}
use Rattle.cf_model.specs.State.{State}
use Rattle.cf_model.specs.Store.{Held}
use Rattle.cf_remote.specs.Told.{Told}
use Rattle.cf_report.specs.Texts.{texts}
use Rattle.cf_script.specs.Script.{IsScript}
use Rattle.cf_world_plays.specs.States.{state_text, used_blocks}
use Rattle.cf_volume_points.specs.Standing.{clusters_for}
use Rattle.cf_world_plays.specs.Led.{Begins, Leads, LeadsActor, LeadsDisk, LeavesActor, Stood}
use Rattle.cf_world_plays.specs.Runs.{IsComplete, IsGood, IsLength, IsUnfit, Refuses, RefusesFront, ReportsLong, WritesOf, answers_of, events_of, most_report, most_script}
use Rattle.cf_world_devices.specs.Sizes.{IsFit}
use Rattle.cf_world_plays.specs.Steps.{WritesBy}
use Rattle.cf_world_plays.specs.declared.outputs.Ending.{Ending}
use Rattle.cf_world_plays.specs.declared.outputs.Ending.TheVariants as ending
use Rattle.cf_world_plays.specs.declared.outputs.Output.{Output}
use Rattle.cf_world_plays.specs.declared.outputs.Output.TheVariants as output

-- The power of a disk was cut, and all that was written kept. It reads as these bytes then, which a crash might have left before, and
-- a crash leaves nothing else.
pub record IsCut (old new : Disk) (bytes : List ℕ) : Type 0 where
  pub left : old.may_leave bytes
  pub seen : new.seen ≡ bytes
  pub only : (c : List ℕ) → new.may_leave c → c ≡ bytes
  pub powers : AddsPower Keep bytes old.powers new.powers

-- What is said of the text that is written at the end, where each disk that is handed back leads to a state.
abbrev pub SaysOf : {D : Type 0} → (D → Disk) → (LeadsTo : D → Type 0) → ((d : D) → LeadsTo d → State) → Ending → List (Event × Answer) → D → List ℕ → Type 0
SaysOf {D} state LeadsTo end ending.State trace back last = (l : LeadsTo back) × (last ≡ state_text (end back l))
SaysOf {D} state LeadsTo end ending.Summary trace back last = (l : LeadsTo back) × (last ≡ summary trace (used_blocks (end back l)))
SaysOf {D} state LeadsTo end ending.Image trace back last = (d : D) × (l : LeadsTo d) × IsCut (state d) (state back) last × StandsNow StandsFor (end d l) last

-- of what is left of disk and actor, whichever remote of the definitions the actor stood for
abbrev pub SaysBy : {D A : Type 0} → (D → Disk) → Acts A → Ending → D → A → D → A → List (Event × Answer) → List ℕ → Type 0
SaysBy state W o disk first back actor trace last =
    (held : Held) → Stood W (clusters_for (state disk)) first held → SaysOf state (λ d. LeadsActor state W held disk first trace d actor) (λ d l. l.left) o trace back last

-- and of disk and remote, whichever remote of the definitions the run began with
abbrev pub SaysIn : {D R : Type 0} → (D → Disk) → (R → Told) → Ending → Mode → D → R → D → R → List (Event × Answer) → List ℕ → Type 0
SaysIn state told o m disk remote back left trace last =
    (held : Held) → Begins told m remote held → SaysOf state (λ d. LeadsDisk state told m held disk remote trace d left) (λ d l. l.left) o trace back last

-- All events of a script were done without a report, which would be within its limit, and this is said of their trace and of a text,
-- of which this was written.
pub record Ended (Said : List (Event × Answer) → List ℕ → Type 0) (Written : List ℕ → Type 0) (m : Mode) (text : List ℕ) : Type 0 where
  pub events : List Event
  pub spelled : IsScript m text events
  pub trace : List (Event × Answer)
  pub each : events_of trace ≡ events
  pub short : length (texts (answers_of trace)) ≤ most_report
  pub last : List ℕ
  pub said : Said trace last
  pub written : Written last

-- All events of a script were done, which led to a disk; its power was cut, and a call of it failed where its bytes were read then.
pub record FailsReading {D : Type 0} (state : D → Disk) (LeadsTo : List (Event × Answer) → D → Type 0) (m : Mode) (text : List ℕ) (back : D) : Type 0 where
  pub trace : List (Event × Answer)
  pub spelled : IsScript m text (events_of trace)
  pub end : D
  pub leads : LeadsTo trace end
  pub cut : D
  pub power : Powers Keep (state end) (state cut)
  pub failed : HasFailed (state cut) (state back)

-- The device failed: before the first event, and the remote is as it came, or where its bytes were read behind the last one.
abbrev pub EndsFailed : {D : Type 0} → (D → Disk) → (List (Event × Answer) → D → Type 0) → Mode → List ℕ → D → D → Type 0 → Type 0
EndsFailed {D} state LeadsTo m text old new Kept = (HasFailed (state old) (state new) × Kept) ⊎ FailsReading state LeadsTo m text new

-- What was written of a text by a command that writes no report, by the status. `Led` is said of the trace of a script whose report
-- would be too long; nothing is written of it.
abbrev pub Concludes : (Said : List (Event × Answer) → List ℕ → Type 0) → (Led : List (Event × Answer) → Type 0) → (Kept Failed : Type 0) → Mode → List ℕ → Option (List ℕ) → Option (List ℕ) → Status → Type 0
Concludes Said Led Kept Failed m text old new status.Done = Ended Said (Adds old new) m text
Concludes Said Led Kept Failed m text old new status.BadScript = Refuses m text old new
Concludes Said Led Kept Failed m text old new status.SinkFault = (RefusesFront m text old new × Kept) ⊎ Ended Said (AddsFront old new) m text
Concludes Said Led Kept Failed m text old new status.OutOfMemory = Adds old new [] ⊎ (RefusesFront m text old new × Kept)
Concludes Said Led Kept Failed m text old new status.Usage = Adds old new []
Concludes Said Led Kept Failed m text old new status.SourceFault = Adds old new []
Concludes Said Led Kept Failed m text old new status.TooLong = Adds old new [] × ((most_script < length text × Kept) ⊎ (length text ≤ most_script × ReportsLong Led m text None None))
Concludes Said Led Kept Failed m text old new status.BadDevice = IsGood m text × Adds old new []
Concludes Said Led Kept Failed m text old new status.DeviceFault = IsGood m text × Adds old new [] × Failed
Concludes Said Led Kept Failed m text old new status.BadImage = ⊥
Concludes Said Led Kept Failed m text old new status.Unlawful = ⊥
Concludes Said Led Kept Failed m text old new status.Undecided = ⊥
Concludes Said Led Kept Failed m text old new status.Damaged = ⊥

abbrev pub ConcludesBy : {D A : Type 0} → (D → Disk) → Acts A → Ending → D → A → List ℕ → Option (List ℕ) → Option (List ℕ) → Status → D → A → Type 0
ConcludesBy state W o disk first text old new end back actor =
    Concludes (SaysBy state W o disk first back actor) (λ trace. LeavesActor state W disk first trace back actor) ((back ≡ disk) × (actor ≡ first)) (EndsFailed state (λ trace d. LeavesActor state W disk first trace d actor) W.mode text disk back (actor ≡ first)) W.mode text old new end

-- What was written of a script that was read, under an actor.
abbrev pub WritesAsBy : {D A : Type 0} → (D → Disk) → Acts A → Output → D → A → List ℕ → Option (List ℕ) → Option (List ℕ) → Status → D → A → Type 0
WritesAsBy state W output.Report disk first text old new end back actor = WritesBy state W disk first text old new end back actor
WritesAsBy state W (output.Ending o) disk first text old new end back actor = ConcludesBy state W o disk first text old new end back actor

abbrev pub ConcludesOf : {D R : Type 0} → (D → Disk) → (R → Told) → Ending → Mode → D → R → List ℕ → Option (List ℕ) → Option (List ℕ) → Status → D → R → Type 0
ConcludesOf state told o m disk remote text old new end back left =
    Concludes (SaysIn state told o m disk remote back left) (λ trace. Leads state told m disk remote trace back left) ((back ≡ disk) × (left ≡ remote)) (EndsFailed state (λ trace d. Leads state told m disk remote trace d left) m text disk back (left ≡ remote)) m text old new end

-- What was written of a text by a run that began on this disk with this remote, and leaves those.
abbrev pub WritesAs : {D R : Type 0} → (D → Disk) → (R → Told) → Output → Mode → D → R → List ℕ → Option (List ℕ) → Option (List ℕ) → Status → D → R → Type 0
WritesAs state told output.Report m disk remote text old new end back left = WritesOf state told m disk remote text old new end back left
WritesAs state told (output.Ending o) m disk remote text old new end back left = ConcludesOf state told o m disk remote text old new end back left

-- All that holds of the text of a run, by how it ended. The run was quiet where neither source nor sink failed.
pub record OfText {D R : Type 0} (state : D → Disk) (told : R → Told) (o : Output) (m : Mode) (disk : D) (remote : R) (text : List ℕ) (old new : Option (List ℕ)) (Unwritten Quiet : Type 0) (end : Status) (back : D) (left : R) : Type 0 where
  -- what was written: at Done the texts of lawful answers, one for each event of the whole text, or what they leave
  pub writes : WritesAs state told o m disk remote text old new end back left
  pub lengths : IsLength end text
  -- no script ends as BadScript
  pub bad : end ≡ status.BadScript → (events : List Event) → IsScript m text events → ⊥
  -- a device that is not fit ends as BadDevice, once the text was read
  pub unfit : (IsFit (size_of (state disk)) → ⊥) → length text ≤ most_script → (events : List Event) → IsScript m text events → IsUnfit end
  -- of a text that is too long nothing is written
  pub long : end ≡ status.TooLong → most_script < length text → Unwritten
  -- a quiet run on a fit device is done, or the report is too long, memory ran out, or the device failed before the first event
  pub complete : Quiet → IsFit (size_of (state disk)) → length text ≤ most_script → (events : List Event) → IsScript m text events → IsComplete end

-- A text was made and written, whole or a front of it, by the status; or there was no memory for it, and nothing was written.
abbrev pub PutsText : Result (List ℕ) NoMemory → Option (List ℕ) → Option (List ℕ) → Status → Type 0
PutsText made old new status.Done = (last : List ℕ) × (made ≡ Ok last) × Adds old new last
PutsText made old new status.SinkFault = (last : List ℕ) × (made ≡ Ok last) × AddsFront old new last
PutsText made old new status.OutOfMemory = Adds old new []
PutsText made old new _ = ⊥

-- What was written of a world in which the events of a trace were done, by the status.
abbrev pub PutsEnd : {D A : Type 0} → (D → Disk) → Acts A → Ending → D → A → List (Event × Answer) → Option (List ℕ) → Option (List ℕ) → Status → D → A → Type 0
PutsEnd {D} state W o disk first trace old new status.Done back actor = (last : List ℕ) × SaysBy state W o disk first back actor trace last × Adds old new last
PutsEnd {D} state W o disk first trace old new status.SinkFault back actor = (last : List ℕ) × SaysBy state W o disk first back actor trace last × AddsFront old new last
PutsEnd {D} state W o disk first trace old new status.OutOfMemory back actor = Adds old new []
PutsEnd {D} state W o disk first trace old new status.DeviceFault back actor = Adds old new [] × ((end : D) × (cut : D) × LeavesActor state W disk first trace end actor × Powers Keep (state end) (state cut) × HasFailed (state cut) (state back))
PutsEnd {D} state W o disk first trace old new _ back actor = ⊥

-- What is left of a disk whose power was cut and whose bytes were read, and what was written of them.
abbrev pub HandsImage : {D : Type 0} → (D → Disk) → D → D → Option (List ℕ) → Option (List ℕ) → Status → Type 0
HandsImage {D} state old now held after status.Done = IsCut (state old) (state now) (state now).seen × Adds held after (state now).seen
HandsImage {D} state old now held after status.SinkFault = IsCut (state old) (state now) (state now).seen × AddsFront held after (state now).seen
HandsImage {D} state old now held after status.OutOfMemory = Adds held after []
HandsImage {D} state old now held after status.DeviceFault = Adds held after [] × ((cut : D) × Powers Keep (state old) (state cut) × HasFailed (state cut) (state now))
HandsImage {D} state old now held after _ = ⊥

-- the device fails at the end only where its bytes are read
abbrev pub IsEnding : Ending → Status → Type 0
IsEnding o status.Done = Unit {0}
IsEnding o status.SinkFault = Unit {0}
IsEnding o status.OutOfMemory = Unit {0}
IsEnding o status.DeviceFault = o ≡ ending.Image
IsEnding o _ = ⊥
