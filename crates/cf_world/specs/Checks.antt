-- What the judgement of a recorded report writes, and when each status comes.
--
-- Of the verdict that was written `IsVerdict` says four things. Where it is lawful, there are lawful answers to all events whose texts are
-- the report. It is undecided at event n exactly where n is the first event of which nothing can be said: the events before it have lawful
-- answers with these texts and its result is that of a device that failed, or it is a restart that may have opened different books.
-- Where it is unlawful at event n, the events before it have lawful answers with these texts, and with it there are none. Otherwise a
-- report of lawful answers is called lawful.
use Rattle.std.specs.Prelude.{◌≡◌, ◌≢◌, ◌⊎◌, ◌<◌, ◌≤◌, ◌+◌, ℕ, List, [], ◌∷◌, ◌++◌, All, codes, length, Option}
use Rattle.std.specs.Fmt.{decimal}
use Rattle.cf_base.specs.declared.events.Event.{Event}
use Rattle.cf_base.specs.declared.policies.Mode.TheVariants.{Replay}
use Rattle.cf_base.specs.declared.statuses.Status.{Status}
use Rattle.cf_base.specs.declared.statuses.Status.TheVariants as status
use Rattle.cf_check_model.specs.Judging.{IsVerdict}
use Rattle.cf_check_model.specs.declared.verdicts.Verdict.{Verdict}
use Rattle.cf_check_model.specs.declared.verdicts.Verdict.TheVariants.{Lawful, Unlawful, Undecided}
use Rattle.cf_io.specs.Moves.{Adds, AddsFront}
use Rattle.cf_script.specs.Script.{IsScript, lines_of}
use Rattle.cf_world_plays.specs.Runs.{IsRefusal}

-- the greatest length of a text, in bytes: those of a script, of the line with the mark, and of a report
abbrev pub most_checked : ℕ
most_checked = 83886090

-- the clusters of the device whose report is judged
abbrev pub clusters : ℕ
clusters = 15616

-- the line between a script and its report
abbrev pub mark : List ℕ
mark = codes "== report"

abbrev pub HasNoMark : List ℕ → Type 0
HasNoMark text = All (λ l. l ≢ mark) (lines_of text)

-- The text is a script, the first line that is the mark, and a report, which may be empty.
pub record IsParted (text script report : List ℕ) : Type 0 where
  pub parts : (text ≡ script ++ (mark ++ 10 ∷ report)) ⊎ ((text ≡ script ++ mark) × (report ≡ []))
  pub lines : lines_of text ≡ lines_of script ++ mark ∷ lines_of report
  pub first : HasNoMark script

-- the script and the report of a text, and the events that the script spells
abbrev pub IsRecording : List ℕ → List Event → List ℕ → Type 0
IsRecording text events report = (script : List ℕ) × IsParted text script report × IsScript Replay script events

abbrev pub verdict_line : Verdict → List ℕ
verdict_line Lawful = codes "lawful" ++ 10 ∷ []
verdict_line (Unlawful n) = codes "unlawful " ++ decimal n ++ 10 ∷ []
verdict_line (Undecided n) = codes "undecided " ++ decimal n ++ 10 ∷ []

abbrev pub verdict_status : Verdict → Status
verdict_status Lawful = status.Done
verdict_status (Unlawful n) = status.Unlawful
verdict_status (Undecided n) = status.Undecided

-- The line is that of the verdict on the report, and the status is the verdict's. The verdict is the one that is right.
pub record IsJudged (text line : List ℕ) (s : Status) : Type 0 where
  pub events : List Event
  pub report : List ℕ
  pub recording : IsRecording text events report
  pub verdict : Verdict
  pub right : IsVerdict events report clusters verdict
  pub line_is : line ≡ verdict_line verdict
  pub status_is : s ≡ verdict_status verdict

-- the line of a text without a mark, which is bad behind its last line
abbrev pub unmarked_line : List ℕ → List ℕ
unmarked_line text = codes "bad line " ++ decimal (length (lines_of text) + 1) ++ 10 ∷ []

-- the line names the first bad line of a text that is no script with a report
abbrev pub IsUnread : List ℕ → List ℕ → Type 0
IsUnread text line = (HasNoMark text × (line ≡ unmarked_line text)) ⊎ ((script : List ℕ) × (report : List ℕ) × IsParted text script report × IsRefusal Replay script line)

-- the one line that is written of a text, by the status that reports it
abbrev pub HasLine : List ℕ → List ℕ → Status → Type 0
HasLine text line status.BadScript = IsUnread text line
HasLine text line s = IsJudged text line s

-- what was written, by the status: one line, a front of it, or nothing
abbrev pub CheckWrites : List ℕ → Option (List ℕ) → Option (List ℕ) → Status → Type 0
CheckWrites text old new status.Done = (length text ≤ most_checked) × (line : List ℕ) × HasLine text line status.Done × Adds old new line
CheckWrites text old new status.Unlawful = (length text ≤ most_checked) × (line : List ℕ) × HasLine text line status.Unlawful × Adds old new line
CheckWrites text old new status.Undecided = (length text ≤ most_checked) × (line : List ℕ) × HasLine text line status.Undecided × Adds old new line
CheckWrites text old new status.BadScript = (length text ≤ most_checked) × (line : List ℕ) × HasLine text line status.BadScript × Adds old new line
CheckWrites text old new status.SinkFault = (length text ≤ most_checked) × (line : List ℕ) × (s : Status) × HasLine text line s × AddsFront old new line
CheckWrites text old new status.OutOfMemory = Adds old new [] ⊎ ((length text ≤ most_checked) × (line : List ℕ) × (s : Status) × HasLine text line s × AddsFront old new line)
CheckWrites text old new status.TooLong = (most_checked < length text) × Adds old new []
CheckWrites text old new status.SourceFault = Adds old new []
CheckWrites text old new _ = ⊥

-- how it ends where neither source nor sink failed
abbrev pub IsCheckEnd : Status → Type 0
IsCheckEnd status.Done = Unit {0}
IsCheckEnd status.Unlawful = Unit {0}
IsCheckEnd status.Undecided = Unit {0}
IsCheckEnd status.BadScript = Unit {0}
IsCheckEnd status.TooLong = Unit {0}
IsCheckEnd status.OutOfMemory = Unit {0}
IsCheckEnd _ = ⊥

-- the ends at which the sink was not used
abbrev pub IsSilent : Status → Type 0
IsSilent status.SourceFault = Unit {0}
IsSilent status.TooLong = Unit {0}
IsSilent _ = ⊥

-- All that holds of a text whose report was judged, by how it ended. It was quiet where neither source nor sink failed.
pub record OfCheck (text : List ℕ) (old new : Option (List ℕ)) (Unwritten Quiet : Type 0) (end : Status) : Type 0 where
  pub writes : CheckWrites text old new end
  -- no script with a report ends as BadScript
  pub bad : end ≡ status.BadScript → (events : List Event) (report : List ℕ) → IsRecording text events report → ⊥
  pub silent : IsSilent end → Unwritten
  pub complete : Quiet → IsCheckEnd end
