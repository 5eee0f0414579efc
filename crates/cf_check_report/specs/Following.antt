-- A device whose run is followed beside a report, and what is said of the report at an event.
use Rattle.std.specs.Prelude.{◌≡◌, ℕ, Option, suc, List, drop, Result, Ok, Err}
use Rattle.cf_base.specs.declared.answers.Answer.{Answer}
use Rattle.cf_base.specs.declared.events.Event.{Event}
use Rattle.cf_base.specs.declared.memory.OutOfMemory.{OutOfMemory as NoMemory}
use Rattle.cf_check_compare.specs.Passed.{IsComparison}
use Rattle.cf_check_compare.specs.declared.comparisons.Comparison.{Comparison}
use Rattle.cf_check_compare.specs.declared.comparisons.Comparison.TheVariants as compared
use Rattle.cf_check_judge.specs.Settled.{IsAt}
use Rattle.cf_check_model.specs.Judging.{IsVerdict}
use Rattle.cf_check_model.specs.Reports.{result_lines}
use Rattle.cf_check_model.specs.declared.verdicts.Verdict.TheVariants.{Unlawful, Undecided}
use Rattle.cf_check_report.specs.Restarts.{next_count}
use Rattle.cf_check_report.specs.declared.judgements.Judge.{Judge}
use Rattle.cf_check_report.specs.declared.judgements.Judged.{Judged}
use Rattle.cf_check_report.specs.declared.judgements.Judged.TheVariants.{GoesOn, Open, Wrong}
use Rattle.cf_model.specs.State.{State}

-- The device has done the first events, and stands for a state of a run that is followed beside the report. It is aimed at what the report says that
-- its next restart resumes.
pub record Follows {D : Type 0} (Stands : D → Option ℕ → State → Type 0) (events : List Event) (report : List ℕ) (clusters done : ℕ) (es : List Event) (rest : List ℕ) (j : Judge D) : Type 0 where
  pub trace : List (Event × Answer)
  pub state : State
  pub at : IsAt events report clusters done es trace state rest
  pub stands : Stands j.device (next_count es (result_lines rest)) state

-- what is said at the next event: the run is followed with it, or this is the right verdict
abbrev pub JudgedTo : {D : Type 0} → (D → Option ℕ → State → Type 0) → List Event → List ℕ → ℕ → ℕ → List Event → List ℕ → Result Judged NoMemory → Judge D → Type 0
JudgedTo Stands events report clusters done es rest (Ok (GoesOn n)) j = Follows Stands events report clusters (suc done) es (drop n rest) j
JudgedTo Stands events report clusters done es rest (Ok Wrong) j = IsVerdict events report clusters (Unlawful (suc done))
JudgedTo Stands events report clusters done es rest (Ok Open) j = IsVerdict events report clusters (Undecided (suc done))
JudgedTo Stands events report clusters done es rest (Err m) j = Unit {0}

-- What a comparison says of the report. No state has an answer that is lost.
abbrev pub judged_by : Comparison → Result Judged NoMemory
judged_by (compared.GoesOn n) = Ok (GoesOn n)
judged_by compared.Differs = Ok Wrong
judged_by compared.Lost = Err (record {})

-- this is said of the report by how it goes on beside the answer
abbrev pub IsTaken : Event → Answer → List ℕ → Result Judged NoMemory → Type 0
IsTaken e a rest (Err m) = Unit {0}
IsTaken e a rest (Ok j) = (c : Comparison) × IsComparison e a rest c × (judged_by c ≡ Ok j)
