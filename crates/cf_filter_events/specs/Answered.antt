-- The answer of an event, from what a call of the filter gave.
use Rattle.std.specs.Prelude.{None, Result, Ok, Err, List}
use Rattle.cf_base.specs.declared.answers.Answer.{Answer}
use Rattle.cf_base.specs.declared.answers.Shown.{Shown}
use Rattle.cf_base.specs.declared.answers.Shown.TheVariants as shown
use Rattle.cf_base.specs.declared.codes.CallError.{CallError}
use Rattle.cf_base.specs.declared.codes.CallError.TheVariants.{No, OutOfMemory}
use Rattle.cf_base.specs.declared.memory.OutOfMemory.{OutOfMemory as NoMemory}
use Rattle.cf_base.specs.declared.notices.Notice.{Notice}

-- with the value that it shows
abbrev pub showing : {A : Type 0} → (A → Shown) → Result A CallError → Result Shown CallError
showing show (Ok a) = Ok (show a)
showing show (Err e) = Err e

abbrev pub answer_with : Shown → List Notice → Answer
answer_with s notes = record { notes = notes; shown = s; stray = None }

-- a refusal is an answer too; where memory runs out there is none
abbrev pub answered_by : Result Shown CallError → List Notice → Result Answer NoMemory
answered_by (Ok s) notes = Ok (answer_with s notes)
answered_by (Err (No c)) notes = Ok (answer_with (shown.Refused c) notes)
answered_by (Err OutOfMemory) notes = Err (record {})
