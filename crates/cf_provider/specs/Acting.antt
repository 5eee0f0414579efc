-- What an operation and a note of a provider tell of the port.
use Rattle.std.specs.Prelude.{Bool, true, false, List, [], ◌∷◌, Result, Ok, Err}
use Rattle.cf_base.specs.declared.answers.Shown.{Shown}
use Rattle.cf_base.specs.declared.answers.Shown.TheVariants as shown
use Rattle.cf_base.specs.declared.codes.Code.{Code}
use Rattle.cf_base.specs.declared.codes.Code.TheVariants as code
use Rattle.cf_base.specs.declared.codes.CallError.{CallError}
use Rattle.cf_base.specs.declared.codes.CallError.TheVariants.{No, OutOfMemory}
use Rattle.cf_base.specs.declared.items.SeenPath.{SeenPath}
use Rattle.cf_base.specs.declared.memory.OutOfMemory.{OutOfMemory as NoMemory}
use Rattle.cf_base.specs.declared.notices.Notice.{Notice}
use Rattle.cf_base.specs.declared.notices.Notice.TheVariants as notice
use Rattle.cf_base.specs.declared.operations.Operation.{Operation}
use Rattle.cf_provider.specs.declared.outcomes.Outcome.{Outcome}
use Rattle.cf_provider.specs.declared.outcomes.Outcome.TheVariants as outcome
use Rattle.cf_model.specs.Ports.{Act, Did, Failed, Noted}

abbrev pub shown_of : Outcome → Shown
shown_of outcome.Done = shown.Done
shown_of (outcome.Data bytes) = shown.Retrieved bytes

-- an operation that was refused; one that met the device has no answer
abbrev pub refused_by : List SeenPath → Operation → Code → Act
refused_by seen op code.Device = Failed seen op
refused_by seen op c = Did seen op (shown.Refused c)

-- The operation, with these paths seen, led from the one state to the other, with this result. Without memory no act did.
abbrev pub Executes : {X : Type 0} → (X → List Act → X → Type 0) → List SeenPath → Operation → X → Result Outcome CallError → X → Type 0
Executes goes seen op old (Ok o) new = goes old (Did seen op (shown_of o) ∷ []) new
Executes goes seen op old (Err (No c)) new = goes old (refused_by seen op c ∷ []) new
Executes goes seen op old (Err OutOfMemory) new = goes old [] new

-- The note was added, and nothing else happened. Without memory no act did.
abbrev pub Notes : {X : Type 0} → (X → List Act → X → Type 0) → Notice → X → Result (Unit {0}) NoMemory → X → Type 0
Notes goes n old (Ok u) new = goes old (Noted n ∷ []) new
Notes goes n old (Err e) new = goes old [] new

-- what a provider may note
abbrev pub is_note : Notice → Bool
is_note (notice.Operation answer) = true
is_note (notice.Message sent) = true
is_note (notice.Fault message) = true
is_note (notice.Skipped c) = true
is_note _ = false

-- the operations among acts
abbrev pub operations : List Act → List Operation
operations [] = []
operations (Did seen op answer ∷ acts) = op ∷ operations acts
operations (Failed seen op ∷ acts) = op ∷ operations acts
operations (Noted n ∷ acts) = operations acts
