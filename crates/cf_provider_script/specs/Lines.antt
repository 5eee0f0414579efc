-- What the scripted provider does inside a callback: planned operations, each with its line.
use Rattle.std.specs.Prelude.{Bool, true, false, cond, List, [], ◌∷◌, ◌++◌, ◌≡◌, ◌⊎◌, Option, Some, None, Result, Ok, Err}
use Rattle.cf_base.specs.declared.answers.Shown.{Shown}
use Rattle.cf_base.specs.declared.codes.Code.{Code}
use Rattle.cf_base.specs.declared.codes.CallError.{CallError}
use Rattle.cf_base.specs.declared.codes.CallError.TheVariants.{No, OutOfMemory}
use Rattle.cf_base.specs.declared.ids.Key.{Key}
use Rattle.cf_base.specs.declared.memory.OutOfMemory.{OutOfMemory as NoMemory}
use Rattle.cf_base.specs.declared.notices.Notice.{Notice}
use Rattle.cf_base.specs.declared.notices.Notice.TheVariants as notice
use Rattle.cf_base.specs.declared.notices.OperationAnswer.{OperationAnswer}
use Rattle.cf_base.specs.declared.notices.OperationAnswer.TheVariants as operation_answer
use Rattle.cf_base.specs.declared.operations.Operation.{Operation}
use Rattle.cf_provider.specs.Acting.{shown_of}
use Rattle.cf_provider.specs.Sights.{Sight}
use Rattle.cf_provider.specs.declared.outcomes.Callback.{Callback}
use Rattle.cf_provider.specs.declared.outcomes.Outcome.{Outcome}
use Rattle.cf_model.specs.Arrows.{is_device}
use Rattle.cf_model.specs.Callbacks.{operation_line, planned_on}
use Rattle.cf_model.specs.Ports.{Act, Did, Failed, Noted}

abbrev pub line_of : Shown → Notice
line_of answer = notice.Operation (operation_line answer)

-- The operations in turn, each with its line. One that met the device has none, and is the last.
unfoldable pub CarriesOut : Key → List (Bool × Operation) → List Act → Type 0
CarriesOut own [] acts = acts ≡ []
CarriesOut own (p ∷ ps) acts =
    (acts ≡ Failed [] (planned_on own p) ∷ [])
    ⊎ ((answer : Shown) × (rest : List Act) × (acts ≡ Did [] (planned_on own p) answer ∷ Noted (line_of answer) ∷ rest) × CarriesOut own ps rest)

-- A callback takes the whole plan, on its ask's key, whatever is seen, and leaves none.
abbrev pub Answers : List (Bool × Operation) → Sight → Callback → List Act → List (Bool × Operation) → Type 0
Answers plan sight call acts left = CarriesOut call.ask.key plan acts × (left ≡ [])

-- one operation

abbrev pub refused_line : Code → Option OperationAnswer
refused_line c = cond (is_device c) None (Some (operation_answer.Refused c))

-- the line of an operation that ended so, if it has one; memory runs out only with the operation
abbrev pub Lines : Result Outcome CallError → Result (Option OperationAnswer) NoMemory → Type 0
Lines (Ok o) (Ok line) = line ≡ Some (operation_line (shown_of o))
Lines (Err (No c)) (Ok line) = line ≡ refused_line c
Lines (Err OutOfMemory) (Ok line) = ⊥
Lines (Err OutOfMemory) (Err e) = Unit {0}
Lines told (Err e) = ⊥

-- What is done of an operation and its line when memory runs out: nothing, or the operation without its line.
abbrev pub IsBegun : Operation → List Act → Type 0
IsBegun op [] = Unit {0}
IsBegun op (Did seen done answer ∷ []) = (seen ≡ []) × (done ≡ op)
IsBegun op acts = ⊥

-- It was done, and its line noted, or it met the device.
abbrev pub Carries : {X : Type 0} → (X → List Act → X → Type 0) → Operation → X → Result Bool NoMemory → X → Type 0
Carries goes op old (Ok true) new = (answer : Shown) × goes old (Did [] op answer ∷ Noted (line_of answer) ∷ []) new
Carries goes op old (Ok false) new = goes old (Failed [] op ∷ []) new
Carries goes op old (Err e) new = (acts : List Act) × IsBegun op acts × goes old acts new

-- So far a plan was carried out but for its rest.
pub record HasCarried {X : Type 0} (goes : X → List Act → X → Type 0) (own : Key) (plan : List (Bool × Operation)) (first : X) (rest : List (Bool × Operation)) (now : X) : Type 0 where
  pub acts : List Act
  pub did : goes first acts now
  pub leads : (more : List Act) → CarriesOut own rest more → CarriesOut own plan (acts ++ more)
