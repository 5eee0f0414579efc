-- Callbacks: in the order of making, each after the earlier ones have returned.
use Rattle.std.specs.Prelude.{ℕ, zero, suc, Bool, true, false, List, [], ◌∷◌, Option, Some, None}
use Rattle.cf_base.specs.declared.answers.Shown.{Shown}
use Rattle.cf_base.specs.declared.answers.Shown.TheVariants as shown
use Rattle.cf_base.specs.declared.ids.Key.{Key}
use Rattle.cf_base.specs.declared.ids.WaitId.{WaitId}
use Rattle.cf_base.specs.declared.notices.Notice.TheVariants as notice
use Rattle.cf_base.specs.declared.notices.OperationAnswer.{OperationAnswer}
use Rattle.cf_base.specs.declared.notices.OperationAnswer.TheVariants as operation_answer
use Rattle.cf_base.specs.declared.operations.Operation.{Operation}
use Rattle.cf_base.specs.declared.operations.Operation.TheVariants as operation
use Rattle.cf_base.specs.declared.policies.Mode.{Mode}
use Rattle.cf_base.specs.declared.policies.Mode.TheVariants as mode
use Rattle.cf_base.specs.declared.waits.Ask.{Ask}
use Rattle.cf_base.specs.declared.waits.End.{End}
use Rattle.cf_model.specs.Agents.{agent}
use Rattle.cf_model.specs.Arrows.{Arrow, each, noted, reading, seq, then_do}
use Rattle.cf_model.specs.Numbers.{most}
use Rattle.cf_model.specs.Operations.{execute}
use Rattle.cf_model.specs.State.{Filter, State, in_filter, note, with_filter}
use Rattle.cf_model.specs.Trees.{Tree, Ret, bind}

-- the scripted provider

abbrev pub with_key : Key → Operation → Operation
with_key own (operation.Transfer key at bytes) = operation.Transfer own at bytes
with_key own (operation.Refuse key asked status) = operation.Refuse own asked status
with_key own (operation.Retrieve key asked) = operation.Retrieve own asked
with_key own (operation.Ack key asked good) = operation.Ack own asked good
with_key own (operation.Restart key) = operation.Restart own
with_key own (operation.Entries key list good) = operation.Entries own list good
with_key own (operation.AckDehydrate key good) = operation.AckDehydrate own good

-- a planned operation, on the callback's own key where that is meant
abbrev pub planned_on : Key → Bool × Operation → Operation
planned_on own (true, op) = with_key own op
planned_on own (false, op) = op

abbrev pub operation_line : Shown → OperationAnswer
operation_line (shown.Retrieved bytes) = operation_answer.Data bytes
operation_line (shown.Refused code) = operation_answer.Refused code
operation_line _ = operation_answer.Done

abbrev pub with_operation_told : Shown → State → State
with_operation_told answer s = note (notice.Operation (operation_line answer)) s

abbrev pub note_operation : Shown → Arrow State (Unit {0})
note_operation answer = noted (with_operation_told answer)

abbrev pub carry_out : Key → Bool × Operation → Arrow State (Unit {0})
carry_out own p = seq (in_filter (execute (planned_on own p))) note_operation

abbrev pub without_plan : State → State
without_plan s = record s { plan = [] }

abbrev pub plan_of : State → List (Bool × Operation)
plan_of s = s.plan

-- the whole plan, in order
abbrev pub carry_out_all : Key → List (Bool × Operation) → Arrow State (Unit {0})
carry_out_all own ops = then_do (noted without_plan) (each (carry_out own) ops)

abbrev pub scripted : Ask → Arrow State (Unit {0})
scripted a = reading plan_of (carry_out_all a.key)

-- which provider answers

abbrev pub provider : Mode → Ask → Arrow State (Unit {0})
provider mode.Replay a = agent a
provider mode.Filter a = scripted a

abbrev pub mode_of : State → Mode
mode_of s = s.mode

abbrev pub provider_on : Ask → Mode → Arrow State (Unit {0})
provider_on a m = provider m a

abbrev pub call_back : Ask → Arrow State (Unit {0})
call_back a = reading mode_of (provider_on a)

-- the outbox

abbrev pub with_outbox : List Ask → State → State
with_outbox asks s = with_filter (record s.filter { outbox = asks }) s

-- Until no callback is left. Each spends a key of the epoch, so that there are no more than keys.
abbrev pub drained : ℕ → Arrow State (Unit {0})
drained zero s = Ret (record {}) s
drained (suc fuel) s = elim s.filter.outbox as (λ _. Tree State (Unit {0})) [
  | [] ↦ Ret (record {}) s
  | a ∷ rest ↦ bind (call_back a (with_outbox rest s)) (λ _ t. drained fuel t)
]

abbrev pub drain : Arrow State (Unit {0})
drain = drained most

-- a call of the filter: its part, its callbacks, and the result: of a wait that ended meanwhile its end

abbrev pub begin_call : Filter → Filter
begin_call s = record s { own = None; ending = None }

abbrev pub end_or_pending : WaitId → Option End → Shown
end_or_pending id None = shown.Pending id
end_or_pending id (Some e) = shown.Ended e

abbrev pub result_of : Shown → Filter → Shown
result_of (shown.Pending id) s = end_or_pending id s.ending
result_of answer s = answer

-- the call is over, with its result
abbrev pub finish : Shown → Arrow Filter Shown
finish answer s = Ret (result_of answer s) (begin_call s)

abbrev pub finish_call : Shown → Arrow State Shown
finish_call answer = then_do drain (in_filter (finish answer))

abbrev pub calling : Arrow Filter Shown → Arrow State Shown
calling part = seq (in_filter part) finish_call
