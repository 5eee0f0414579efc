-- What the parts of `Callbacks` keep, each by what its own parts keep.
use Rattle.std.specs.Prelude.{ℕ, zero, suc, Bool, List, [], ◌∷◌}
use Rattle.cf_base.specs.declared.answers.Shown.{Shown}
use Rattle.cf_base.specs.declared.ids.Key.{Key}
use Rattle.cf_base.specs.declared.operations.Operation.{Operation}
use Rattle.cf_base.specs.declared.policies.Mode.{Mode}
use Rattle.cf_base.specs.declared.policies.Mode.TheVariants as mode
use Rattle.cf_base.specs.declared.waits.Ask.{Ask}
use Rattle.cf_model.specs.Arrows.{Arrow, each, noted}
use Rattle.cf_model.specs.Numbers.{most}
use Rattle.cf_model.specs.Operations.{execute}
use Rattle.cf_model.specs.State.{Filter, State, in_filter, with_filter}
use Rattle.cf_model.specs.Trees.{Tree, Ret, bind}
use Rattle.cf_model.proofs.AgentsKeep as agents_keep
use Rattle.cf_model.proofs.OperationsKeep as operations_keep
use Rattle.cf_model.specs.Callbacks.{call_back, calling, carry_out, carry_out_all, drain, drained, finish, finish_call, mode_of, note_operation, plan_of, planned_on, provider, provider_on, scripted, with_operation_told, with_outbox, without_plan}
use Rattle.cf_model.proofs.Closed.{Closed, ClosedFilter}
use Rattle.cf_model.proofs.ArrowLaws.{keeps_each, keeps_lifted, keeps_noted, keeps_reading, keeps_seq, keeps_then}
use Rattle.cf_model.specs.Trees.{Keeps}
use Rattle.cf_model.proofs.TreeLaws.{keeps_bind}
use Rattle.cf_model.specs.Arrows.{Preserves}

pub note_operation_keeps : (P : State → Type 0) → Closed P → (x1 : Shown) → Preserves P (note_operation x1)
note_operation_keeps P closed answer = keeps_noted P (with_operation_told answer) (closed.keeps_with_operation_told answer)

pub carry_out_keeps : (P : State → Type 0) → Closed P → (x1 : Key) → (x2 : Bool × Operation) → Preserves P (carry_out x1 x2)
carry_out_keeps P closed own p = keeps_seq P (in_filter (execute (planned_on own p))) note_operation (keeps_lifted P (λ s. s.filter) with_filter (execute (planned_on own p)) (λ t i. i) (λ t1 i2. (operations_keep.execute_keeps (λ x. P (with_filter x t1)) (closed.on_filter t1 i2) (planned_on own p)))) (note_operation_keeps P closed)

pub carry_out_all_keeps : (P : State → Type 0) → Closed P → (x1 : Key) → (x2 : List (Bool × Operation)) → Preserves P (carry_out_all x1 x2)
carry_out_all_keeps P closed own ops = keeps_then P (noted without_plan) (each (carry_out own) ops) (keeps_noted P without_plan (closed.keeps_without_plan)) (keeps_each P (carry_out own) ops (carry_out_keeps P closed own))

pub scripted_keeps : (P : State → Type 0) → Closed P → (x1 : Ask) → Preserves P (scripted x1)
scripted_keeps P closed a = keeps_reading P plan_of (carry_out_all a.key) (carry_out_all_keeps P closed a.key)

pub provider_keeps : (P : State → Type 0) → Closed P → (x1 : Mode) → (x2 : Ask) → Preserves P (provider x1 x2)
provider_keeps P closed mode.Replay a = agents_keep.agent_keeps P closed a
provider_keeps P closed mode.Filter a = scripted_keeps P closed a

pub provider_on_keeps : (P : State → Type 0) → Closed P → (x1 : Ask) → (x2 : Mode) → Preserves P (provider_on x1 x2)
provider_on_keeps P closed a m = provider_keeps P closed m a

pub call_back_keeps : (P : State → Type 0) → Closed P → (x1 : Ask) → Preserves P (call_back x1)
call_back_keeps P closed a = keeps_reading P mode_of (provider_on a) (provider_on_keeps P closed a)

popped_keeps : (P : State → Type 0) (closed : Closed P) (n : ℕ) → Preserves P (drained n) → (asks : List Ask) (s : State) → P s
    → Keeps P (elim asks as (λ _. Tree State (Unit {0})) [ [] ↦ Ret (record {}) s | a ∷ rest ↦ bind (call_back a (with_outbox rest s)) (λ _ t. drained n t) ])
popped_keeps P closed n k [] s i = i
popped_keeps P closed n k (a ∷ rest) s i = keeps_bind P (call_back a (with_outbox rest s)) (λ _ t. drained n t) ((call_back_keeps P closed a).keeps (with_outbox rest s) (closed.keeps_with_outbox rest s i)) (λ u t j. k.keeps t j)

pub drained_keeps : (P : State → Type 0) → Closed P → (n : ℕ) → Preserves P (drained n)
drained_keeps P closed zero = record { keeps = λ s i. i }
drained_keeps P closed (suc n) = record { keeps = λ s i. popped_keeps P closed n (drained_keeps P closed n) s.filter.outbox s i }

pub finish_keeps : (P : Filter → Type 0) → ClosedFilter P → (answer : Shown) → Preserves P (finish answer)
finish_keeps P closed answer = record { keeps = λ s i. closed.keeps_begin_call s i }

pub drain_keeps : (P : State → Type 0) → Closed P → Preserves P (drain)
drain_keeps P closed = drained_keeps P closed most

pub finish_call_keeps : (P : State → Type 0) → Closed P → (x1 : Shown) → Preserves P (finish_call x1)
finish_call_keeps P closed answer = keeps_then P drain (in_filter (finish answer)) (drain_keeps P closed) (keeps_lifted P (λ s. s.filter) with_filter (finish answer) (λ t i. i) (λ t1 i2. (finish_keeps (λ x. P (with_filter x t1)) (closed.on_filter t1 i2) answer)))

pub calling_keeps : (P : State → Type 0) → Closed P → (x1 : Arrow Filter Shown) → ((t : State) → P t → Preserves (λ x. P (with_filter x t)) (x1)) → Preserves P (calling x1)
calling_keeps P closed part part_keeps = keeps_seq P (in_filter part) finish_call (keeps_lifted P (λ s. s.filter) with_filter part (λ t i. i) (λ t1 i2. (part_keeps t1 i2))) (finish_call_keeps P closed)
