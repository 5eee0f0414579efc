-- The parts of `Callbacks` are sure, each by its own parts.
use Rattle.std.proofs.Common.{◌≡◌, refl}
use Rattle.std.specs.Prelude.{ℕ, zero, suc, Bool, List, [], ◌∷◌}
use Rattle.cf_base.specs.declared.answers.Shown.{Shown}
use Rattle.cf_base.specs.declared.answers.Shown.TheVariants as shown
use Rattle.cf_base.specs.declared.ids.Key.{Key}
use Rattle.cf_base.specs.declared.operations.Operation.{Operation}
use Rattle.cf_base.specs.declared.policies.Mode.{Mode}
use Rattle.cf_base.specs.declared.policies.Mode.TheVariants as mode
use Rattle.cf_base.specs.declared.waits.Ask.{Ask}
use Rattle.cf_model.specs.Arrows.{Arrow, each, noted, ret, then_do}
use Rattle.cf_model.specs.Numbers.{most}
use Rattle.cf_model.specs.Operations.{execute}
use Rattle.cf_model.specs.State.{Filter, State, in_filter}
use Rattle.cf_model.specs.Trees.{Tree, Ret, bind}
use Rattle.cf_model.specs.Callbacks.{begin_call, call_back, calling, carry_out, carry_out_all, drain, drained, finish, finish_call, mode_of, note_operation, plan_of, planned_on, provider, provider_on, result_of, scripted, with_operation_told, with_outbox, without_plan}
use Rattle.cf_check_ways.specs.Ways.{IsSure, fixed_filter, of_filter, of_state}
use Rattle.cf_check_ways.proofs.Sure.{plain_quiet, reads_fixed, sure_at, sure_each, sure_fixed, sure_noted, sure_reading, sure_ret, sure_seq, sure_then}
use Rattle.cf_check_ways.proofs.VolumeSteps.{sure_in_filter}
use Rattle.cf_check_ways.proofs.StateSteps.{with_operation_told_plain}
use Rattle.cf_check_ways.proofs.AgentsSure as agents_sure
use Rattle.cf_check_ways.proofs.OperationsSure as operations_sure

pub note_operation_sure : (x1 : Shown) → IsSure of_state (note_operation x1)
note_operation_sure answer = sure_noted of_state (with_operation_told answer) (with_operation_told_plain answer)

pub carry_out_sure : (x1 : Key) → (x2 : Bool × Operation) → IsSure of_state (carry_out x1 x2)
carry_out_sure own p = sure_seq of_state (in_filter (execute (planned_on own p))) note_operation (sure_in_filter (execute (planned_on own p)) (operations_sure.execute_sure (planned_on own p))) (note_operation_sure)

pub carry_out_all_sure : (x1 : Key) → (x2 : List (Bool × Operation)) → IsSure of_state (carry_out_all x1 x2)
carry_out_all_sure own ops = sure_then of_state (noted without_plan) (each (carry_out own) ops) (sure_noted of_state without_plan (plain_quiet of_state without_plan (λ s. refl) (λ s. refl) (λ s. refl) (λ s. refl) (λ s. refl) (λ s. refl))) (sure_each of_state (carry_out own) ops (carry_out_sure own))

pub scripted_sure : (x1 : Ask) → IsSure of_state (scripted x1)
scripted_sure a = sure_reading of_state plan_of (carry_out_all a.key) (reads_fixed of_state plan_of (λ s. refl)) (carry_out_all_sure a.key)

pub provider_sure : (x1 : Mode) → (x2 : Ask) → IsSure of_state (provider x1 x2)
provider_sure mode.Replay a = agents_sure.agent_sure a
provider_sure mode.Filter a = scripted_sure a

pub provider_on_sure : (x1 : Ask) → (x2 : Mode) → IsSure of_state (provider_on x1 x2)
provider_on_sure a m = provider_sure m a

pub call_back_sure : (x1 : Ask) → IsSure of_state (call_back x1)
call_back_sure a = sure_reading of_state mode_of (provider_on a) (reads_fixed of_state mode_of (λ s. refl)) (provider_on_sure a)

abbrev popped : ℕ → List Ask → Arrow State (Unit {0})
popped n asks s = elim asks as (λ _. Tree State (Unit {0})) [ [] ↦ Ret (record {}) s | a ∷ rest ↦ bind (call_back a (with_outbox rest s)) (λ _ t. drained n t) ]

popped_sure : (n : ℕ) → IsSure of_state (drained n) → (asks : List Ask) → IsSure of_state (popped n asks)
popped_sure n k [] = sure_fixed of_state (popped n []) (λ x. ret (record {})) (λ s. refl) (λ x. sure_ret of_state (record {}))
popped_sure n k (a ∷ rest) =
    sure_fixed of_state (popped n (a ∷ rest)) (λ x. then_do (noted (with_outbox rest)) (then_do (call_back a) (drained n))) (λ s. refl)
    (λ x. sure_then of_state (noted (with_outbox rest)) (then_do (call_back a) (drained n))
    (sure_noted of_state (with_outbox rest) (plain_quiet of_state (with_outbox rest) (λ s. refl) (λ s. refl) (λ s. refl) (λ s. refl) (λ s. refl) (λ s. refl)))
    (sure_then of_state (call_back a) (drained n) (call_back_sure a) k))

pub drained_sure : (n : ℕ) → IsSure of_state (drained n)
drained_sure zero = sure_fixed of_state (drained zero) (λ x. ret (record {})) (λ s. refl) (λ x. sure_ret of_state (record {}))
drained_sure (suc n) = sure_fixed of_state (drained (suc n)) (λ x. popped n x.filter.outbox) (λ s. refl) (λ x. popped_sure n (drained_sure n) x.filter.outbox)

same_result : (answer : Shown) (s : Filter) → result_of answer s ≡ result_of answer (fixed_filter s)
same_result (shown.Pending id) s = refl
same_result _ s = refl

pub finish_sure : (answer : Shown) → IsSure of_filter (finish answer)
finish_sure answer =
    sure_at of_filter (finish answer) (result_of answer) (λ r. then_do (noted begin_call) (ret r)) (λ s. refl) (reads_fixed of_filter (result_of answer) (same_result answer))
    (λ r. sure_then of_filter (noted begin_call) (ret r) (sure_noted of_filter begin_call (plain_quiet of_filter begin_call (λ s. refl) (λ s. refl) (λ s. refl) (λ s. refl) (λ s. refl) (λ s. refl))) (sure_ret of_filter r))

pub drain_sure : IsSure of_state (drain)
drain_sure = drained_sure most

pub finish_call_sure : (x1 : Shown) → IsSure of_state (finish_call x1)
finish_call_sure answer = sure_then of_state drain (in_filter (finish answer)) (drain_sure) (sure_in_filter (finish answer) (finish_sure answer))

pub calling_sure : (x1 : Arrow Filter Shown) → IsSure of_filter x1 → IsSure of_state (calling x1)
calling_sure part part_sure = sure_seq of_state (in_filter part) finish_call (sure_in_filter part part_sure) (finish_call_sure)
