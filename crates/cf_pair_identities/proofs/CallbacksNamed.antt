-- The parts of `Callbacks` keep identities named.
use Rattle.std.proofs.Common.{◌≡◌, true}
use Rattle.std.specs.Prelude.{ℕ, zero, suc, Bool, List, [], ◌∷◌}
use Rattle.cf_base.specs.declared.answers.Shown.{Shown}
use Rattle.cf_base.specs.declared.policies.Mode.{Mode}
use Rattle.cf_base.specs.declared.policies.Mode.TheVariants as mode
use Rattle.cf_base.specs.declared.waits.Ask.{Ask}
use Rattle.cf_model.specs.Arrows.{Arrow, Preserves}
use Rattle.cf_model.specs.Callbacks.{call_back, calling, drain, drained, finish, finish_call, provider, with_outbox}
use Rattle.cf_model.specs.Numbers.{most}
use Rattle.cf_model.specs.State.{Filter, in_filter, is_replay, State}
use Rattle.cf_model.specs.Trees.{bind, Keeps, Ret, Tree}
use Rattle.cf_model.proofs.ArrowLaws.{keeps_seq, keeps_then}
use Rattle.cf_model.proofs.TreeLaws.{keeps_bind}
use Rattle.cf_model_laws.proofs.RightItems.{no_way}
use Rattle.cf_pair_identities.specs.Named.{Named, NamedIn}
use Rattle.cf_pair_identities.proofs.AgentsNamed as agents_named
use Rattle.cf_pair_identities.proofs.NamedSteps.{in_filter_keeps}

pub provider_keeps : (full : Bool) → (x1 : Mode) → is_replay x1 ≡ true → (x2 : Ask) → Preserves (Named full) (provider x1 x2)
provider_keeps full mode.Replay is a = agents_named.agent_keeps full a
provider_keeps full mode.Filter is a = no_way is

pub call_back_keeps : (full : Bool) → (x1 : Ask) → Preserves (Named full) (call_back x1)
call_back_keeps full a = record { keeps = λ s h. (provider_keeps full s.mode h.1 a).keeps s h }

popped_keeps : (full : Bool) (n : ℕ) → Preserves (Named full) (drained n) → (asks : List Ask) (s : State) → Named full s
    → Keeps (Named full) (elim asks as (λ _. Tree State (Unit {0})) [ [] ↦ Ret (record {}) s | a ∷ rest ↦ bind (call_back a (with_outbox rest s)) (λ _ t. drained n t) ])
popped_keeps full n k [] s i = i
popped_keeps full n k (a ∷ rest) s i = keeps_bind (Named full) (call_back a (with_outbox rest s)) (λ _ t. drained n t) ((call_back_keeps full a).keeps (with_outbox rest s) i) (λ u t j. k.keeps t j)

pub drained_keeps : (full : Bool) → (n : ℕ) → Preserves (Named full) (drained n)
drained_keeps full zero = record { keeps = λ s i. i }
drained_keeps full (suc n) = record { keeps = λ s i. popped_keeps full n (drained_keeps full n) s.filter.outbox s i }

pub finish_keeps : (full : Bool) → (answer : Shown) → Preserves (NamedIn full) (finish answer)
finish_keeps full answer = record { keeps = λ s i. i }

pub drain_keeps : (full : Bool) → Preserves (Named full) (drain)
drain_keeps full = drained_keeps full most

pub finish_call_keeps : (full : Bool) → (x1 : Shown) → Preserves (Named full) (finish_call x1)
finish_call_keeps full answer = keeps_then (Named full) drain (in_filter (finish answer)) (drain_keeps full) (in_filter_keeps full (finish answer) (finish_keeps full answer))

pub calling_keeps : (full : Bool) → (x1 : Arrow Filter Shown) → Preserves (NamedIn full) x1 → Preserves (Named full) (calling x1)
calling_keeps full part part_keeps = keeps_seq (Named full) (in_filter part) finish_call (in_filter_keeps full part part_keeps) (finish_call_keeps full)
