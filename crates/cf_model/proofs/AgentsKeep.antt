-- What the parts of `Agents` keep, each by what its own parts keep.
use Rattle.std.specs.Prelude.{true, Option, Some, None}
use Rattle.cf_base.specs.declared.operations.Operation.TheVariants as operation
use Rattle.cf_base.specs.declared.waits.Ask.{Ask}
use Rattle.cf_base.specs.declared.waits.AskKind.{AskKind}
use Rattle.cf_base.specs.declared.waits.AskKind.TheVariants as ask_kind
use Rattle.cf_model.specs.Arrows.{unit}
use Rattle.cf_model.specs.Items.{Item, item_of}
use Rattle.cf_model.specs.State.{State, items_now}
use Rattle.cf_model.proofs.FetchingKeep as fetching_keep
use Rattle.cf_model.proofs.MessagesKeep as messages_keep
use Rattle.cf_model.specs.Agents.{agent, agent_on, fetch_of, list_of}
use Rattle.cf_model.proofs.Closed.{Closed}
use Rattle.cf_model.proofs.ArrowLaws.{keeps_ret}
use Rattle.cf_model.specs.Arrows.{Preserves}

pub agent_on_keeps : (P : State → Type 0) → Closed P → (x1 : AskKind) → (x2 : Ask) → (x3 : Option Item) → Preserves P (agent_on x1 x2 x3)
agent_on_keeps P closed ask_kind.Fetch a (Some i) = messages_keep.send_keeps P closed (fetch_of a i)
agent_on_keeps P closed ask_kind.Fetch a None = keeps_ret P unit
agent_on_keeps P closed ask_kind.Validate a i = keeps_ret P unit
agent_on_keeps P closed ask_kind.List a (Some i) = messages_keep.send_keeps P closed (list_of a i)
agent_on_keeps P closed ask_kind.List a None = keeps_ret P unit
agent_on_keeps P closed ask_kind.Dehydrate a i = fetching_keep.do_op_keeps P closed (operation.AckDehydrate a.key true)

pub agent_keeps : (P : State → Type 0) → Closed P → (x1 : Ask) → Preserves P (agent x1)
agent_keeps P closed a = record { keeps = λ s i_. ((agent_on_keeps P closed a.kind a (item_of (items_now s) a.item))).keeps s i_ }
