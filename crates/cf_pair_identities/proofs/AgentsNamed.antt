-- The parts of `Agents` keep identities named.
use Rattle.std.specs.Prelude.{Bool, true, Option, Some, None}
use Rattle.cf_base.specs.declared.operations.Operation.TheVariants as operation
use Rattle.cf_base.specs.declared.waits.Ask.{Ask}
use Rattle.cf_base.specs.declared.waits.AskKind.{AskKind}
use Rattle.cf_base.specs.declared.waits.AskKind.TheVariants as ask_kind
use Rattle.cf_model.specs.Agents.{agent, agent_on, fetch_of, list_of}
use Rattle.cf_model.specs.Arrows.{Preserves, unit}
use Rattle.cf_model.specs.Items.{Item, item_of}
use Rattle.cf_model.specs.State.{items_now}
use Rattle.cf_model.proofs.ArrowLaws.{keeps_ret}
use Rattle.cf_pair_identities.specs.Named.{Named}
use Rattle.cf_pair_identities.proofs.FetchingNamed as fetching_named
use Rattle.cf_pair_identities.proofs.MessagesNamed as messages_named

pub agent_on_keeps : (full : Bool) → (x1 : AskKind) → (x2 : Ask) → (x3 : Option Item) → Preserves (Named full) (agent_on x1 x2 x3)
agent_on_keeps full ask_kind.Fetch a (Some i) = messages_named.send_keeps full (fetch_of a i)
agent_on_keeps full ask_kind.Fetch a None = keeps_ret (Named full) unit
agent_on_keeps full ask_kind.Validate a i = keeps_ret (Named full) unit
agent_on_keeps full ask_kind.List a (Some i) = messages_named.send_keeps full (list_of a i)
agent_on_keeps full ask_kind.List a None = keeps_ret (Named full) unit
agent_on_keeps full ask_kind.Dehydrate a i = fetching_named.do_op_keeps full (operation.AckDehydrate a.key true) tt

pub agent_keeps : (full : Bool) → (x1 : Ask) → Preserves (Named full) (agent x1)
agent_keeps full a = record { keeps = λ s h. (agent_on_keeps full a.kind a (item_of (items_now s) a.item)).keeps s h }
