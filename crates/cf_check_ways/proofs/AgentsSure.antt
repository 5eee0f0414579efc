-- The parts of `Agents` are sure, each by its own parts.
use Rattle.std.proofs.Common.{refl}
use Rattle.std.specs.Prelude.{true, Option, Some, None}
use Rattle.cf_base.specs.declared.operations.Operation.TheVariants as operation
use Rattle.cf_base.specs.declared.waits.Ask.{Ask}
use Rattle.cf_base.specs.declared.waits.AskKind.{AskKind}
use Rattle.cf_base.specs.declared.waits.AskKind.TheVariants as ask_kind
use Rattle.cf_model.specs.Arrows.{unit}
use Rattle.cf_model.specs.Items.{Item, item_of}
use Rattle.cf_model.specs.State.{items_now}
use Rattle.cf_model.specs.Agents.{agent, agent_on, fetch_of, list_of}
use Rattle.cf_check_ways.specs.Ways.{IsSure, of_state}
use Rattle.cf_check_ways.proofs.Sure.{sure_fixed, sure_ret}
use Rattle.cf_check_ways.proofs.FetchingSure as fetching_sure
use Rattle.cf_check_ways.proofs.MessagesSure as messages_sure

pub agent_on_sure : (x1 : AskKind) → (x2 : Ask) → (x3 : Option Item) → IsSure of_state (agent_on x1 x2 x3)
agent_on_sure ask_kind.Fetch a (Some i) = messages_sure.send_sure (fetch_of a i)
agent_on_sure ask_kind.Fetch a None = sure_ret of_state unit
agent_on_sure ask_kind.Validate a i = sure_ret of_state unit
agent_on_sure ask_kind.List a (Some i) = messages_sure.send_sure (list_of a i)
agent_on_sure ask_kind.List a None = sure_ret of_state unit
agent_on_sure ask_kind.Dehydrate a i = fetching_sure.do_op_sure (operation.AckDehydrate a.key true)

pub agent_sure : (x1 : Ask) → IsSure of_state (agent x1)
agent_sure a = sure_fixed of_state (agent a) (λ x. agent_on a.kind a (item_of (items_now x) a.item)) (λ s. refl) (λ x. agent_on_sure a.kind a (item_of (items_now x) a.item))
