-- The engine as a provider: what it does in a callback.
use Rattle.std.specs.Prelude.{true, Option, Some, None}
use Rattle.cf_base.specs.declared.messages.Request.{Request}
use Rattle.cf_base.specs.declared.messages.Request.TheVariants as request
use Rattle.cf_base.specs.declared.operations.Operation.TheVariants as operation
use Rattle.cf_base.specs.declared.waits.Ask.{Ask}
use Rattle.cf_base.specs.declared.waits.AskKind.{AskKind}
use Rattle.cf_base.specs.declared.waits.AskKind.TheVariants as ask_kind
use Rattle.cf_model.specs.Arrows.{Arrow, ret, unit}
use Rattle.cf_model.specs.Fetching.{do_op}
use Rattle.cf_model.specs.Identities.{base_rid, base_version, target_of}
use Rattle.cf_model.specs.Items.{Item, item_of}
use Rattle.cf_model.specs.Messages.{send}
use Rattle.cf_model.specs.State.{State, items_now}

-- the bytes of the base that the ask is about
abbrev pub fetch_of : Ask → Item → Request
fetch_of a i = request.Fetch a.key (base_rid i) (base_version i) a.span.start a.span.len

abbrev pub list_of : Ask → Item → Request
list_of a i = request.List a.key (target_of i)

-- a fetch callback sends Fetch, a list callback sends List, and to a dehydration it consents at once
abbrev pub agent_on : AskKind → Ask → Option Item → Arrow State (Unit {0})
agent_on ask_kind.Fetch a (Some i) = send (fetch_of a i)
agent_on ask_kind.Fetch a None = ret unit
agent_on ask_kind.Validate a i = ret unit
agent_on ask_kind.List a (Some i) = send (list_of a i)
agent_on ask_kind.List a None = ret unit
agent_on ask_kind.Dehydrate a i = do_op (operation.AckDehydrate a.key true)

abbrev pub agent : Ask → Arrow State (Unit {0})
agent a s = agent_on a.kind a (item_of (items_now s) a.item) s
