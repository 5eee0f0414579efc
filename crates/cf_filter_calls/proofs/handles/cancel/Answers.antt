use Rattle.cf_filter_calls.proofs.Opened.{cancel_at, cancel_none}
use Rattle.cf_filter_calls.proofs.handles.cancel.Goals as goal

pub returns-in-Some : goal.returns-in-Some
returns-in-Some g c = cancel_at g.S.Steps.sense c.args.wait c.requests.result.now c.wait_item.result c.in-Some.item c.args.s.now c.cancel_on.new.s c.cancel_on.result c.requests.ensures.means c.wait_item.ensures c.in-Some.is c.cancel_on.ensures

pub returns-in-None : goal.returns-in-None
returns-in-None g c = cancel_none g.S.Steps.sense c.args.wait c.requests.result.now c.wait_item.result c.args.s.now c.requests.ensures.means c.wait_item.ensures c.in-None.is
