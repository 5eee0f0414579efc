use Rattle.cf_filter_calls.proofs.Consented.{beside_else, beside_open}
use Rattle.cf_filter_calls.proofs.consents.is_used_beside.Goals as goal

pub returns-then-is_open : goal.returns-then-is_open
returns-then-is_open g c = beside_open g.S.Steps.sense c.args.s.now c.args.ask.now c.is_open.result c.is_open.ensures c.if-is_open.true

pub returns : goal.returns
returns g c = beside_else g.S.Steps.sense c.args.s.now c.args.ask.now c.is_open.result c.busy_beside.result c.requests.result.now c.is_open.ensures c.if-is_open.false c.requests.ensures.means c.busy_beside.ensures
