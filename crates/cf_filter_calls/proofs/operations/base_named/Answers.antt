use Rattle.cf_filter_calls.proofs.Executed.{base_none, base_some}
use Rattle.cf_filter_calls.proofs.operations.base_named.Goals as goal

pub returns-in-Some : goal.returns-in-Some
returns-in-Some g c = base_some g.S.Steps.sense c.args.s.now c.args.key c.ask_at.result c.in-Some.ask c.base_at.result c.ask_at.ensures c.in-Some.is c.base_at.ensures

pub returns-in-None : goal.returns-in-None
returns-in-None g c = base_none g.S.Steps.sense c.args.s.now c.args.key c.ask_at.result c.ask_at.ensures c.in-None.is
