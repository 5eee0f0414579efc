use Rattle.cf_filter_calls.proofs.Ticked.{expire_none, expire_on}
use Rattle.cf_filter_calls.proofs.ticks.expire.Goals as goal

pub returns-in-Some : goal.returns-in-Some
returns-in-Some g c = expire_on g.S.Steps.sense c.args.key c.requests.result.now c.ask.result c.in-Some.ask c.args.s.now c.settle.new.s c.settle.result c.requests.ensures.means c.ask.ensures c.in-Some.is c.settle.ensures

pub returns-in-None : goal.returns-in-None
returns-in-None g c = expire_none g.S.Steps.sense c.args.key c.requests.result.now c.ask.result c.args.s.now c.requests.ensures.means c.ask.ensures c.in-None.is
