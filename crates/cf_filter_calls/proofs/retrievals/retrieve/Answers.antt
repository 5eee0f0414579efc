use Rattle.cf_filter_calls.proofs.Retrieved.{retrieve_off, retrieve_on}
use Rattle.cf_filter_calls.proofs.retrievals.retrieve.Goals as goal

pub returns-then-holds_all : goal.returns-then-holds_all
returns-then-holds_all g c = retrieve_on g.S.Steps.sense c.args.ask.now c.args.span c.holds_all.result c.args.s.now c.retrieve_now.new.s c.retrieve_now.result c.holds_all.ensures c.if-holds_all.true c.retrieve_now.ensures

pub returns-else-holds_all : goal.returns-else-holds_all
returns-else-holds_all g c = retrieve_off g.S.Steps.sense c.args.ask.now c.args.span c.holds_all.result c.args.s.now c.holds_all.ensures c.if-holds_all.false
