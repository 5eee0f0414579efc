use Rattle.cf_filter_calls.proofs.Opened.{open_off, open_on}
use Rattle.cf_filter_calls.proofs.handles.open_now.Goals as goal

pub returns-in-Some : goal.returns-in-Some
returns-in-Some g c = open_off g.S.Steps.sense c.args.id c.refuse_open.result c.in-Some.code c.args.s.now c.refuse_open.ensures c.in-Some.is

pub returns-in-None : goal.returns-in-None
returns-in-None g c = open_on g.S.Steps.sense c.args.id c.refuse_open.result c.args.s.now c.open_next.new.s c.open_next.result c.refuse_open.ensures c.in-None.is c.open_next.ensures
