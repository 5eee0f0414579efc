use Rattle.cf_model.specs.Waits.{close_item}
use Rattle.cf_filter_calls.proofs.Begun.{handle_off, handle_on}
use Rattle.cf_filter_calls.proofs.handles.close.Goals as goal

pub returns-in-Some : goal.returns-in-Some
returns-in-Some g c = handle_on g.S.Steps.sense c.args.handle (close_item c.args.handle) c.opened.result c.in-Some.item c.args.s.now c.close_item.new.s c.close_item.result c.opened.ensures c.in-Some.is c.close_item.ensures

pub returns-in-None : goal.returns-in-None
returns-in-None g c = handle_off g.S.Steps.sense c.args.handle (close_item c.args.handle) c.opened.result c.args.s.now c.opened.ensures c.in-None.is
