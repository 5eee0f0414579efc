use Rattle.cf_model.specs.Calls.{size_item}
use Rattle.cf_filter_calls.proofs.Wrote.{handle_file}
use Rattle.cf_filter_calls.proofs.Begun.{handle_off}
use Rattle.cf_filter_calls.proofs.writes.set_size.Goals as goal

pub returns-in-Some : goal.returns-in-Some
returns-in-Some g c = handle_file g.S.Steps.sense c.args.handle (size_item c.args.size) c.opened.result c.in-Some.item c.args.s.now c.size_item.new.s c.size_item.result c.opened.ensures c.in-Some.is c.size_item.ensures

pub returns-in-None : goal.returns-in-None
returns-in-None g c = handle_off g.S.Steps.sense c.args.handle (size_item c.args.size) c.opened.result c.args.s.now c.opened.ensures c.in-None.is
