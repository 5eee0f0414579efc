use Rattle.cf_model.specs.Calls.{write_item}
use Rattle.cf_filter_calls.proofs.Wrote.{handle_file}
use Rattle.cf_filter_calls.proofs.Begun.{handle_off}
use Rattle.cf_filter_calls.proofs.writes.write.Goals as goal

pub returns-in-Some : goal.returns-in-Some
returns-in-Some g c = handle_file g.S.Steps.sense c.args.handle (write_item c.args.at c.args.bytes.now) c.opened.result c.in-Some.item c.args.s.now c.write_bytes.new.s c.write_bytes.result c.opened.ensures c.in-Some.is c.write_bytes.ensures

pub returns-in-None : goal.returns-in-None
returns-in-None g c = handle_off g.S.Steps.sense c.args.handle (write_item c.args.at c.args.bytes.now) c.opened.result c.args.s.now c.opened.ensures c.in-None.is
