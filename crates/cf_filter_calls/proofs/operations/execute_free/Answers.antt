use Rattle.cf_filter_calls.proofs.Executed.{dead_op, live_op}
use Rattle.cf_filter_calls.proofs.operations.execute_free.Goals as goal

pub returns-in-Some : goal.returns-in-Some
returns-in-Some g c = live_op g.S.Steps.sense c.args.s.now c.execute_on.new.s c.args.op.now c.key_of.result c.args.records.now c.ask_at.result c.in-Some.ask c.execute_on.result c.key_of.ensures c.ask_at.ensures c.in-Some.is c.execute_on.ensures

pub returns-in-None : goal.returns-in-None
returns-in-None g c = dead_op g.S.Steps.sense c.args.s.now c.args.op.now c.key_of.result c.args.records.now c.ask_at.result c.key_of.ensures c.ask_at.ensures c.in-None.is
