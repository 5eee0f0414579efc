use Rattle.cf_filter_calls.proofs.Executed.{free_op, refused_op}
use Rattle.cf_filter_calls.proofs.operations.execute_with.Goals as goal

pub returns-in-Some : goal.returns-in-Some
returns-in-Some g c = refused_op g.S.Steps.sense c.args.s.now c.args.op.now c.args.records.now c.refuse_op.result c.in-Some.code c.refuse_op.ensures c.in-Some.is

pub returns-in-None : goal.returns-in-None
returns-in-None g c = free_op g.S.Steps.sense c.args.s.now c.execute_free.new.s c.args.op.now c.args.records.now c.refuse_op.result c.execute_free.result c.refuse_op.ensures c.in-None.is c.execute_free.ensures
