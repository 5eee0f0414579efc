use Rattle.std.proofs.Common.{refl, []}
use Rattle.cf_filter_calls.proofs.Executed.{plainly}
use Rattle.cf_filter_calls.proofs.operations.execute.Goals as goal

pub returns : goal.returns
returns g c = plainly g.S.Steps.sense c.args.s.now c.execute_with.new.s c.args.op.now [] c.execute_with.result refl c.execute_with.ensures
