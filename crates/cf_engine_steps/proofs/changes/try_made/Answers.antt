use Rattle.cf_engine_steps.proofs.Tried.{change_deep, change_suited}
use Rattle.cf_engine_steps.proofs.changes.try_made.Goals as goal

pub returns-in-Some : goal.returns-in-Some
returns-in-Some g c = change_deep g.S.Steps.sense g.R.Remote.told c.args.change.now c.args.s.now c.leave_out.new.s c.args.e.now c.leave_out.new.e c.in_ok-code.field-0 c.leave_out.result c.in-Some.code c.in-Some.is c.in_ok-code.ensures c.leave_out.ensures

pub returns-in-None : goal.returns-in-None
returns-in-None g c = change_suited g.S.Steps.sense g.R.Remote.told c.args.change.now c.args.s.now c.try_suited.new.s c.args.e.now c.try_suited.new.e c.in_ok-code.field-0 c.try_suited.result c.in-None.is c.in_ok-code.ensures c.try_suited.ensures
