use Rattle.cf_engine_steps.proofs.Removed.{removal_on, removal_skipped}
use Rattle.cf_engine_steps.proofs.removals.try_remove.Goals as goal

pub returns-in-Some : goal.returns-in-Some
returns-in-Some g c = removal_on g.S.Steps.sense g.R.Remote.told c.args.item c.args.s.now c.remove_now.new.s c.args.e.now c.remove_now.new.e c.next_number.result c.remove_now.result c.in-Some.field-0 c.in_ok-check.ensures c.next_number.ensures c.in-Some.is c.remove_now.ensures

pub returns-in-None : goal.returns-in-None
returns-in-None g c = removal_skipped g.S.Steps.sense g.R.Remote.told c.args.item c.args.s.now c.leave_out.new.s c.args.e.now c.leave_out.new.e c.next_number.result c.leave_out.result c.next_number.ensures c.in-None.is c.leave_out.ensures
