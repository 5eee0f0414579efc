use Rattle.cf_filter_calls.proofs.Carried.{planned_err, planned_ok}
use Rattle.cf_filter_calls.proofs.placeholders.make_planned.Goals as goal

pub returns-in-Ok : goal.returns-in-Ok
returns-in-Ok g c = planned_ok g.S.Steps.sense c.args.id c.args.plan c.in-Ok.changes c.as_slice.result.now c.args.s.now c.make_on.new.s c.make_on.result c.in-Ok.is c.as_slice.ensures c.make_on.ensures

pub returns-in-Err : goal.returns-in-Err
returns-in-Err g c = planned_err g.S.Steps.sense c.args.id c.args.plan c.in-Err.fail c.refused_by.result c.args.s.now c.in-Err.is c.refused_by.ensures
