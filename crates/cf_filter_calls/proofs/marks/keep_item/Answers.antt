use Rattle.cf_filter_calls.specs.Asking.{Flagging}
use Rattle.cf_filter_calls.specs.Planned.{by_keep}
use Rattle.cf_model.specs.Operations.{done}
use Rattle.cf_model.specs.Placements.{asking}
use Rattle.cf_filter_calls.proofs.Asked.{keep_flags, led_err, led_ok}
use Rattle.cf_filter_calls.proofs.marks.keep_item.Goals as goal

pub returns-in-Ok : goal.returns-in-Ok
returns-in-Ok g c = led_ok g.S.Steps.sense c.args.id (by_keep c.args.on) (Flagging c.args.id) (λ k. asking k done) c.keep_plan.result c.in-Ok.changes c.as_slice.result.now c.args.s.now c.keep_with.new.s c.keep_with.result
    c.keep_plan.ensures (keep_flags c.args.id c.args.on) c.in-Ok.is c.as_slice.ensures c.keep_with.ensures

pub returns-in-Err : goal.returns-in-Err
returns-in-Err g c = led_err g.S.Steps.sense c.args.id (by_keep c.args.on) (λ k. asking k done) c.keep_plan.result c.in-Err.fail c.args.s.now c.refused_by.result c.keep_plan.ensures c.in-Err.is c.refused_by.ensures
