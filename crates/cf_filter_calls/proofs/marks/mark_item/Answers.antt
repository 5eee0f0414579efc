use Rattle.cf_filter_calls.specs.Asking.{Flagging}
use Rattle.cf_filter_calls.specs.Planned.{by_mark}
use Rattle.cf_model.specs.Calls.{number_of}
use Rattle.cf_model.specs.Placements.{asking}
use Rattle.cf_filter_calls.proofs.Asked.{mark_flags, led_err, led_ok}
use Rattle.cf_filter_calls.proofs.marks.mark_item.Goals as goal

pub returns-in-Ok : goal.returns-in-Ok
returns-in-Ok g c = led_ok g.S.Steps.sense c.args.id (by_mark c.args.number) (Flagging c.args.id) (λ k. asking k (number_of k)) c.mark_plan.result c.in-Ok.changes c.as_slice.result.now c.args.s.now c.mark_with.new.s c.mark_with.result
    c.mark_plan.ensures (mark_flags c.args.id c.args.number) c.in-Ok.is c.as_slice.ensures c.mark_with.ensures

pub returns-in-Err : goal.returns-in-Err
returns-in-Err g c = led_err g.S.Steps.sense c.args.id (by_mark c.args.number) (λ k. asking k (number_of k)) c.mark_plan.result c.in-Err.fail c.args.s.now c.refused_by.result c.mark_plan.ensures c.in-Err.is c.refused_by.ensures
