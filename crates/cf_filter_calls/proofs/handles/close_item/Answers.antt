use Rattle.cf_model.specs.Waits.{close_item}
use Rattle.cf_filter_steps.specs.Answering.{Any}
use Rattle.cf_filter_steps.proofs.Laws.{with_err}
use Rattle.cf_filter_calls.proofs.Opened.{closed, closed_not}
use Rattle.cf_filter_calls.proofs.handles.close_item.Goals as goal

pub returns-in_err-end_waits : goal.returns-in_err-end_waits
returns-in_err-end_waits g c = with_err g.S.Steps.sense Any (close_item c.args.handle c.args.item) c.args.s.now c.end_waits.new.s c.in_err-end_waits.field-0.0 c.from_residual.result c.from_residual.ensures.1
    (closed_not g.S.Steps.sense c.args.handle c.args.item c.args.s.now c.forget.new.self c.end_waits.new.s c.in_err-end_waits.field-0.0 c.forget.ensures c.in_err-end_waits.ensures)

pub returns : goal.returns
returns g c = closed g.S.Steps.sense c.args.handle c.args.item c.args.s.now c.forget.new.self c.end_waits.new.s c.in_ok-end_waits.field-0 c.forget.ensures c.in_ok-end_waits.ensures
