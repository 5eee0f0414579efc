use Rattle.cf_filter_calls.specs.Handles.{opened_next}
use Rattle.cf_filter_steps.specs.Needing.{MayOpenFile}
use Rattle.cf_filter_steps.proofs.Laws.{with_err}
use Rattle.cf_filter_calls.proofs.Opened.{opened, opened_not}
use Rattle.cf_filter_calls.proofs.handles.open_next.Goals as goal

pub returns-in_err-handle : goal.returns-in_err-handle
returns-in_err-handle g c = with_err g.S.Steps.sense (MayOpenFile c.args.id) (opened_next c.args.id) c.args.s.now c.open.new.self c.in_err-handle.field-0.0 c.from_residual.result c.from_residual.ensures.1 (opened_not g.S.Steps.sense c.args.id c.in_err-handle.field-0.0 c.args.s.now c.open.new.self c.in_err-handle.ensures.does)

pub returns : goal.returns
returns g c = opened g.S.Steps.sense c.args.id c.in_ok-handle.handle c.args.s.now c.open.new.self c.in_ok-handle.ensures.does c.in_ok-handle.ensures.tells
