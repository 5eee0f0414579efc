use Rattle.std.specs.Prelude.{false}
use Rattle.cf_model.specs.Waits.{connect}
use Rattle.cf_filter_steps.specs.Answering.{Any}
use Rattle.cf_filter_steps.proofs.Laws.{with_err}
use Rattle.cf_filter_calls.proofs.Opened.{down, down_not}
use Rattle.cf_filter_calls.proofs.handles.link_down.Goals as goal

pub returns-in_err-hang_up : goal.returns-in_err-hang_up
returns-in_err-hang_up g c = with_err g.S.Steps.sense Any (connect false) c.args.s.now c.hang_up.new.s c.in_err-hang_up.field-0.0 c.from_residual.result c.from_residual.ensures.1
    (down_not g.S.Steps.sense c.args.s.now c.set_connected.new.self c.hang_up.new.s c.in_err-hang_up.field-0.0 c.set_connected.ensures c.in_err-hang_up.ensures)

pub returns : goal.returns
returns g c = down g.S.Steps.sense c.args.s.now c.set_connected.new.self c.hang_up.new.s c.in_ok-hang_up.field-0 c.set_connected.ensures c.in_ok-hang_up.ensures
