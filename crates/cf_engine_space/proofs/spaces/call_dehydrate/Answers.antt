use Rattle.cf_engine_space.proofs.Freed.{called, not_called}
use Rattle.cf_engine_space.proofs.spaces.call_dehydrate.Goals as goal

pub returns-in_err-shown : goal.returns-in_err-shown
returns-in_err-shown g c = λ i. not_called g.S.Steps.sense g.R.Remote.told c.args.id i c.args.s.now c.dehydrate_range.new.s c.args.e.now c.in_err-shown.field-0.0 c.from_residual.result c.from_residual.ensures.1 (c.in_err-shown.ensures i)

pub returns : goal.returns
returns g c = λ i. called g.S.Steps.sense g.R.Remote.told c.args.id i c.args.s.now c.dehydrate_range.new.s c.args.e.now c.finish_call.new.s c.finish_call.new.e c.in_ok-shown.shown c.finish_call.result (c.in_ok-shown.ensures i) c.finish_call.ensures
