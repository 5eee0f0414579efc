use Rattle.cf_engine_space.proofs.Freed.{answered, not_answered}
use Rattle.cf_engine_space.proofs.spaces.dehydrate.Goals as goal

pub returns-in_err-shown : goal.returns-in_err-shown
returns-in_err-shown g c = λ i. not_answered g.S.Steps.sense g.R.Remote.told c.args.s.now c.call_dehydrate.new.s c.args.e.now c.call_dehydrate.new.e c.args.id i c.in_err-shown.field-0.0 c.from_residual.result c.from_residual.ensures.1 (c.in_err-shown.ensures i)

pub returns : goal.returns
returns g c = λ i. answered g.S.Steps.sense g.R.Remote.told c.args.s.now c.call_dehydrate.new.s c.args.e.now c.call_dehydrate.new.e c.args.id i c.in_ok-shown.shown (c.in_ok-shown.ensures i)
