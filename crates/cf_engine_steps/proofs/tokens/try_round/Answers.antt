use Rattle.cf_model.specs.Passes.{with_round}
use Rattle.cf_engine_steps.proofs.Drawn.{drawn, not_drawn}
use Rattle.cf_engine_steps.proofs.tokens.try_round.Goals as goal

pub returns-then-draw_round : goal.returns-then-draw_round
returns-then-draw_round g c = drawn g.S.Steps.sense g.R.Remote.told (λ v. v.rounds) with_round c.args.s.now c.args.e.now c.draw_round.new.self c.draw_round.result c.draw_round.ensures.left c.if-draw_round.true c.draw_round.ensures.drawn

pub returns : goal.returns
returns g c = not_drawn g.S.Steps.sense g.R.Remote.told (λ v. v.rounds) with_round c.args.s.now c.args.e.now c.draw_round.new.self c.draw_round.result c.draw_round.ensures.left c.leave_out.new.s c.leave_out.new.e c.leave_out.result c.if-draw_round.false c.draw_round.ensures.none c.leave_out.ensures
