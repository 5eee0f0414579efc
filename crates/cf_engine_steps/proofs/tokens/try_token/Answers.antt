use Rattle.cf_model.specs.Pushes.{with_token}
use Rattle.cf_engine_steps.proofs.Drawn.{drawn, not_drawn}
use Rattle.cf_engine_steps.proofs.tokens.try_token.Goals as goal

pub returns-then-draw_token : goal.returns-then-draw_token
returns-then-draw_token g c = drawn g.S.Steps.sense g.R.Remote.told (λ v. v.tokens) with_token c.args.s.now c.args.e.now c.draw_token.new.self c.draw_token.result c.draw_token.ensures.left c.if-draw_token.true c.draw_token.ensures.drawn

pub returns : goal.returns
returns g c = not_drawn g.S.Steps.sense g.R.Remote.told (λ v. v.tokens) with_token c.args.s.now c.args.e.now c.draw_token.new.self c.draw_token.result c.draw_token.ensures.left c.leave_out.new.s c.leave_out.new.e c.leave_out.result c.if-draw_token.false c.draw_token.ensures.none c.leave_out.ensures
