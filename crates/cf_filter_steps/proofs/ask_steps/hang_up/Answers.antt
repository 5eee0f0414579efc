use Rattle.cf_model.specs.Arrows.{reading}
use Rattle.cf_model.specs.Settling.{tell}
use Rattle.cf_model.specs.Waits.{all_down}
use Rattle.cf_filter_steps.specs.Answering.{Any}
use Rattle.cf_filter_steps.proofs.AskRule.{hung_not, hung_up}
use Rattle.cf_filter_steps.proofs.Laws.{with_err}
use Rattle.cf_filter_steps.proofs.ask_steps.hang_up.Goals as goal

pub returns-in_err-moves : goal.returns-in_err-moves
returns-in_err-moves g c = with_err g.S.Steps.sense Any (reading all_down tell) c.args.s.now c.take_down.new.self c.in_err-moves.field-0.0 c.from_residual.result c.from_residual.ensures.1
    (hung_not g.S.Steps.sense (g.S.Steps.waiting c.args.s.now) c.args.s.now c.take_down.new.self c.in_err-moves.field-0.0 (g.met.S.Steps.waits c.args.s.now) c.in_err-moves.ensures.does)

pub returns : goal.returns
returns g c = hung_up g.S.Steps.sense (g.S.Steps.waiting c.args.s.now) c.in_ok-moves.moves c.args.s.now c.take_down.new.self c.tell.new.s _ c.tell.result
    (g.met.S.Steps.waits c.args.s.now) c.in_ok-moves.ensures.does c.in_ok-moves.ensures.moves c.tell.ensures
