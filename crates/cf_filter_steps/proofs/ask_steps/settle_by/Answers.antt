use Rattle.cf_filter_steps.proofs.AskRule.{settled}
use Rattle.cf_filter_steps.proofs.ask_steps.settle_by.Goals as goal

pub returns : goal.returns
returns g c = λ item d. settled g.S.Steps.sense item d c.args.step (g.S.Steps.waiting c.args.s.now) c.in_ok-moves.moves c.args.s.now c.take.new.self c.tell.new.s c.tell.result
    (g.met.S.Steps.waits c.args.s.now) c.in_ok-moves.ensures.does c.in_ok-moves.ensures.moves c.tell.ensures
