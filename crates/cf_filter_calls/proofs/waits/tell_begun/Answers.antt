use Rattle.cf_base.specs.declared.answers.Shown.TheVariants as shown
use Rattle.cf_model.specs.Arrows.{ret, then_do}
use Rattle.cf_filter_steps.specs.Answering.{Any}
use Rattle.cf_filter_steps.specs.Settled.{AreOnFiles, tell_moves}
use Rattle.cf_filter_steps.proofs.Laws.{returned, stops_first, then_on, with_err}
use Rattle.cf_filter_calls.proofs.waits.tell_begun.Goals as goal

pub returns-in_err-tell : goal.returns-in_err-tell
returns-in_err-tell g c = with_err g.S.Steps.sense (AreOnFiles c.args.moves.now.ended) (then_do (tell_moves c.args.moves.now.ended c.args.moves.now.cancelled c.args.moves.now.asks) (ret (shown.Pending c.args.id))) c.args.s.now c.tell.new.s c.in_err-tell.field-0.0 c.from_residual.result c.from_residual.ensures.1
    (stops_first g.S.Steps.sense (AreOnFiles c.args.moves.now.ended) (tell_moves c.args.moves.now.ended c.args.moves.now.cancelled c.args.moves.now.asks) (ret (shown.Pending c.args.id)) c.args.s.now c.tell.new.s c.in_err-tell.field-0.0 c.in_err-tell.ensures)

pub returns : goal.returns
returns g c = then_on g.S.Steps.sense (AreOnFiles c.args.moves.now.ended) Any (tell_moves c.args.moves.now.ended c.args.moves.now.cancelled c.args.moves.now.asks) (ret (shown.Pending c.args.id)) c.args.s.now c.tell.new.s c.tell.new.s c.in_ok-tell.field-0 _
    (λ s t p e. record {}) c.in_ok-tell.ensures (returned g.S.Steps.sense Any (shown.Pending c.args.id) c.tell.new.s)
