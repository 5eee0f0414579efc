use Rattle.cf_filter_steps.specs.Settled.{AreOnFiles, tell_moves}
use Rattle.cf_filter_steps.proofs.AskRule.{told_moves, told_not}
use Rattle.cf_filter_steps.proofs.Laws.{with_err}
use Rattle.cf_filter_steps.proofs.ask_steps.tell.Goals as goal

pub returns-in_err-end_all : goal.returns-in_err-end_all
returns-in_err-end_all g c = with_err g.S.Steps.sense (AreOnFiles c.args.moves.now.ended) (tell_moves c.args.moves.now.ended c.args.moves.now.cancelled c.args.moves.now.asks) c.args.s.now c.end_all.new.s c.in_err-end_all.field-0.0 c.from_residual.result c.from_residual.ensures.1
    (told_not g.S.Steps.sense c.args.moves.now c.as_slice.result.now c.args.s.now c.end_all.new.s c.in_err-end_all.field-0.0 c.as_slice.ensures c.in_err-end_all.ensures)

pub returns : goal.returns
returns g c = told_moves g.S.Steps.sense c.args.moves.now c.as_slice.result.now c.as_slice-2.result.now c.as_slice-3.result.now c.args.s.now c.end_all.new.s c.tell_asks.new.self c.in_ok-end_all.field-0 c.tell_asks.result
    c.as_slice.ensures c.as_slice-2.ensures c.as_slice-3.ensures c.in_ok-end_all.ensures c.tell_asks.ensures
