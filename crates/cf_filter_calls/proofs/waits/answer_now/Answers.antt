use Rattle.cf_model.specs.Waits.{answer_now}
use Rattle.cf_filter_steps.specs.Needing.{MayAnswer, meant}
use Rattle.cf_filter_steps.proofs.Laws.{with_err}
use Rattle.cf_filter_calls.proofs.Begun.{answered, answered_not}
use Rattle.cf_filter_calls.proofs.waits.answer_now.Goals as goal

pub returns-in_err-end : goal.returns-in_err-end
returns-in_err-end g c = with_err g.S.Steps.sense (MayAnswer (meant c.args.need.now)) (answer_now (meant c.args.need.now)) c.args.s.now c.answer.new.self c.in_err-end.field-0.0 c.from_residual.result c.from_residual.ensures.1 (answered_not g.S.Steps.sense (meant c.args.need.now) c.in_err-end.field-0.0 c.args.s.now c.answer.new.self c.in_err-end.ensures.does)

pub returns : goal.returns
returns g c = answered g.S.Steps.sense (meant c.args.need.now) c.in_ok-end.end c.args.s.now c.answer.new.self c.in_ok-end.ensures.does c.in_ok-end.ensures.tells
