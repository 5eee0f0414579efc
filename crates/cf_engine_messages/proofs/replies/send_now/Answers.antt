use Rattle.cf_engine_messages.proofs.RepliesTaken.{sent_fails, sent_taken}
use Rattle.cf_engine_steps.specs.Answering.{Any}
use Rattle.cf_engine_steps.specs.States.{whole}
use Rattle.cf_engine_steps.proofs.Laws.{with_err}
use Rattle.cf_model.specs.Messages.{send_now}
use Rattle.cf_engine_messages.proofs.replies.send_now.Goals as goal

pub returns-in_err-reply : goal.returns-in_err-reply
returns-in_err-reply g c = with_err (whole g.S.Steps.sense g.R.Remote.told) Any (send_now c.args.request.now) (c.args.s.now, c.args.e.now) (c.exchange.new.s, c.exchange.new.e) c.in_err-reply.field-0.0 c.from_residual.result c.from_residual.ensures.1
    (sent_fails (whole g.S.Steps.sense g.R.Remote.told) c.args.request.now (c.args.s.now, c.args.e.now) (c.exchange.new.s, c.exchange.new.e) c.in_err-reply.field-0.0 c.in_err-reply.ensures)

pub returns : goal.returns
returns g c = sent_taken (whole g.S.Steps.sense g.R.Remote.told) c.args.request.now (c.args.s.now, c.args.e.now) (c.exchange.new.s, c.exchange.new.e) (c.take_if_any.new.s, c.take_if_any.new.e) c.in_ok-reply.reply c.take_if_any.result c.in_ok-reply.ensures c.take_if_any.ensures
