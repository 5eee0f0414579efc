use Rattle.cf_engine_messages.proofs.RepliesTaken.{other_sent, upload_fails, upload_sent}
use Rattle.cf_engine_steps.specs.Answering.{Any}
use Rattle.cf_engine_steps.specs.States.{whole}
use Rattle.cf_engine_steps.proofs.Laws.{with_err}
use Rattle.cf_model.specs.Messages.{send}
use Rattle.cf_engine_messages.proofs.replies.send.Goals as goal

pub returns-then-not-is_upload : goal.returns-then-not-is_upload
returns-then-not-is_upload g c = other_sent g.S.Steps.sense g.R.Remote.told c.args.request.now c.args.s.now c.args.e.now c.is_upload.result c.send_now.new.s c.send_now.new.e c.send_now.result c.is_upload.ensures c.if-not-is_upload.true c.send_now.ensures

pub returns-in_err-commit : goal.returns-in_err-commit
returns-in_err-commit g c = with_err (whole g.S.Steps.sense g.R.Remote.told) Any (send c.args.request.now) (c.args.s.now, c.args.e.now) (c.commit.new.self, c.args.e.now) c.in_err-commit.field-0.0 c.from_residual.result c.from_residual.ensures.1
    (upload_fails g.S.Steps.sense g.R.Remote.told c.args.request.now c.args.s.now c.args.e.now c.is_upload.result c.commit.new.self c.in_err-commit.field-0.0 c.is_upload.ensures c.if-not-is_upload.false c.in_err-commit.ensures)

pub returns : goal.returns
returns g c = upload_sent g.S.Steps.sense g.R.Remote.told c.args.request.now c.args.s.now c.args.e.now c.is_upload.result c.commit.new.self c.send_now-2.new.s c.send_now-2.new.e c.in_ok-commit.field-0 c.send_now-2.result c.is_upload.ensures c.if-not-is_upload.false c.in_ok-commit.ensures c.send_now-2.ensures
