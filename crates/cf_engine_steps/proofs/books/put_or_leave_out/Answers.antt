use Rattle.cf_engine_steps.specs.Answering.{On}
use Rattle.cf_engine_host.specs.BookSteps.{PutsBeside}
use Rattle.cf_engine_steps.specs.States.{whole}
use Rattle.cf_model.specs.Skips.{try_book}
use Rattle.cf_engine_steps.proofs.Laws.{with_err}
use Rattle.cf_engine_steps.proofs.Recorded.{put_done, put_fails, put_full}
use Rattle.cf_engine_steps.proofs.books.put_or_leave_out.Goals as goal

pub returns-in_err-put_record : goal.returns-in_err-put_record
returns-in_err-put_record g c = λ f. with_err (whole g.S.Steps.sense g.R.Remote.told) (On (PutsBeside c.args.record.now f)) (try_book f) (c.args.s.now, c.args.e.now) (c.put_record.new.self, c.args.e.now) c.in_err-put_record.field-0.0 c.from_residual.result c.from_residual.ensures.1
    (put_fails g.S.Steps.sense g.R.Remote.told (PutsBeside c.args.record.now f) f c.args.s.now c.put_record.new.self c.args.e.now c.in_err-put_record.field-0.0 (c.in_err-put_record.ensures f))

pub returns-then-branch : goal.returns-then-branch
returns-then-branch g c = λ f. put_done g.S.Steps.sense g.R.Remote.told (PutsBeside c.args.record.now f) f c.args.s.now c.put_record.new.self c.args.e.now c.in_ok-put_record.field-0 c.if-branch.true (c.in_ok-put_record.ensures f)

pub returns : goal.returns
returns g c = λ f. put_full g.S.Steps.sense g.R.Remote.told (PutsBeside c.args.record.now f) f c.args.s.now c.put_record.new.self c.args.e.now c.leave_out.new.s c.leave_out.new.e c.in_ok-put_record.field-0 c.leave_out.result c.if-branch.false
    (c.in_ok-put_record.ensures f) c.leave_out.ensures
