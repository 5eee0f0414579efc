use Rattle.cf_engine_steps.proofs.Laws.{with_err}
use Rattle.cf_engine_steps.specs.Answering.{On}
use Rattle.cf_engine_steps.specs.States.{whole}
use Rattle.cf_engine_uploads.proofs.Courses.{new_fails, new_not, new_then}
use Rattle.cf_filter_steps.specs.Answering.{IsAt}
use Rattle.cf_model.specs.Pushes.{upload_new}
use Rattle.cf_engine_uploads.proofs.items.upload_new.Goals as goal

pub returns-in_err-done : goal.returns-in_err-done
returns-in_err-done g c = λ i. with_err (whole g.S.Steps.sense g.R.Remote.told) (On (IsAt c.args.id i)) (upload_new i) (c.args.s.now, c.args.e.now) (c.try_convert.new.s, c.try_convert.new.e) c.in_err-done.field-0.0 c.from_residual.result c.from_residual.ensures.1
    (new_fails g.S.Steps.sense g.R.Remote.told c.args.id i c.args.s.now c.args.e.now c.try_convert.new.s c.try_convert.new.e c.in_err-done.field-0.0 (c.in_err-done.ensures i))

pub returns-then-done : goal.returns-then-done
returns-then-done g c = λ i. new_then g.S.Steps.sense g.R.Remote.told c.args.id i c.args.s.now c.args.e.now c.try_convert.new.s c.upload_now.new.s c.try_convert.new.e c.upload_now.new.e c.in_ok-done.done c.upload_now.result c.if-done.true (c.in_ok-done.ensures i) c.upload_now.ensures

pub returns-else-done : goal.returns-else-done
returns-else-done g c = λ i. new_not g.S.Steps.sense g.R.Remote.told c.args.id i c.args.s.now c.args.e.now c.try_convert.new.s c.try_convert.new.e c.in_ok-done.done c.if-done.false (c.in_ok-done.ensures i)
