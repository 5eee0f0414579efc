use Rattle.cf_engine_steps.proofs.Laws.{with_err}
use Rattle.cf_engine_steps.specs.Answering.{On}
use Rattle.cf_engine_steps.specs.States.{whole}
use Rattle.cf_engine_uploads.proofs.Courses.{puts_file, puts_not}
use Rattle.cf_filter_steps.specs.Answering.{IsAt}
use Rattle.cf_model.specs.Pushes.{put_file}
use Rattle.cf_engine_uploads.proofs.files.put_file.Goals as goal

pub returns-in_err-hydrate_first : goal.returns-in_err-hydrate_first
returns-in_err-hydrate_first g c = λ i. with_err (whole g.S.Steps.sense g.R.Remote.told) (On (IsAt c.args.id i)) (put_file i) (c.args.s.now, c.args.e.now) (c.hydrate_first.new.s, c.hydrate_first.new.e) c.in_err-hydrate_first.field-0.0 c.from_residual.result c.from_residual.ensures.1
    (puts_not g.S.Steps.sense g.R.Remote.told c.args.id i c.args.s.now c.args.e.now c.hydrate_first.new.s c.hydrate_first.new.e c.in_err-hydrate_first.field-0.0 (c.in_err-hydrate_first.ensures i))

pub returns : goal.returns
returns g c = λ i. puts_file g.S.Steps.sense g.R.Remote.told c.args.id i c.args.s.now c.args.e.now c.hydrate_first.new.s c.put_whole.new.s c.hydrate_first.new.e c.put_whole.new.e c.in_ok-hydrate_first.field-0 c.put_whole.result (c.in_ok-hydrate_first.ensures i) c.put_whole.ensures
