use Rattle.cf_base.specs.declared.changes.Change.TheVariants as change
use Rattle.cf_engine_steps.specs.Answering.{On}
use Rattle.cf_engine_steps.specs.Removals.{GoesNow}
use Rattle.cf_engine_steps.specs.States.{whole}
use Rattle.cf_model.specs.Skips.{try_change}
use Rattle.cf_engine_steps.proofs.Laws.{with_err}
use Rattle.cf_engine_steps.proofs.Removed.{removal_done, removal_fails}
use Rattle.cf_engine_steps.proofs.removals.remove_now.Goals as goal

pub returns-in_err-remove : goal.returns-in_err-remove
returns-in_err-remove g c = with_err (whole g.S.Steps.sense g.R.Remote.told) (On (GoesNow c.args.item)) (try_change (change.Remove c.args.item)) (c.args.s.now, c.args.e.now) (c.remove.new.self, c.args.e.now) c.in_err-remove.field-0.0 c.from_residual.result c.from_residual.ensures.1
    (removal_fails g.S.Steps.sense g.R.Remote.told c.args.item c.args.s.now c.remove.new.self c.args.e.now c.in_err-remove.field-0.0 c.in_err-remove.ensures.does)

pub returns : goal.returns
returns g c = removal_done g.S.Steps.sense g.R.Remote.told c.args.item c.args.s.now c.remove.new.self c.args.e.now c.in_ok-remove.field-0 c.in_ok-remove.ensures.does
