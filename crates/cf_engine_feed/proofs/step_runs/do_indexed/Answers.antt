use Rattle.cf_base.specs.declared.codes.CallError.TheVariants.{OutOfMemory}
use Rattle.cf_engine_feed.specs.Indexed.{indexed}
use Rattle.cf_engine_feed_plan.specs.Turns.{do_step}
use Rattle.cf_engine_steps.specs.Answering.{Any}
use Rattle.cf_engine_steps.specs.States.{whole}
use Rattle.cf_engine_steps.proofs.Laws.{with_err}
use Rattle.cf_engine_feed.proofs.IndexedParts.{failed_beside, lost, step_indexed}
use Rattle.cf_engine_feed.proofs.step_runs.do_indexed.Goals as goal

pub returns-in_err-done : goal.returns-in_err-done
returns-in_err-done g c = with_err (indexed (whole g.S.Steps.sense g.R.Remote.told)) Any (do_step c.args.step.now) ((c.args.s.now, c.args.e.now), c.args.targets.now) ((c.do_step.new.s, c.do_step.new.e), c.args.targets.now) c.in_err-done.field-0.0 c.from_residual-in_err-done.result c.from_residual-in_err-done.ensures.1
    (failed_beside (whole g.S.Steps.sense g.R.Remote.told) (do_step c.args.step.now) (c.args.s.now, c.args.e.now) (c.do_step.new.s, c.do_step.new.e) c.args.targets.now c.args.targets.now c.in_err-done.field-0.0 c.in_err-done.ensures)

pub returns-in_err-refresh : goal.returns-in_err-refresh
returns-in_err-refresh g c = with_err (indexed (whole g.S.Steps.sense g.R.Remote.told)) Any (do_step c.args.step.now) ((c.args.s.now, c.args.e.now), c.args.targets.now) ((c.do_step.new.s, c.do_step.new.e), c.refresh.new.targets) OutOfMemory c.from_residual-in_err-refresh.result c.from_residual-in_err-refresh.ensures.1
    (lost (whole g.S.Steps.sense g.R.Remote.told) (do_step c.args.step.now) (c.args.s.now, c.args.e.now) (c.do_step.new.s, c.do_step.new.e) c.args.targets.now c.refresh.new.targets c.in_ok-done.done c.in_ok-done.ensures)

pub returns : goal.returns
returns g c = step_indexed g.S.Steps.sense g.R.Remote.told c.args.step.now c.rows-2.result.now c.rows-3.result.now c.rows.result.now c.item_of-item.result c.next.result c.in_ok-before.before c.args.s.now c.do_step.new.s c.args.e.now c.do_step.new.e c.args.targets.now c.refresh.new.targets c.in_ok-done.done
    c.rows-2.ensures.means c.rows.ensures.means c.rows-3.ensures.means c.item_of-item.ensures c.next.ensures c.in_ok-before.ensures c.in_ok-refresh.ensures c.in_ok-done.ensures
