use Rattle.cf_engine_feed.proofs.StepRuns.{copied}
use Rattle.cf_engine_feed.proofs.step_runs.copy_now.Goals as goal

pub returns : goal.returns
returns g c = copied g.S.Steps.sense g.R.Remote.told c.rows.result.now c.args.item c.in_ok-change.change c.args.s.now c.try_if-done.new.s c.args.e.now c.try_if-done.new.e c.try_if-done.result c.rows.ensures.means c.in_ok-change.ensures c.try_if-done.ensures
