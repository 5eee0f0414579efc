use Rattle.cf_engine_steps.proofs.Occupants.{conflict_on}
use Rattle.cf_engine_steps.proofs.names.to_conflict.Goals as goal

pub returns : goal.returns
returns g c = conflict_on g.S.Steps.sense g.R.Remote.told c.args.s.now c.try_change-done.new.s c.args.e.now c.try_change-done.new.e c.try_change-done.result c.args.item c.in_ok-change.change c.in_ok-change.ensures c.try_change-done.ensures
