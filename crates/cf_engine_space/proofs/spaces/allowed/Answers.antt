use Rattle.cf_engine_space.proofs.Freed.{planned_by}
use Rattle.cf_engine_space.proofs.spaces.allowed.Goals as goal

pub returns : goal.returns
returns g c = planned_by g.S.Steps.sense g.R.Remote.told c.args.s.now c.carried_out-done.new.s c.args.e.now c.carried_out-done.new.e c.args.blocks c.in_ok-ids.ids.items c.deref.result.now c.carried_out-done.result c.in_ok-ids.ensures c.deref.ensures.value c.carried_out-done.ensures
