use Rattle.cf_engine_steps.proofs.Occupants.{cleared, free_already}
use Rattle.cf_engine_steps.proofs.names.try_clear_name.Goals as goal

pub returns-in-Some : goal.returns-in-Some
returns-in-Some g c = cleared g.S.Steps.sense g.R.Remote.told c.args.s.now c.to_conflict.new.s c.args.e.now c.to_conflict.new.e c.to_conflict.result c.args.parent c.args.name.now c.args.but c.occupant.result c.in-Some.item c.occupant.ensures c.in-Some.is c.to_conflict.ensures

pub returns-in-None : goal.returns-in-None
returns-in-None g c = free_already g.S.Steps.sense g.R.Remote.told c.args.s.now c.args.e.now c.args.parent c.args.name.now c.args.but c.occupant.result c.occupant.ensures c.in-None.is
