use Rattle.cf_engine_space.proofs.Eligible.{none_here, some_here}
use Rattle.cf_engine_space.proofs.eligible_files.candidate.Goals as goal

pub returns-in-Some : goal.returns-in-Some
returns-in-Some g c = some_here g.S.Steps.sense c.args.s.now c.args.policy.now c.args.row.now c.blocks_here.result c.in-Some.blocks c.eligible.result c.in-Some.is c.blocks_here.ensures c.eligible.ensures

pub returns-in-None : goal.returns-in-None
returns-in-None g c = none_here g.S.Steps.sense c.args.s.now c.args.policy.now c.args.row.now c.blocks_here.result c.in-None.is c.blocks_here.ensures
