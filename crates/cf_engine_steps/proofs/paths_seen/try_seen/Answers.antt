use Rattle.cf_engine_steps.proofs.PathsSeen.{seen_gone, seen_here}
use Rattle.cf_engine_steps.proofs.paths_seen.try_seen.Goals as goal

pub returns-then-is_here : goal.returns-then-is_here
returns-then-is_here g c = seen_here g.S.Steps.sense g.R.Remote.told c.args.seen.now c.args.s.now c.put_seen.new.s c.args.e.now c.put_seen.new.e c.put_seen.result c.is_here.result c.is_here.ensures c.if-is_here.true c.put_seen.ensures

pub returns-else-is_here : goal.returns-else-is_here
returns-else-is_here g c = seen_gone g.S.Steps.sense g.R.Remote.told c.args.seen.now c.args.s.now c.args.e.now c.is_here.result c.is_here.ensures c.if-is_here.false
