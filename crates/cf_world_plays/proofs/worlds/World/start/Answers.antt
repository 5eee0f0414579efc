use Rattle.cf_world_plays.proofs.WorldRuns.{begins}
use Rattle.cf_world_plays.proofs.worlds.World.start.Goals as goal

pub returns-in-Ok-clause-ok : goal.returns-in-Ok-clause-ok
returns-in-Ok-clause-ok g c = begins g.D.Disk.state g.A.Actor.acts c.args.disk c.args.actor c.in-Ok.acting c.in-Ok.ensures.ok c.in-Ok.ensures.goes_on c.in-Ok.ensures.same
