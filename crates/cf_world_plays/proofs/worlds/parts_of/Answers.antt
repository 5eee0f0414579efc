use Rattle.cf_world_plays.proofs.WorldRuns.{few_in, gives}
use Rattle.cf_world_plays.proofs.worlds.parts_of.Goals as goal

pub returns : goal.returns
returns g c = gives g.D.Disk.state g.A.Actor.acts c.args.acting c.in-Some.acting c.finish.result.0 c.finish.result.1 c.in-Some.is c.finish.ensures.lasts c.finish.ensures.powers c.finish.ensures.holds (few_in g.D.Disk.state g.A.Actor.acts g.met.D.Disk.reads_one c.in-Some.acting) c.finish.ensures.disk c.finish.ensures.actor
