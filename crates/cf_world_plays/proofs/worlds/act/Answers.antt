use Rattle.cf_world_plays.proofs.WorldRuns.{acts}
use Rattle.cf_world_plays.proofs.worlds.act.Goals as goal

pub returns-clause-ok : goal.returns-clause-ok
returns-clause-ok g c = acts g.D.Disk.state g.A.Actor.acts g.met.A.Actor.actor c.act_on.result c.args.acting.now c.act_on.new.acting c.args.event.now c.act_on.ensures.acted c.act_on.ensures.whole
