use Rattle.cf_world_plays.proofs.worlds.World.step.Goals as goal

pub returns-clause-ok : goal.returns-clause-ok
returns-clause-ok g c = rw (← c.self.view_is) c.act.ensures.ok
