use Rattle.cf_world_plays.proofs.worlds.World.blocks.Goals as goal

pub returns : goal.returns
returns g c = rw (← c.self.view_is) c.blocks_of.ensures
