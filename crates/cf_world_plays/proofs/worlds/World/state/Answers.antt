use Rattle.cf_world_plays.proofs.worlds.World.state.Goals as goal

pub returns : goal.returns
returns g c = rw (← c.self.view_is) c.state_of.ensures
