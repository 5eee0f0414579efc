use Rattle.cf_engine_space.proofs.Freed.{frees}
use Rattle.cf_engine_space.proofs.spaces.freed.Goals as goal

pub returns : goal.returns
returns g c = frees g.S.Steps.sense g.R.Remote.told c.args.s.now c.args.e.now c.used_blocks-blocks.result c.used_blocks-blocks.ensures c.free_all.new.s c.free_all.new.e c.args.ids.now c.free_all.result c.free_all.ensures
