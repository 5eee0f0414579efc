use Rattle.cf_engine_space.proofs.Freed.{shows_freed}
use Rattle.cf_engine_space.proofs.spaces.show_freed.Goals as goal

pub returns : goal.returns
returns g c = shows_freed g.S.Steps.sense g.R.Remote.told c.args.s.now c.args.e.now c.used_blocks-blocks.result c.used_blocks-blocks.ensures c.args.before c.saturating_sub.result c.saturating_sub.ensures
