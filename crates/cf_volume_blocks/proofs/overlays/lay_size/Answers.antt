use Rattle.cf_volume_blocks.proofs.Laid.{sized_block}
use Rattle.cf_volume_blocks.proofs.overlays.lay_size.Goals as goal

pub returns-clause-holds : goal.returns-clause-holds
returns-clause-holds c = λ held long before. sized_block c.args.number c.args.old c.args.size c.args.block.now c.clear.new.block held long c.clear.ensures before
