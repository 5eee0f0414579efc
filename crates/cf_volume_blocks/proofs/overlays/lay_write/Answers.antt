use Rattle.cf_volume_blocks.proofs.Laid.{wrote_block}
use Rattle.cf_volume_blocks.proofs.overlays.lay_write.Goals as goal

pub returns-clause-holds : goal.returns-clause-holds
returns-clause-holds c = λ held long before. wrote_block c.args.number c.args.size c.args.at c.args.bytes.now c.args.block.now c.clear.new.block c.lay.new.block held long c.clear.ensures c.lay.ensures before
