use Rattle.cf_volume_blocks.proofs.Overs.{clears}
use Rattle.cf_volume_blocks.proofs.overlays.clear.Goals as goal

pub returns-then-low-high : goal.returns-then-low-high
returns-then-low-high c = clears c.args.number c.args.from c.args.to c.max-low.result c.min-high.result c.args.block.now c.put_zeros.new.bytes c.max-low.ensures c.min-high.ensures c.if-low-high.true c.requires.size c.put_zeros.ensures
