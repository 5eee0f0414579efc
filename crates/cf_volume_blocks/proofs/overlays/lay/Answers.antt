use Rattle.std.proofs.Common.{refl}
use Rattle.cf_volume_blocks.proofs.Overs.{lays}
use Rattle.cf_volume_blocks.proofs.overlays.lay.Goals as goal

pub returns-then-from-to : goal.returns-then-from-to
returns-then-from-to c = lays c.args.number c.args.at c.max-from.result c.min-to.result c.args.bytes.now _ c.args.block.now c.put.new.bytes c.max-from.ensures c.min-to.ensures c.if-from-to.true c.requires.size refl c.put.ensures
