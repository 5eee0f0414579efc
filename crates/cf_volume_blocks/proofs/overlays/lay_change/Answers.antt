use Rattle.std.proofs.Common.{refl}
use Rattle.cf_volume_blocks.proofs.Unlaid.{others}
use Rattle.cf_volume_blocks.proofs.overlays.lay_change.Goals as goal

pub returns-in_default : goal.returns-in_default
returns-in_default c = record {
  size = refl;
  holds = λ i pin n means before. others c.args.change.now c.in_default.not-Write c.in_default.not-Size c.in_default.not-Filled i pin n c.args.number c.args.block.now before;
}
