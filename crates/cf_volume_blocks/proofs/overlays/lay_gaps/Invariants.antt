use Rattle.std.proofs.Common.{take}
use Rattle.cf_volume_blocks.specs.Bytes.{LaysIn}
use Rattle.cf_volume_blocks.proofs.overlays.lay_gaps.Given as goal

abbrev pub invariant-loop-gap : goal.invariant-loop-gap
invariant-loop-gap l = LaysIn (take l.gap-index l.gaps) l.number l.start l.bytes l.fn.block l.block
