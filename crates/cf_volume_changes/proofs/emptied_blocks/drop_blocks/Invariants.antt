use Rattle.std.proofs.Common.{take}
use Rattle.cf_volume_points.specs.Staging.{Drops}
use Rattle.cf_volume_changes.proofs.emptied_blocks.drop_blocks.Given as goal

abbrev pub invariant-loop-number : goal.invariant-loop-number
invariant-loop-number l = Drops (take l.number-index l.blocks) l.fn.held l.held l.fn.extents l.extents
