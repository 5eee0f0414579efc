use Rattle.std.proofs.Common.{drop}
use Rattle.cf_volume_image.specs.Sets.{HasBlocksOf}
use Rattle.cf_volume_image.proofs.BlockTests.{EndsBy}
use Rattle.cf_volume_image.proofs.blocks.has_blocks_of.Given as goal

abbrev pub invariant-loop-run : goal.invariant-loop-run
invariant-loop-run l = record {
  to : HasBlocksOf l.extents (drop l.run-index l.runs) → HasBlocksOf l.extents l.runs;
  from : HasBlocksOf l.extents l.runs → HasBlocksOf l.extents (drop l.run-index l.runs);
  small : EndsBy 16777216 (drop l.run-index l.runs);
}
