use Rattle.std.proofs.Common.{◌≡◌, ◌++◌, drop, filter}
use Rattle.cf_ranges.specs.Positions.{touches}
use Rattle.cf_volume_blocks.proofs.blocks.touched.Given as goal

abbrev pub invariant-loop-block : goal.invariant-loop-block
invariant-loop-block l = l.found.items ++ filter (touches l.places) (drop l.block-index l.blocks) ≡ filter (touches l.places) l.blocks
