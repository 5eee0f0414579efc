use Rattle.std.proofs.Common.{◌≡◌, ◌≤◌, ◌<◌, ℕ, true}
use Rattle.std.specs.Prelude.{is_some}
use Rattle.cf_ranges.specs.Pairs.{cluster_at}
use Rattle.cf_volume_image.proofs.blocks.has_blocks.Given as goal

abbrev pub invariant-loop-block : goal.invariant-loop-block
invariant-loop-block l = (b : ℕ) → l.from ≤ b → b < l.block → is_some (cluster_at l.extents b) ≡ true
