use Rattle.std.proofs.Common.{◌≡◌, ◌++◌, drop, filter, not}
use Rattle.cf_ranges.specs.Positions.{touches}
use Rattle.cf_volume_changes.proofs.emptied_blocks.untouched.Given as goal

abbrev pub invariant-loop-block : goal.invariant-loop-block
invariant-loop-block l = l.gone.items ++ filter (λ b. not (touches l.here b)) (drop l.block-index l.blocks) ≡ filter (λ b. not (touches l.here b)) l.blocks
