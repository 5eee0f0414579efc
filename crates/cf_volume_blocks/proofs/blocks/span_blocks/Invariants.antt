use Rattle.std.proofs.Common.{◌≡◌, ◌++◌, ◌-◌}
use Rattle.cf_model.specs.Words.{counting}
use Rattle.cf_volume_blocks.proofs.blocks.span_blocks.Given as goal

abbrev pub invariant-loop-block : goal.invariant-loop-block
invariant-loop-block l = l.blocks.items ++ counting l.block (l.end - l.block) ≡ counting l.first (l.end - l.first)
