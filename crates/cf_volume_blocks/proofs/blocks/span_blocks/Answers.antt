use Rattle.std.proofs.Common.{arith}
use Rattle.cf_volume_blocks.proofs.Puts.{counting_push}
use Rattle.cf_volume_blocks.proofs.blocks.span_blocks.Goals as goal

pub loop-block-preserved : goal.loop-block-preserved
loop-block-preserved c = counting_push c.loop-block.blocks.items c.push.new.self.items _ c.loop-block.block _ _ (omega (arith, c.loop-block-test.true)) c.in_ok-push.ensures.items c.loop-block.invariant
