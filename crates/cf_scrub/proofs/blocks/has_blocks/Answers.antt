use Rattle.std.proofs.Common.{◌∙◌, sym}
use Rattle.std.specs.Prelude.{map}
use Rattle.cf_scrub.proofs.BlockSteps.{counting_step}
use Rattle.cf_table.specs.Spelling.{extent_of}
use Rattle.cf_volume_image.specs.Sound.{has_block}
use Rattle.cf_scrub.proofs.blocks.has_blocks.Goals as goal

pub loop-block-preserved : goal.loop-block-preserved
loop-block-preserved c =
    counting_step (has_block (map extent_of c.args.extents.now)) c.loop-block.block c.args.to c.loop-block-test.true (sym c.has_block.ensures ∙ c.if-not-has_block.false) ∙ c.loop-block.invariant
