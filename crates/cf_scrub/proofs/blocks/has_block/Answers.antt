use Rattle.std.proofs.Common.{◌∙◌, ap, sym}
use Rattle.std.specs.Prelude.{is_some}
use Rattle.cf_scrub.proofs.BlockSteps.{block_is}
use Rattle.cf_scrub.proofs.blocks.has_block.Goals as goal

pub returns-in-Some : goal.returns-in-Some
returns-in-Some c = ap is_some c.in-Some.ensures ∙ sym (block_is c.args.extents.now c.args.block)

pub returns-in-None : goal.returns-in-None
returns-in-None c = ap is_some c.in-None.ensures ∙ sym (block_is c.args.extents.now c.args.block)
