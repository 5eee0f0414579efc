use Rattle.cf_scrub.proofs.BlockSteps.{blocks_are}
use Rattle.cf_scrub.proofs.blocks.are_blocks_of.Goals as goal

pub returns-then-have_blocks : goal.returns-then-have_blocks
returns-then-have_blocks c =
    blocks_are c.args.extents.now c.pairs.result.now c.args.here.now c.runs-runs.result.now c.have_blocks.result c.are_touched.result c.runs-runs.ensures.value c.pairs.ensures.value c.have_blocks.ensures c.if-have_blocks.true c.are_touched.ensures
