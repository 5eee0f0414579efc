use Rattle.cf_volume_image.proofs.SetTests.{nonempty, small_at}
use Rattle.cf_scrub.proofs.blocks.have_blocks.Goals as goal

pub has_blocks_of-requires-clause-some : goal.has_blocks_of-requires-clause-some
has_blocks_of-requires-clause-some c = nonempty 0 c.args.runs.now c.loop-run.run-index (record { start = 0; len = 0 }) c.requires c.loop-run-test.true

pub has_blocks_of-requires-clause-small : goal.has_blocks_of-requires-clause-small
has_blocks_of-requires-clause-small c = small_at 0 c.args.runs.now c.loop-run.run-index (record { start = 0; len = 0 }) c.requires c.loop-run-test.true
