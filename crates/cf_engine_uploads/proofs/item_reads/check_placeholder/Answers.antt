use Rattle.cf_engine_uploads.proofs.ReadItems.{placeholder_if}
use Rattle.cf_engine_uploads.proofs.item_reads.check_placeholder.Goals as goal

pub returns-then-is_placeholder : goal.returns-then-is_placeholder
returns-then-is_placeholder g c = placeholder_if g.S.Steps.sense c.args.id c.args.s.now c.is_placeholder.result c.is_placeholder.ensures c.if-is_placeholder.true
