use Rattle.cf_engine_uploads.proofs.ReadItems.{there_if}
use Rattle.cf_engine_uploads.proofs.item_reads.is_there.Goals as goal

pub returns : goal.returns
returns g c = there_if g.S.Steps.sense c.args.s.now c.rows.result.now c.args.id c.get.result c.is_some.result c.rows.ensures.means c.get.ensures c.is_some.ensures
