use Rattle.cf_collections.proofs.Splits.{inserted_there}
use Rattle.cf_collections.proofs.chunks.Chunk.insert.Goals as goal

pub returns-clause-ok : goal.returns-clause-ok
returns-clause-ok g c = rw (← c.self.view_is) (inserted_there (g.O.Order.is_behind c.args.order.now c.args.item) c.self.inside.items.items c.deref.result.now _ c.count_before-place.result c.args.item c.deref.ensures.value c.count_before-place.ensures.count c.in_ok-insert.ensures.items)
