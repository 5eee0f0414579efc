use Rattle.std.proofs.Common.{sym, subst}
use Rattle.cf_engine_queue.specs.Order.{IsInOrder}
use Rattle.cf_engine_queue.proofs.InOrder.{ordered_before, put_below}
use Rattle.cf_engine_queue.proofs.ordered_lists.put_before.Goals as goal

pub returns-clause-ok : goal.returns-clause-ok
returns-clause-ok g c =
    put_below g.T.Ranked.rank_of c.args.item c.args.items.now.items c.deref.result.now c.insert.new.self.items c.count_below-place.result c.rank.result c.rank.ensures c.deref.ensures.value c.count_below-place.ensures.divides c.in_ok-insert.ensures.items

pub returns-clause-order : goal.returns-clause-order
returns-clause-order g c =
    subst (IsInOrder g.T.Ranked.rank_of) (sym (returns-clause-ok g c)) (ordered_before g.T.Ranked.rank_of c.args.item c.args.items.now.items c.requires)
