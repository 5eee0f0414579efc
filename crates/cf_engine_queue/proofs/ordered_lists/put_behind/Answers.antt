use Rattle.std.proofs.Common.{sym, subst}
use Rattle.cf_engine_queue.specs.Order.{IsInOrder}
use Rattle.cf_engine_queue.proofs.InOrder.{ordered_behind, put_above}
use Rattle.cf_engine_queue.proofs.ordered_lists.put_behind.Goals as goal

pub returns-clause-ok : goal.returns-clause-ok
returns-clause-ok g c =
    put_above g.T.Ranked.rank_of c.args.item c.args.items.now.items c.deref.result.now c.insert.new.self.items c.count_up_to-place.result c.rank.result c.rank.ensures c.deref.ensures.value c.count_up_to-place.ensures.divides c.in_ok-insert.ensures.items

pub returns-clause-order : goal.returns-clause-order
returns-clause-order g c =
    subst (IsInOrder g.T.Ranked.rank_of) (sym (returns-clause-ok g c)) (ordered_behind g.T.Ranked.rank_of c.args.item c.args.items.now.items c.requires)
