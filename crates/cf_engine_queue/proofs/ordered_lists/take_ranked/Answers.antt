use Rattle.std.proofs.Common.{◌∙◌, sym, true, false}
use Rattle.cf_engine_queue.proofs.InOrder.{found_there, none_there}
use Rattle.cf_engine_queue.proofs.ordered_lists.take_ranked.Goals as goal

pub returns-then-is_at-clause-found : goal.returns-then-is_at-clause-found
returns-then-is_at-clause-found g c =
    sym c.remove_same.ensures.first
    ∙ sym (found_there g.T.Ranked.rank_of c.args.rank c.count_below-place.result c.args.items.now.items c.deref.result.now c.deref-2.result.now true c.deref.ensures.value c.deref-2.ensures.value c.requires c.count_below-place.ensures.divides (sym c.is_at.ensures ∙ c.if-is_at.true))

pub returns-else-is_at-clause-found : goal.returns-else-is_at-clause-found
returns-else-is_at-clause-found g c =
    sym (found_there g.T.Ranked.rank_of c.args.rank c.count_below-place.result c.args.items.now.items c.deref.result.now c.deref-2.result.now false c.deref.ensures.value c.deref-2.ensures.value c.requires c.count_below-place.ensures.divides (sym c.is_at.ensures ∙ c.if-is_at.false))

pub returns-else-is_at-clause-left : goal.returns-else-is_at-clause-left
returns-else-is_at-clause-left g c =
    none_there g.T.Ranked.rank_of c.args.rank c.count_below-place.result c.args.items.now.items c.deref.result.now c.deref-2.result.now c.deref.ensures.value c.deref-2.ensures.value c.requires c.count_below-place.ensures.divides (sym c.is_at.ensures ∙ c.if-is_at.false)
