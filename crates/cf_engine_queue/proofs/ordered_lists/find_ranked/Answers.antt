use Rattle.std.proofs.Common.{◌∙◌, ap, sym, cond, Bool, None}
use Rattle.std.specs.Prelude.{slice_get}
use Rattle.cf_engine_queue.proofs.InOrder.{finds, got_at}
use Rattle.cf_engine_queue.proofs.ordered_lists.find_ranked.Goals as goal

pub returns-then-is_at : goal.returns-then-is_at
returns-then-is_at g c =
    got_at c.args.items.now c.count_below-place.result c.get.result c.get.ensures.lookup.0 c.get.ensures.lookup.1
    ∙ sym (finds g.T.Ranked.rank_of c.args.rank c.count_below-place.result c.args.items.now c.requires c.count_below-place.ensures.divides ∙ ap (λ (b : Bool). cond b (slice_get c.args.items.now c.count_below-place.result) None) (sym c.is_at.ensures ∙ c.if-is_at.true))

pub returns-else-is_at : goal.returns-else-is_at
returns-else-is_at g c =
    sym (finds g.T.Ranked.rank_of c.args.rank c.count_below-place.result c.args.items.now c.requires c.count_below-place.ensures.divides ∙ ap (λ (b : Bool). cond b (slice_get c.args.items.now c.count_below-place.result) None) (sym c.is_at.ensures ∙ c.if-is_at.false))
