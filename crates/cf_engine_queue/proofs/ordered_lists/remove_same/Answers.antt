use Rattle.std.proofs.Common.{rules, of_calls, ◌∙◌, ap, sym, subst, not, List, filter}
use Rattle.std.proofs.lemmas.Fn.{filter_same}
use Rattle.cf_engine_queue.specs.Order.{IsInOrder, is_same}
use Rattle.cf_engine_queue.proofs.InOrder.{kept_same, ordered_filter}
use Rattle.cf_engine_queue.proofs.ordered_lists.remove_same.Goals as goal

pub returns-clause-left : goal.returns-clause-left
returns-clause-left g c =
    filter_same _ (λ x. not (is_same (g.T.Ranked.rank_of x) c.args.rank)) _ (λ x b f' k. search (rules, of_calls)) _ _ c.retain.ensures.filtered
    ∙ ap (λ (l : List _). filter (λ x. not (is_same (g.T.Ranked.rank_of x) c.args.rank)) l) c.remove-first.ensures.items
    ∙ kept_same g.T.Ranked.rank_of c.args.rank c.args.place c.args.items.now.items c.requires.there

pub returns-clause-order : goal.returns-clause-order
returns-clause-order g c =
    subst (IsInOrder g.T.Ranked.rank_of) (sym (returns-clause-left g c)) (ordered_filter g.T.Ranked.rank_of (λ x. not (is_same (g.T.Ranked.rank_of x) c.args.rank)) c.args.items.now.items c.requires.order)
