use Rattle.std.proofs.Common.{rules, of_calls, not}
use Rattle.std.proofs.lemmas.Fn.{always_returns_same}
use Rattle.cf_engine_queue.specs.Order.{is_above}
use Rattle.cf_engine_queue.proofs.InOrder.{divided_up_to, divides}
use Rattle.cf_engine_queue.proofs.ordered_lists.count_up_to.Goals as goal

pub returns-clause-divides : goal.returns-clause-divides
returns-clause-divides g c =
    divides (λ x. not (is_above (g.T.Ranked.rank_of x) c.args.rank)) c.partition_point.result c.args.items.now c.partition_point.ensures.bound
    (c.partition_point.ensures.partitioned (λ x. not (is_above (g.T.Ranked.rank_of x) c.args.rank)) (always_returns_same _ _ _ (λ a r f k. search (rules, of_calls))) (divided_up_to g.T.Ranked.rank_of c.args.rank c.args.items.now c.requires))
