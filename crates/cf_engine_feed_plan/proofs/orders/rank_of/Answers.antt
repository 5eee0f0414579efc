use Rattle.std.proofs.Common.{◌∙◌, sym}
use Rattle.cf_engine_feed_plan.proofs.Ordered.{rank_none, rank_some}
use Rattle.cf_engine_feed_plan.proofs.orders.rank_of.Goals as goal

pub returns-in-None : goal.returns-in-None
returns-in-None c = λ items e m t h. rank_none items e (sym c.in-None.is ∙ h)

pub returns-in-Some : goal.returns-in-Some
returns-in-Some c = λ items e m t h. rank_some items e c.in-Some.id c.depth_of.result (sym c.in-Some.is ∙ h) (c.depth_of.ensures.depth items m t)
