use Rattle.std.proofs.Common.{Bool, subst}
use Rattle.cf_model.specs.State.{State}
use Rattle.cf_model.specs.Trees.{Does, Tree}
use Rattle.cf_engine_feed_plan.proofs.laws.steps_do_the_turn.Goals as goal

pub returns : goal.returns
returns c = λ last e s t steps r h d. subst (λ (p : Tree State Bool). Does p r t) h.1 d
