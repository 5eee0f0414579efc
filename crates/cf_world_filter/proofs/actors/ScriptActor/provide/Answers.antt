use Rattle.cf_world_filter.proofs.Planned.{plans_step}
use Rattle.cf_world_filter.proofs.actors.ScriptActor.provide.Goals as goal

pub returns-in-Plan : goal.returns-in-Plan
returns-in-Plan g c = rw c.in-Plan.is (plans_step g.G.Ground.state _ _ _ _ _ _ c.plan.ensures.told c.plan.ensures.planned)
