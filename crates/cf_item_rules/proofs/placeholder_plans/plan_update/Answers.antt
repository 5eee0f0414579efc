use Rattle.std.proofs.Common.{Option, subst, sym, ℕ}
use Rattle.cf_model.specs.Plans.{plan_update}
use Rattle.cf_item_rules.specs.PlaceholderPlans.{IsPlan}
use Rattle.cf_item_rules.proofs.placeholder_plans.plan_update.Goals as goal

pub returns-in-None : goal.returns-in-None
returns-in-None c = λ i m.
    subst (λ (v : Option ℕ). IsPlan c.rebase.result (plan_update c.args.policy.now i c.args.identity.now v c.args.in_use)) (sym c.in-None.is) (c.rebase.ensures c.args.policy.now i c.args.in_use m)
