use Rattle.cf_item_rules.specs.PlaceholderPlans.{meant}
use Rattle.cf_filter_calls.proofs.NewItems.{created_last}
use Rattle.cf_filter_calls.proofs.creations.create_none.Goals as goal

pub returns : goal.returns
returns g c = created_last g.S.Steps.sense c.args.s.now c.rows.result.now c.policy-policy.result _ c.args.parent c.args.name.now (meant c.args.what.now) c.plan_create-plan.result c.unnumbered.result c.rows.ensures.means c.policy-policy.ensures c.plan_create-plan.ensures c.unnumbered.ensures
