use Rattle.std.proofs.Common.{sym, ap, ◌∙◌}
use Rattle.std.specs.Prelude.{option_copied}
use Rattle.cf_model.specs.Placements.{update_plan}
use Rattle.cf_filter_calls.proofs.Carried.{plans_by, plans_none, updates_by}
use Rattle.cf_filter_calls.proofs.placeholders.update_plan.Goals as goal

pub returns-in-Some : goal.returns-in-Some
returns-in-Some g c = plans_by g.S.Steps.sense c.args.s.now c.rows.result.now c.args.id c.in-Some.row.now (update_plan c.args.identity.now c.args.size) c.plan_update.result c.rows.ensures.means (sym c.get.ensures ∙ ap option_copied c.in-Some.is) (λ s i h at m. updates_by g.S.Steps.sense c.args.s.now c.args.id c.is_used.result c.policy-policy.result c.args.identity.now c.args.size c.plan_update.result c.is_used.ensures c.policy-policy.ensures s i h at (c.plan_update.ensures i m))

pub returns-in-None : goal.returns-in-None
returns-in-None g c = plans_none g.S.Steps.sense c.args.s.now c.rows.result.now c.args.id (update_plan c.args.identity.now c.args.size) _ c.rows.ensures.means (sym c.get.ensures ∙ ap option_copied c.in-None.is)
