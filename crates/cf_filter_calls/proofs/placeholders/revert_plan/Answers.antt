use Rattle.std.proofs.Common.{sym, ap, ◌∙◌}
use Rattle.std.specs.Prelude.{option_copied}
use Rattle.cf_model.specs.Placements.{revert_plan}
use Rattle.cf_filter_calls.proofs.Carried.{plans_by, plans_none, reverts_by}
use Rattle.cf_filter_calls.proofs.placeholders.revert_plan.Goals as goal

pub returns-in-Some : goal.returns-in-Some
returns-in-Some g c = plans_by g.S.Steps.sense c.args.s.now c.rows.result.now c.args.id c.in-Some.row.now revert_plan c.plan_revert.result c.rows.ensures.means (sym c.get.ensures ∙ ap option_copied c.in-Some.is) (λ s i h at m. reverts_by g.S.Steps.sense c.args.s.now c.args.id c.is_used.result c.plan_revert.result c.is_used.ensures s i h at (c.plan_revert.ensures i m))

pub returns-in-None : goal.returns-in-None
returns-in-None g c = plans_none g.S.Steps.sense c.args.s.now c.rows.result.now c.args.id revert_plan _ c.rows.ensures.means (sym c.get.ensures ∙ ap option_copied c.in-None.is)
