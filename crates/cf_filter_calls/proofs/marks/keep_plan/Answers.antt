use Rattle.std.proofs.Common.{sym, ap, ◌∙◌}
use Rattle.std.specs.Prelude.{option_copied}
use Rattle.cf_filter_calls.specs.Planned.{by_keep}
use Rattle.cf_filter_calls.proofs.Carried.{plans_by, plans_none}
use Rattle.cf_filter_calls.proofs.marks.keep_plan.Goals as goal

pub returns-in-Some : goal.returns-in-Some
returns-in-Some g c = plans_by g.S.Steps.sense c.args.s.now c.rows.result.now c.args.id c.in-Some.row.now (by_keep c.args.on) c.plan_keep.result c.rows.ensures.means (sym c.get.ensures ∙ ap option_copied c.in-Some.is) (λ s i h at m. c.plan_keep.ensures i m)

pub returns-in-None : goal.returns-in-None
returns-in-None g c = plans_none g.S.Steps.sense c.args.s.now c.rows.result.now c.args.id (by_keep c.args.on) _ c.rows.ensures.means (sym c.get.ensures ∙ ap option_copied c.in-None.is)
