use Rattle.std.proofs.Common.{sym, ap, ◌∙◌}
use Rattle.std.specs.Prelude.{option_copied}
use Rattle.cf_filter_calls.specs.Planned.{by_mark}
use Rattle.cf_filter_calls.proofs.Carried.{plans_by, plans_none}
use Rattle.cf_filter_calls.proofs.marks.mark_plan.Goals as goal

pub returns-in-Some : goal.returns-in-Some
returns-in-Some g c = plans_by g.S.Steps.sense c.args.s.now c.rows.result.now c.args.id c.in-Some.row.now (by_mark c.args.number) c.plan_mark.result c.rows.ensures.means (sym c.get.ensures ∙ ap option_copied c.in-Some.is) (λ s i h at m. c.plan_mark.ensures i m)

pub returns-in-None : goal.returns-in-None
returns-in-None g c = plans_none g.S.Steps.sense c.args.s.now c.rows.result.now c.args.id (by_mark c.args.number) _ c.rows.ensures.means (sym c.get.ensures ∙ ap option_copied c.in-None.is)
