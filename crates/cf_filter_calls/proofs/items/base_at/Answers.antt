use Rattle.std.proofs.Common.{sym, ap, ◌∙◌}
use Rattle.std.specs.Prelude.{option_copied}
use Rattle.cf_filter_calls.proofs.Carried.{base_none, base_some}
use Rattle.cf_filter_calls.proofs.items.base_at.Goals as goal

pub returns-in-Some : goal.returns-in-Some
returns-in-Some g c = base_some g.S.Steps.sense c.args.s.now c.rows.result.now c.args.id c.in-Some.row.now c.base_of.result c.rows.ensures.means (sym c.get.ensures ∙ ap option_copied c.in-Some.is) c.base_of.ensures

pub returns-in-None : goal.returns-in-None
returns-in-None g c = base_none g.S.Steps.sense c.args.s.now c.rows.result.now c.args.id c.rows.ensures.means (sym c.get.ensures ∙ ap option_copied c.in-None.is)
