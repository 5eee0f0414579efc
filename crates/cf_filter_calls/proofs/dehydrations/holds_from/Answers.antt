use Rattle.std.proofs.Common.{sym, ap, ◌∙◌}
use Rattle.std.specs.Prelude.{option_copied}
use Rattle.cf_filter_calls.specs.Emptying.{holds_from}
use Rattle.cf_filter_calls.proofs.Begun.{at_none, at_row}
use Rattle.cf_filter_calls.proofs.dehydrations.holds_from.Goals as goal

pub returns-in-Some : goal.returns-in-Some
returns-in-Some g c = at_row g.S.Steps.sense c.args.s.now c.rows.result.now c.args.id c.in-Some.row.now (holds_from c.args.start) c.holds_in.result c.rows.ensures.means (sym c.get.ensures ∙ ap option_copied c.in-Some.is) c.holds_in.ensures

pub returns-in-None : goal.returns-in-None
returns-in-None g c = at_none g.S.Steps.sense c.args.s.now c.rows.result.now c.args.id (holds_from c.args.start) _ c.rows.ensures.means (sym c.get.ensures ∙ ap option_copied c.in-None.is)
