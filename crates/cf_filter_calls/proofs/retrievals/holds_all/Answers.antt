use Rattle.std.proofs.Common.{sym, ap, ◌∙◌}
use Rattle.std.specs.Prelude.{option_copied}
use Rattle.cf_filter_calls.proofs.Retrieved.{holds_none, holds_some}
use Rattle.cf_filter_calls.proofs.retrievals.holds_all.Goals as goal

pub returns-in-Some : goal.returns-in-Some
returns-in-Some g c = holds_some g.S.Steps.sense c.args.s.now c.rows.result.now c.args.id c.in-Some.row.now c.args.span c.is_whole_in.result c.rows.ensures.means (sym c.get.ensures ∙ ap option_copied c.in-Some.is) c.is_whole_in.ensures

pub returns-in-None : goal.returns-in-None
returns-in-None g c = holds_none g.S.Steps.sense c.args.s.now c.rows.result.now c.args.id c.args.span c.rows.ensures.means (sym c.get.ensures ∙ ap option_copied c.in-None.is)
