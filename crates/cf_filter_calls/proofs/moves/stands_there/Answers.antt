use Rattle.std.proofs.Common.{sym, ap, ◌∙◌}
use Rattle.std.specs.Prelude.{option_copied}
use Rattle.std.specs.Prelude.{◌==◌, ◌&&◌}
use Rattle.cf_filter_calls.specs.Moved.{stands_in}
use Rattle.cf_model.specs.Words.{same}
use Rattle.cf_filter_calls.proofs.Begun.{at_none, at_row}
use Rattle.cf_filter_calls.proofs.moves.stands_there.Goals as goal

pub returns-in-Some : goal.returns-in-Some
returns-in-Some g c = at_row g.S.Steps.sense c.args.s.now c.rows.result.now c.args.id c.in-Some.row.now (stands_in c.args.parent c.args.name.now) c.stands_in.result c.rows.ensures.means (sym c.get.ensures ∙ ap option_copied c.in-Some.is)
    (λ i m. c.stands_in.ensures ∙ (λ j. ((m.parent j).0 == c.args.parent.0) && same (m.name j) c.args.name.now))

pub returns-in-None : goal.returns-in-None
returns-in-None g c = at_none g.S.Steps.sense c.args.s.now c.rows.result.now c.args.id (stands_in c.args.parent c.args.name.now) _ c.rows.ensures.means (sym c.get.ensures ∙ ap option_copied c.in-None.is)
