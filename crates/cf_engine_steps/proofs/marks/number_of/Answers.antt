use Rattle.std.proofs.Common.{sym, ap, ◌∙◌, refl}
use Rattle.std.specs.Prelude.{Some, None, option_copied}
use Rattle.cf_engine_steps.proofs.Marked.{number_by}
use Rattle.cf_engine_steps.proofs.marks.number_of.Goals as goal

pub returns-in-Some : goal.returns-in-Some
returns-in-Some g c = number_by g.S.Steps.sense c.args.s.now c.rows.result.now c.args.item (Some c.in-Some.row.now) c.in-Some.row.now.number c.rows.ensures.means (sym c.get.ensures ∙ ap option_copied c.in-Some.is) refl

pub returns-in-None : goal.returns-in-None
returns-in-None g c = number_by g.S.Steps.sense c.args.s.now c.rows.result.now c.args.item None _ c.rows.ensures.means (sym c.get.ensures ∙ ap option_copied c.in-None.is) refl
