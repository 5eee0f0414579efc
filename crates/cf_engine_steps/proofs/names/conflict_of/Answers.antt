use Rattle.std.proofs.Common.{sym, ap, ◌∙◌}
use Rattle.std.specs.Prelude.{option_copied}
use Rattle.cf_engine_steps.proofs.Occupants.{conflict_by}
use Rattle.cf_engine_steps.proofs.names.conflict_of.Goals as goal

pub returns : goal.returns
returns g c = conflict_by g.S.Steps.sense c.args.s.now c.rows.result.now c.args.item c.in-Some.row.now c.in_ok-name.name c.rows.ensures.means (sym c.get.ensures ∙ ap option_copied c.in-Some.is) c.in_ok-name.ensures
