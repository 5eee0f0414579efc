use Rattle.cf_filter_calls.proofs.Begun.{at_none, at_row}
use Rattle.cf_filter_calls.specs.Planned.{has_entries}
use Rattle.std.proofs.Common.{ap, sym, ◌∙◌}
use Rattle.std.specs.Prelude.{option_copied}
use Rattle.cf_engine_uploads.proofs.item_reads.is_directory.Goals as goal

pub returns-in-Some : goal.returns-in-Some
returns-in-Some g c = at_row g.S.Steps.sense c.args.s.now c.rows.result.now c.args.id c.in-Some.row.now has_entries _ c.rows.ensures.means (sym c.get.ensures ∙ ap option_copied c.in-Some.is) (λ i m. m.directory)

pub returns-in-None : goal.returns-in-None
returns-in-None g c = at_none g.S.Steps.sense c.args.s.now c.rows.result.now c.args.id has_entries _ c.rows.ensures.means (sym c.get.ensures ∙ ap option_copied c.in-None.is)
