use Rattle.cf_filter_calls.proofs.Begun.{at_none, at_row}
use Rattle.cf_model.specs.Items.{size_of}
use Rattle.std.proofs.Common.{ap, sym, ◌∙◌}
use Rattle.std.specs.Prelude.{option_copied}
use Rattle.cf_engine_uploads.proofs.item_reads.size_of.Goals as goal

pub returns-in-Some : goal.returns-in-Some
returns-in-Some g c = at_row g.S.Steps.sense c.args.s.now c.rows.result.now c.args.id c.in-Some.row.now size_of _ c.rows.ensures.means (sym c.get.ensures ∙ ap option_copied c.in-Some.is) (λ i m. m.bytes.size)

pub returns-in-None : goal.returns-in-None
returns-in-None g c = at_none g.S.Steps.sense c.args.s.now c.rows.result.now c.args.id size_of _ c.rows.ensures.means (sym c.get.ensures ∙ ap option_copied c.in-None.is)
