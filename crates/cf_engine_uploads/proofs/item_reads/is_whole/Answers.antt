use Rattle.cf_engine_uploads.proofs.ReadItems.{says_gone, says_there}
use Rattle.cf_model.specs.Items.{is_all_here}
use Rattle.std.proofs.Common.{ap, sym, ◌∙◌}
use Rattle.std.specs.Prelude.{option_copied}
use Rattle.cf_engine_uploads.proofs.item_reads.is_whole.Goals as goal

pub returns-in-Some : goal.returns-in-Some
returns-in-Some g c = says_there g.S.Steps.sense c.args.s.now c.rows.result.now c.args.id is_all_here c.rows.ensures.means c.in-Some.row.now c.is_row_whole.result (sym c.get.ensures ∙ ap option_copied c.in-Some.is) c.is_row_whole.ensures

pub returns-in-None : goal.returns-in-None
returns-in-None g c = says_gone g.S.Steps.sense c.args.s.now c.rows.result.now c.args.id is_all_here c.rows.ensures.means (sym c.get.ensures ∙ ap option_copied c.in-None.is)
