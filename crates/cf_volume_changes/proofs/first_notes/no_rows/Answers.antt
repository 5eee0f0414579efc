use Rattle.std.proofs.Common.{◌∙◌, ap}
use Rattle.cf_table.specs.Tables.{Table}
use Rattle.cf_volume_changes.proofs.EmptyTables.{none_left}
use Rattle.cf_volume_changes.proofs.first_notes.no_rows.Goals as goal

pub returns : goal.returns
returns c = ap (λ (t : Table). t.rows) c.remove_row.ensures ∙ none_left c.in_ok-rows.rows.rows c.in_ok-rows.ensures.means
