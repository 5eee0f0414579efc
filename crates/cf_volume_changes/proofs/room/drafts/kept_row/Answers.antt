use Rattle.std.proofs.Common.{sym}
use Rattle.cf_volume_changes.proofs.Puts.{found_table}
use Rattle.cf_volume_changes.proofs.room.drafts.kept_row.Goals as goal

pub returns-in-Some-clause-table : goal.returns-in-Some-clause-table
returns-in-Some-clause-table c = found_table c.args.rows.now.rows c.args.id c.in-Some.row.now c.image_len.ensures.kept (sym c.in-Some.ensures)
