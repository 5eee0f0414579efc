use Rattle.cf_table.proofs.NoRow.{no_row}
use Rattle.cf_table.proofs.RowTaken.{rooms}
use Rattle.cf_table.proofs.rows.Row.read.Goals as goal

pub returns-clause-room : goal.returns-clause-room
returns-clause-room c = rooms c.args.format _ c.read_row.result c.read_row.ensures.fits

pub returns-clause-none : goal.returns-clause-none
returns-clause-none c = no_row c.args.format c.args.r.now c.read_row.result c.read_row.ensures.fault
