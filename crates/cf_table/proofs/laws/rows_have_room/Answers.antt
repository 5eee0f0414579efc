use Rattle.cf_table.proofs.RowOfItem.{rows_have_room}
use Rattle.cf_table.proofs.laws.rows_have_room.Goals as goal

pub returns-clause-all : goal.returns-clause-all
returns-clause-all c = rows_have_room
