use Rattle.cf_table.proofs.OneRow.{one_row, one_table}
use Rattle.cf_table.proofs.read_laws.one_row_in_a_text.Goals as goal

pub returns-clause-row : goal.returns-clause-row
returns-clause-row c = one_row

pub returns-clause-rows : goal.returns-clause-rows
returns-clause-rows c = one_table
