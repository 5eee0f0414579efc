use Rattle.cf_table.proofs.Formats.{row_in_second, rows_in_second}
use Rattle.cf_table.proofs.read_laws.format_2_spells_all.Goals as goal

pub returns-clause-row : goal.returns-clause-row
returns-clause-row c = row_in_second

pub returns-clause-rows : goal.returns-clause-rows
returns-clause-rows c = rows_in_second
