use Rattle.cf_pair_rows.proofs.Compared.{equal_then, unequal_then}
use Rattle.cf_pair_rows.proofs.rows.a_comparison_finds_the_new_directory.Goals as goal

pub returns-clause-equal : goal.returns-clause-equal
returns-clause-equal c = equal_then

pub returns-clause-unequal : goal.returns-clause-unequal
returns-clause-unequal c = unequal_then
