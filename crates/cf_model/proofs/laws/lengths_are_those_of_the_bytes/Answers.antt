use Rattle.cf_model.proofs.LengthLaws.{row_length}
use Rattle.cf_model.proofs.laws.lengths_are_those_of_the_bytes.Goals as goal

-- src/laws.rt
pub returns-clause-row : goal.returns-clause-row
returns-clause-row c = row_length
