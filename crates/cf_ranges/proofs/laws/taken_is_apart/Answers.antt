use Rattle.cf_ranges.proofs.OwnedSets.{claims_taken}
use Rattle.cf_ranges.proofs.laws.taken_is_apart.Goals as goal

pub returns : goal.returns
returns c = claims_taken
