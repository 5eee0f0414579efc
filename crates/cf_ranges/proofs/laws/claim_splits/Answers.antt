use Rattle.cf_ranges.proofs.OwnedSets.{claims_split}
use Rattle.cf_ranges.proofs.laws.claim_splits.Goals as goal

pub returns : goal.returns
returns c = claims_split
