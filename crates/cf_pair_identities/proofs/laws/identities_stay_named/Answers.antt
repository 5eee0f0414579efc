use Rattle.cf_pair_identities.proofs.PairsNamed.{runs_now_named}
use Rattle.cf_pair_identities.proofs.laws.identities_stay_named.Goals as goal

-- src/laws.rt:18:1
pub returns : goal.returns
returns c = runs_now_named
