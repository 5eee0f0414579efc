use Rattle.cf_clusters.proofs.Counts.{uses_add_up}
use Rattle.cf_clusters.proofs.laws.uses_add_up.Goals as goal

pub returns : goal.returns
returns c = uses_add_up
