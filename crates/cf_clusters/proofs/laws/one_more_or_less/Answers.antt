use Rattle.cf_clusters.proofs.Counts.{now_staged, now_dropped}
use Rattle.cf_clusters.proofs.laws.one_more_or_less.Goals as goal

pub returns-clause-more : goal.returns-clause-more
returns-clause-more c = now_staged

pub returns-clause-less : goal.returns-clause-less
returns-clause-less c = now_dropped
