use Rattle.cf_clusters.proofs.Counts.{now_committed, free_committed}
use Rattle.cf_clusters.proofs.laws.commit_frees_all_else.Goals as goal

pub returns-clause-now : goal.returns-clause-now
returns-clause-now c = now_committed

pub returns-clause-free : goal.returns-clause-free
returns-clause-free c = free_committed
