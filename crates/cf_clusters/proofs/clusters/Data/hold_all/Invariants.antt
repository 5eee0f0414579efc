use Rattle.std.proofs.Common.{drop}
use Rattle.cf_clusters.proofs.Opening.{IsHolding}
use Rattle.cf_clusters.proofs.clusters.Data.hold_all.Given as goal

abbrev pub invariant-loop-cluster : goal.invariant-loop-cluster
invariant-loop-cluster l = IsHolding (drop l.cluster-index l.clusters) l.clusters l.fn.self l.self
