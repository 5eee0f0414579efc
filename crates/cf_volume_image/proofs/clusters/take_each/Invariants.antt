use Rattle.std.proofs.Common.{◌≡◌, drop}
use Rattle.cf_volume_image.specs.ClusterLists.{are_free}
use Rattle.cf_volume_image.proofs.clusters.take_each.Given as goal

abbrev pub invariant-loop-cluster : goal.invariant-loop-cluster
invariant-loop-cluster l = are_free l.taken (drop l.cluster-index l.clusters) ≡ are_free l.fn.taken l.clusters
