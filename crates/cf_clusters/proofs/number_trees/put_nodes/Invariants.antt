use Rattle.cf_clusters.proofs.TreeLaws.{AreFilled}
use Rattle.cf_clusters.proofs.number_trees.put_nodes.Given as goal

abbrev pub invariant-loop-place : goal.invariant-loop-place
invariant-loop-place l = AreFilled l.place l.width l.least

abbrev pub decreases-loop-place : goal.decreases-loop-place
decreases-loop-place l = l.place
