use Rattle.cf_clusters.proofs.TreeLaws.{IsRising}
use Rattle.cf_clusters.proofs.number_trees.put.Given as goal

abbrev pub invariant-loop-place : goal.invariant-loop-place
invariant-loop-place l = IsRising l.place l.width l.fn.leaf l.fn.value l.fn.least l.least

abbrev pub decreases-loop-place : goal.decreases-loop-place
decreases-loop-place l = l.place
