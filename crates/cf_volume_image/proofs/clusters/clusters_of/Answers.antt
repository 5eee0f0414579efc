use Rattle.std.proofs.Common.{◌∙◌, ◌++◌, List, ℕ, ap}
use Rattle.cf_volume_image.specs.ClusterLists.{clusters_in}
use Rattle.cf_volume_image.proofs.ClusterTests.{clusters_step}
use Rattle.cf_volume_image.proofs.clusters.clusters_of.Goals as goal

pub loop-row-preserved : goal.loop-row-preserved
loop-row-preserved c =
    clusters_step c.args.rows.now c.loop-row.row-index c.row-item.result c.loop-row.clusters.items c.push_clusters.new.clusters.items _ c.loop-row-test.true c.row-item.is
    (c.in_ok-push_clusters.ensures ∙ ap (λ (l : List (ℕ × ℕ)). c.loop-row.clusters.items ++ clusters_in l) c.pairs.ensures.value) c.loop-row.invariant
