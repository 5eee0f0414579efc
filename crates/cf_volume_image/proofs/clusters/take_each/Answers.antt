use Rattle.std.proofs.Common.{◌∙◌, ◌+◌, List, ℕ, ap, arith, drop, get_or, sym}
use Rattle.cf_volume_image.specs.ClusterLists.{are_free}
use Rattle.cf_volume_image.proofs.ClusterTests.{free_inside, free_rest, not_free}
use Rattle.cf_volume_image.proofs.Loops.{drop_end, drop_get}
use Rattle.cf_volume_image.proofs.clusters.take_each.Goals as goal

pub returns-then-is_taken : goal.returns-then-is_taken
returns-then-is_taken c =
    not_free c.loop-cluster.taken (get_or c.args.clusters.now c.loop-cluster.cluster-index 0) (drop (c.loop-cluster.cluster-index + 1) c.args.clusters.now) c.if-is_taken.ensures
    ∙ ap (λ (l : List ℕ). are_free c.loop-cluster.taken l) (sym (drop_get c.args.clusters.now c.loop-cluster.cluster-index 0 c.loop-cluster-test.true))
    ∙ c.loop-cluster.invariant

pub take-requires : goal.take-requires
take-requires c = free_inside c.loop-cluster.taken (get_or c.args.clusters.now c.loop-cluster.cluster-index 0) (sym c.if-is_taken.ensures)

pub loop-cluster-preserved : goal.loop-cluster-preserved
loop-cluster-preserved c =
    let free = sym c.if-is_taken.ensures in
    ap (λ v. are_free v (drop (c.loop-cluster.cluster-index + 1) c.args.clusters.now)) c.take.ensures
    ∙ free_rest c.loop-cluster.taken (get_or c.args.clusters.now c.loop-cluster.cluster-index 0)
    (free_inside c.loop-cluster.taken (get_or c.args.clusters.now c.loop-cluster.cluster-index 0) free)
    (drop (c.loop-cluster.cluster-index + 1) c.args.clusters.now) free
    ∙ ap (λ (l : List ℕ). are_free c.loop-cluster.taken l) (sym (drop_get c.args.clusters.now c.loop-cluster.cluster-index 0 c.loop-cluster-test.true))
    ∙ c.loop-cluster.invariant

pub returns : goal.returns
returns c = ap (λ (l : List ℕ). are_free c.loop-cluster.taken l) (sym (drop_end c.args.clusters.now c.loop-cluster.cluster-index (omega arith))) ∙ c.loop-cluster.invariant
