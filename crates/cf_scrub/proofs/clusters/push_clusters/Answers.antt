use Rattle.std.proofs.Common.{◌∷◌, arith, get_or}
use Rattle.cf_scrub.proofs.Pushed.{clusters_end, clusters_step, held_end, held_step}
use Rattle.cf_scrub.proofs.clusters.push_clusters.Goals as goal

pub loop-pair-preserved : goal.loop-pair-preserved
loop-pair-preserved c = λ clusters held m.
    let inv = c.loop-pair.invariant clusters held m in
    let made = c.mark-free.ensures clusters inv.0 inv.1 in (
      (get_or c.args.pairs.now c.loop-pair.pair-index (0, 0)).1 ∷ inv.0,
      made.1,
      clusters_step clusters c.loop-pair.pair-index c.args.pairs.now inv.0 _ _ _ c.mark-free.result c.loop-pair-test.true made.0 c.in_ok-push_unless.ensures inv.2,
      held_step c.loop-pair.pair-index c.args.pairs.now inv.0 _ c.loop-pair-test.true inv.3,
    )

pub returns : goal.returns
returns c = λ clusters held m.
    let inv = c.loop-pair.invariant clusters held m in (
      clusters_end clusters c.loop-pair.pair-index c.args.pairs.now inv.0 _ _ (omega arith) inv.2,
      held_end clusters c.loop-pair.pair-index c.args.pairs.now inv.0 _ _ (omega arith) inv.1 inv.3,
    )
