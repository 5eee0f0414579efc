use Rattle.std.proofs.Common.{◌≡◌, arith, false, get_or, refl, true}
use Rattle.cf_volume_image.proofs.BlockTests.{bytes_cons, bytes_first, bytes_rest, no_pairs}
use Rattle.cf_volume_image.proofs.Loops.{drop_end, drop_get}
use Rattle.cf_volume_image.proofs.blocks.have_bytes.Goals as goal

pub returns-then-not-touches : goal.returns-then-not-touches
returns-then-not-touches c = (
  λ z. let w : false ≡ true = z in absurd cc,
  λ all. c.if-not-touches.ensures.means.1 (bytes_first c.args.here.now _ _ (get_or c.args.pairs.now c.loop-pair.pair-index (0, 0))
      (drop_get c.args.pairs.now c.loop-pair.pair-index (0, 0) c.loop-pair-test.true) (c.loop-pair.invariant.from all)),
)

pub loop-pair-preserved : goal.loop-pair-preserved
loop-pair-preserved c =
    let is = drop_get c.args.pairs.now c.loop-pair.pair-index (0, 0) c.loop-pair-test.true in
    record {
      to = λ rest. c.loop-pair.invariant.to (bytes_cons c.args.here.now _ _ (get_or c.args.pairs.now c.loop-pair.pair-index (0, 0)) is (c.touches.ensures.means.0 c.if-not-touches.false) rest);
      from = λ all. bytes_rest c.args.here.now _ _ (get_or c.args.pairs.now c.loop-pair.pair-index (0, 0)) is (c.loop-pair.invariant.from all);
    }

pub returns : goal.returns
returns c = (λ yes. c.loop-pair.invariant.to (no_pairs c.args.here.now _ (drop_end c.args.pairs.now c.loop-pair.pair-index (omega arith))), λ all. refl)
