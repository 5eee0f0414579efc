use Rattle.std.proofs.Common.{ℕ, ◌<◌, ◌^◌}
use Rattle.cf_table.proofs.EachOf.{none_left, one_got}
use Rattle.cf_table.proofs.ranges.pairs_fit.Goals as goal

pub loop-pair-preserved : goal.loop-pair-preserved
loop-pair-preserved c = λ rest. c.loop-pair.invariant (one_got (λ (e : ℕ × ℕ). (e.0 < 2 ^ 32) × (e.1 < 2 ^ 32)) c.args.pairs.now c.loop-pair.pair-index (0, 0) c.loop-pair-test.true c.pair_fits.ensures rest)

pub returns : goal.returns
returns c = c.loop-pair.invariant (none_left (λ (e : ℕ × ℕ). (e.0 < 2 ^ 32) × (e.1 < 2 ^ 32)) c.args.pairs.now c.loop-pair.pair-index c.loop-pair-test.false)
