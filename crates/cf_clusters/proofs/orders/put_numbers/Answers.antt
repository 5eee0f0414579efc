use Rattle.std.proofs.Common.{length, arith}
use Rattle.cf_clusters.proofs.Opening.{descends}
use Rattle.cf_clusters.proofs.orders.put_numbers.Goals as goal

pub returns : goal.returns
returns c = descends (length c.args.order.now) c.loop-place.order c.loop-place.invariant.long (λ k lt. c.loop-place.invariant.numbers k (omega (arith, lt, c.loop-place-test.false)))
