use Rattle.std.proofs.Common.{arith}
use Rattle.cf_waits.proofs.Turning.{last_cancelled, next_cancelled}
use Rattle.cf_waits.proofs.turns.cancel_asks.Goals as goal

pub loop-key-preserved : goal.loop-key-preserved
loop-key-preserved c = record {
  left = next_cancelled _ c.loop-key.key-index c.args.cancelled.now c.loop-key.book.asks c.remove.new.self.asks _ c.loop-key-test.true c.remove.ensures.asks c.loop-key.invariant.left;
  room = omega (arith, c.remove.ensures.room, c.loop-key.invariant.room);
}

pub returns-clause-asks : goal.returns-clause-asks
returns-clause-asks c = last_cancelled c.loop-key.key-index c.args.cancelled.now c.loop-key.book.asks _ c.loop-key-test.false c.loop-key.invariant.left
