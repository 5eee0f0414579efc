use Rattle.cf_waits.proofs.Turning.{last_ended, next_ended}
use Rattle.cf_waits.proofs.turns.end_waits.Goals as goal

pub loop-e-preserved : goal.loop-e-preserved
loop-e-preserved c = next_ended c.e-item.result c.loop-e.e-index c.args.ended.now c.id.result c.loop-e.book.waits c.remove.new.self.waits _ c.loop-e-test.true c.e-item.is c.id.ensures c.remove.ensures.waits c.loop-e.invariant

pub returns : goal.returns
returns c = last_ended c.loop-e.e-index c.args.ended.now c.loop-e.book.waits _ c.loop-e-test.false c.loop-e.invariant
