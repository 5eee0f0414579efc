use Rattle.std.proofs.lemmas.Result.{err_from_is_err_and}
use Rattle.cf_wire.specs.Reading.{counted_at}
use Rattle.cf_wire.proofs.Counting.{goes_on, ends, is_done}
use Rattle.cf_wire.proofs.replies.counted.Goals as goal

pub returns-in_err-entry : goal.returns-in_err-entry
returns-in_err-entry c =
    let p = err_from_is_err_and c.from_residual.result c.from_residual.ensures.1 in
    rw (p.1, p.2) (ends c.in_err-entry.field-0.0 c.loop.entries c.args.count c.loop.counter c.loop.r (counted_at c.args.count c.args.r.now) c.loop-test.true c.in_err-entry.ensures c.loop.invariant)

pub loop-preserved : goal.loop-preserved
loop-preserved c =
    rw c.in_ok-push.ensures.ok (goes_on c.loop.entries c.args.count c.loop.counter c.loop.r c.in_ok-entry.entry c.entry.new.r (counted_at c.args.count c.args.r.now) c.loop-test.true c.in_ok-entry.ensures c.loop.invariant)

pub returns : goal.returns
returns c = is_done c.loop.entries c.args.count c.loop.counter c.loop.r (counted_at c.args.count c.args.r.now) c.loop-test.false c.loop.invariant
