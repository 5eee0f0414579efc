use Rattle.std.proofs.Common.{◌≡◌, ◌-◌}
use Rattle.cf_wire.specs.Reading.{counted_at}
use Rattle.cf_wire.proofs.Counting.{with_front}
use Rattle.cf_wire.proofs.replies.counted.Given as goal

abbrev pub invariant-loop : goal.invariant-loop
invariant-loop l = with_front l.entries (counted_at (l.count - l.counter) l.r) ≡ counted_at l.count l.fn.r
