use Rattle.std.proofs.Common.{arith}
use Rattle.cf_waits.proofs.Turned.{none_sound}
use Rattle.cf_waits.proofs.requests.Requests.new.Goals as goal

pub invariant_of-result : goal.invariant_of-result
invariant_of-result c = (omega arith, omega arith, none_sound _ c.new.ensures c.new-2.ensures, tt)
