use Rattle.std.proofs.Common.{arith}
use Rattle.cf_remote.proofs.shelves.Shelf.next_rid.Goals as goal

pub returns-clause-within : goal.returns-clause-within
returns-clause-within c = rw (← c.self.view_is) (omega (arith, c.self.invariant.holds, c.self.invariant.within))
