use Rattle.cf_waits.proofs.Turned.{none_sound}
use Rattle.cf_waits.proofs.requests.Requests.down.Goals as goal

pub invariant_of-self : goal.invariant_of-self
invariant_of-self c = (c.self.invariant.0, c.self.invariant.1, none_sound _ c.new.ensures c.new-2.ensures, tt)
