use Rattle.std.proofs.Common.{rules}
use Rattle.cf_world_plays.proofs.worlds.step_on.Goals as goal

pub returns-clause-acted : goal.returns-clause-acted
returns-clause-acted g c = λ a b old new. record { steps = search rules; counts = search rules; bears = search rules; faults = search rules }
