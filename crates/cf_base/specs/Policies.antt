-- Which policies a provider may register.
use Rattle.std.specs.Prelude.{Bool, true, false, not, ◌&&◌, ◌||◌}
use Rattle.cf_base.specs.declared.policies.Hydration.{Hydration}
use Rattle.cf_base.specs.declared.policies.Hydration.TheVariants as hydration
use Rattle.cf_base.specs.declared.policies.Population.{Population}
use Rattle.cf_base.specs.declared.policies.Population.TheVariants as population
use Rattle.cf_base.specs.declared.policies.Policy.{Policy}
use Rattle.cf_base.specs.declared.policies.Mode.{Mode}
use Rattle.cf_base.specs.declared.policies.Mode.TheVariants.{Replay, Filter}

abbrev pub is_always_full : Hydration → Bool
is_always_full hydration.Partial = false
is_always_full hydration.Progressive = false
is_always_full hydration.Full = false
is_always_full hydration.AlwaysFull = true

abbrev pub is_partial : Population → Bool
is_partial population.Partial = true
is_partial population.Full = false
is_partial population.AlwaysFull = false

-- the engine keeps no file full against the user's will, validates nothing and starts no hydration again
abbrev pub is_allowed : Mode → Policy → Bool
is_allowed Replay p = not (is_partial p.population) && not (is_always_full p.hydration || p.validate || p.restart)
is_allowed Filter p = not (is_partial p.population)
