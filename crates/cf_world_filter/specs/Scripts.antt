-- How the scripted provider stands for its part of a state.
use Rattle.std.specs.Prelude.{◌≡◌, Bool, List, None}
use Rattle.cf_base.specs.declared.operations.Operation.{Operation}
use Rattle.cf_base.specs.declared.policies.Mode.TheVariants.{Filter as InFilter}
use Rattle.cf_filter_events.specs.Actors.{Acts}
use Rattle.cf_model.specs.State.{On, State, nothing_yet}
use Rattle.cf_remote.specs.Told.{Told}

-- what a script planned, each operation with whether its key is the callback's own
abbrev pub Plan : Type 0
Plan = List (Bool × Operation)

-- within an event
pub record Sees (plan : Plan) (z : State) : Type 0 where
  pub mode : z.mode ≡ InFilter
  pub power : z.power ≡ On
  pub planned : z.plan ≡ plan
  pub running : z.running ≡ nothing_yet

-- a remote that reports nothing, and is never asked
abbrev pub no_remote : Told
no_remote = record { held = None; asks = None; fails = None; faults = 0 }

-- Between two events the plan is that of the state. While the volume is broken or off the plan is nothing to go by. The remote is never
-- asked.
abbrev pub scripts : Acts Plan
scripts = record { mode = InFilter; stands = λ plan s. s.plan ≡ plan; holds = λ plan s. Unit {0}; sees = Sees; remote = λ plan. no_remote }
