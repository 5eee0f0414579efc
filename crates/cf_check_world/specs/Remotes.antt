-- A remote in memory that fails where it is told to.
use Rattle.std.specs.Prelude.{ℕ, None, Some}
use Rattle.cf_model.specs.Store.{Held}
use Rattle.cf_remote.specs.Told.{Told}

-- what it holds, and how often it failed
pub record Failing : Type 0 where
  pub held : Held
  pub faults : ℕ

-- it reports neither how often it was asked nor which asks fail
abbrev pub told_by : Failing → Told
told_by r = record { held = Some r.held; asks = None; fails = None; faults = r.faults }
