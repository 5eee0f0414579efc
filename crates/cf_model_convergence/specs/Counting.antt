-- How many passes lead from one state to another.
use Rattle.std.specs.Prelude.{ℕ, zero, suc, ◌≡◌}
use Rattle.cf_model.specs.Passes.{pass_anew}
use Rattle.cf_model.specs.State.{State}
use Rattle.cf_model.specs.Trees.{Ends}

abbrev pub ArePasses : ℕ → State → State → Type 0
ArePasses zero s t = t ≡ s
ArePasses (suc n) s t = (m : State) × (v : Unit {0}) × Ends (pass_anew s) v m × ArePasses n m t
