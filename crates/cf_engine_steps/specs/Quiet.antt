-- Parts of the filter that report no fault of the remote.
use Rattle.std.proofs.Common.{◌≡◌, ℕ}
use Rattle.cf_engine_steps.specs.Faults.{fault_lines}
use Rattle.cf_model.specs.Arrows.{Arrow, Preserves}
use Rattle.cf_model.specs.State.{Filter}

-- each state that the part goes through has as many lines of faults as the one before it
pub record Quiet {A : Type 0} (f : Arrow Filter A) : Type 0 where
  pub keeps : (n : ℕ) → Preserves (λ s. fault_lines s ≡ n) f
