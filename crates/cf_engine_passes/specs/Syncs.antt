-- The parts of a sync, which mirror the code: no definitions to believe.
use Rattle.std.specs.Prelude.{ℕ, Bool, true, false, ◌+◌}
use Rattle.cf_base.specs.declared.answers.Shown.{Shown}
use Rattle.cf_model.specs.Arrows.{Arrow, ret, then_do, unit}
use Rattle.cf_model.specs.Callbacks.{drain}
use Rattle.cf_model.specs.Passes.{is_last, pass_anew, passes, show_unsettled, sync_passes}
use Rattle.cf_model.specs.State.{State}
use Rattle.cf_model.specs.Trees.{Ret, bind}

-- one pass, and whether it is the last
abbrev pub one_pass : ℕ → ℕ → Arrow State Bool
one_pass l made s = bind (pass_anew s) (λ u t. Ret (is_last l made s t) t)

-- those that are left after it
abbrev pub unless_last : ℕ → ℕ → ℕ → Bool → Arrow State (Unit {0})
unless_last fuel l made true = ret unit
unless_last fuel l made false = passes fuel l (made + 1)

-- what waits is called back, and then all that is left is counted
abbrev pub drained_and_counted : Arrow State Shown
drained_and_counted = then_do drain show_unsettled

abbrev pub synced : Arrow State Shown
synced = then_do sync_passes drained_and_counted
