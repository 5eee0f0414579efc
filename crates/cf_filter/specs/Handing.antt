-- Steps that an engine takes.
use Rattle.std.specs.Prelude.{◌≡◌, true, false, is_err, Result, Ok, Err}
use Rattle.cf_base.specs.declared.codes.Code.TheVariants as code
use Rattle.cf_base.specs.declared.codes.CallError.{CallError}
use Rattle.cf_base.specs.declared.codes.CallError.TheVariants.{No}
use Rattle.cf_filter.specs.Calling.{Told}
use Rattle.cf_filter_machine.specs.Held.{Held}
use Rattle.cf_model.specs.Arrows.{Arrow}
use Rattle.cf_model.specs.State.{Filter}
use Rattle.cf_filter_steps.specs.Answering.{Answers, Sense}
use Rattle.cf_filter_steps.specs.Readings.{whether}

-- nothing refuses it
abbrev pub given_as : {A : Type 0} → Result A CallError → Told A
given_as (Ok a) = Ok (Ok a)
given_as (Err e) = Err e

-- After a call that was stopped it is refused as Broken, and changes nothing. Else it is one step, where the state has the
-- property, and breaks the filter exactly where it is stopped.
pub record Hands {D A : Type 0} (S : Sense (Held D)) (P : Filter → Type 0) (step : Arrow Filter (Unit {0})) (old : Held D) (r : Result A CallError) (new : Held D) : Type 0 where
  pub broken : old.desk.broken ≡ true → (r ≡ Err (No code.Broken)) × (new ≡ old)
  pub does : old.desk.broken ≡ false → Answers S P step old (whether r) new × (new.desk.broken ≡ is_err r)
