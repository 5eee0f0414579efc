-- What a callback comes to, and how a call ends after the last of them.
use Rattle.std.specs.Prelude.{◌≡◌, Bool, true, false, Option, None, Result, Ok, Err}
use Rattle.cf_base.specs.declared.answers.Shown.{Shown}
use Rattle.cf_base.specs.declared.codes.Code.TheVariants as code
use Rattle.cf_base.specs.declared.codes.CallError.{CallError}
use Rattle.cf_base.specs.declared.codes.CallError.TheVariants.{No, OutOfMemory}
use Rattle.cf_base.specs.declared.memory.OutOfMemory.{OutOfMemory as NoMemory}
use Rattle.cf_base.specs.declared.waits.End.{End}
use Rattle.cf_base.specs.declared.answers.Shown.TheVariants as shown
use Rattle.cf_filter_machine.specs.Held.{Held}
use Rattle.cf_model.specs.Callbacks.{end_or_pending}

-- A provider returned, and the filter is so. Without memory nothing is said.
abbrev pub IsTurned : Result (Unit {0}) NoMemory → Bool → Bool → Result (Unit {0}) CallError → Type 0
IsTurned told broken lost (Ok u) = (told ≡ Ok (record {})) × (broken ≡ false)
IsTurned told broken lost (Err (No c)) = (told ≡ Ok (record {})) × (broken ≡ true) × (lost ≡ false) × (c ≡ code.Device)
IsTurned told broken lost (Err OutOfMemory) = Unit {0}

-- of a wait that ended its end
abbrev pub shows_end : Shown → Option End → Shown
shows_end (shown.Pending id) ending = end_or_pending id ending
shows_end answer ending = answer

unfoldable pub with_no_own : {D : Type 0} → Held D → Held D
with_no_own x = record x { desk = record x.desk { own = None; ending = None } }
