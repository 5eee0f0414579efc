-- Why an operation was refused, and what follows then, which mirror the code: no definitions to believe.
use Rattle.std.specs.Prelude.{ℕ, Option, Some, None}
use Rattle.cf_base.specs.declared.answers.Shown.{Shown}
use Rattle.cf_base.specs.declared.answers.Shown.TheVariants as shown
use Rattle.cf_base.specs.declared.codes.Code.{Code}
use Rattle.cf_base.specs.declared.ids.Key.{Key}
use Rattle.cf_model.specs.Arrows.{Arrow, ret, unit}
use Rattle.cf_model.specs.Fetching.{live_ask, refuse_live}
use Rattle.cf_model.specs.State.{State}

abbrev pub refusal_of : Shown → Option Code
refusal_of (shown.Refused c) = Some c
refusal_of _ = None

-- nothing more where it was done
abbrev pub if_refused : (Shown → Arrow State (Unit {0})) → Option Code → Arrow State (Unit {0})
if_refused f None = ret unit
if_refused f (Some c) = f (shown.Refused c)

-- no bytes and no entries for the live ask with the key, if there is one
abbrev pub refuse_at : ℕ → Key → Arrow State (Unit {0})
refuse_at status key s = refuse_live status (live_ask s key) s
