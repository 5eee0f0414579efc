-- Why a policy is refused, and what is told of an item.
use Rattle.std.specs.Prelude.{◌≡◌, Bool, [], ◌∷◌, Option, Result, Ok, Err, ◌&&◌}
use Rattle.cf_base.specs.declared.answers.Shown.{Shown}
use Rattle.cf_base.specs.declared.codes.Code.{Code}
use Rattle.cf_base.specs.declared.codes.Code.TheVariants as code
use Rattle.cf_base.specs.declared.codes.CallError.{CallError}
use Rattle.cf_base.specs.declared.codes.CallError.TheVariants.{OutOfMemory, No}
use Rattle.cf_base.specs.declared.ids.ItemId.{ItemId}
use Rattle.cf_base.specs.declared.policies.Mode.{Mode}
use Rattle.cf_base.specs.declared.policies.Policy.{Policy}
use Rattle.cf_model.specs.Arrows.{Arrow, reading, ret}
use Rattle.cf_model.specs.Calls.{policy_tests, used_now}
use Rattle.cf_model.specs.State.{Filter}
use Rattle.cf_model.specs.Words.{first_of}

-- the code of the first of three refusals
abbrev pub policy_code : Bool → Bool → Bool → Bool → Option Code
policy_code bad used always unlisted = first_of ((bad, code.BadPolicy) ∷ (used, code.InUse) ∷ (always && unlisted, code.NotPopulated) ∷ [])

abbrev pub policy_refusal : Mode → Policy → Filter → Option Code
policy_refusal m p s = first_of (policy_tests m p s)

-- the last access of the item with this id
abbrev pub used_by : ItemId → Arrow Filter Shown
used_by id = reading (used_now id) ret

-- this is told, or there was no memory
abbrev pub IsShown : Shown → Result Shown CallError → Type 0
IsShown v (Ok a) = a ≡ v
IsShown v (Err (No c)) = ⊥
IsShown v (Err OutOfMemory) = Unit {0}
