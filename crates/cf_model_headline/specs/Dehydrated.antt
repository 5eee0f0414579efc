-- Which dehydrations are refused.
use Rattle.std.specs.Prelude.{ℕ, List, Option, Some, None, ◌≡◌, ◌≢◌}
use Rattle.cf_base.specs.declared.answers.Answer.{Answer}
use Rattle.cf_base.specs.declared.answers.Shown.{Shown}
use Rattle.cf_base.specs.declared.answers.Shown.TheVariants as shown
use Rattle.cf_base.specs.declared.codes.Code.{Code}
use Rattle.cf_base.specs.declared.codes.Code.TheVariants as code
use Rattle.cf_base.specs.declared.events.Event.{Event}
use Rattle.cf_model.specs.Items.{Item}
use Rattle.cf_model.specs.State.{State}
use Rattle.cf_model_laws.specs.Dehydrations.{IsAllowed, dehydrating, why_kept}

-- which of the three causes an answer shows, if it shows one
abbrev pub cause_shown : Shown → Option Code
cause_shown (shown.Refused code.Pinned) = Some code.Pinned
cause_shown (shown.Refused code.NotInSync) = Some code.NotInSync
cause_shown (shown.Refused code.InUse) = Some code.InUse
cause_shown _ = None

-- A dehydration that is well-formed and that the policy allows is refused exactly where the file is pinned, not in sync or in
-- use, with the first of these that holds; but for a stop of the device.
abbrev pub DehydratesExactly : State → Event → Answer → Type 0
DehydratesExactly s e a =
    (path : List ℕ) (range : Option (ℕ × ℕ)) (i : Item) → e ≡ dehydrating path range → IsAllowed s path range i → a.shown ≢ shown.Refused code.Device → cause_shown a.shown ≡ why_kept s i
