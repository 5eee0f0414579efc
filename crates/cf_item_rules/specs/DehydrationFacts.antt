-- What a verdict is told, and what it answers.
use Rattle.std.specs.Prelude.{◌≡◌, Bool, not, [], Option, Some, None, nat_lt, ◌+◌, ◌∷◌}
use Rattle.cf_base.specs.declared.codes.Code.{Code}
use Rattle.cf_base.specs.declared.codes.Code.TheVariants as code
use Rattle.cf_base.specs.declared.policies.Policy.{Policy}
use Rattle.cf_model.specs.Items.{Item, size_of}
use Rattle.cf_model.specs.Verdicts.{is_bad_range, is_kept_full, is_pinned}
use Rattle.cf_model.specs.Words.{first_of}
use Rattle.cf_item_rules.specs.declared.dehydration_facts.Facts.{Facts}
use Rattle.cf_item_rules.specs.declared.dehydration_facts.Verdict.{Verdict}
use Rattle.cf_item_rules.specs.declared.dehydration_facts.Verdict.TheVariants.{BadRange, NotPlaceholder, PolicyDenied, Pinned, NotInSync, InUse, Allowed}

-- the code as which a dehydration is refused by the verdict
abbrev pub code_of : Verdict → Option Code
code_of BadRange = Some code.BadRange
code_of NotPlaceholder = Some code.NotPlaceholder
code_of PolicyDenied = Some code.PolicyDenied
code_of Pinned = Some code.Pinned
code_of NotInSync = Some code.NotInSync
code_of InUse = Some code.InUse
code_of Allowed = None

abbrev pub ends_early : Facts → Bool
ends_early f = nat_lt (f.start + f.len) f.size

abbrev pub is_bad : Facts → Bool
is_bad f = is_bad_range f.start f.len f.size

-- the first cause that holds
abbrev pub first_cause : Facts → Option Code
first_cause f = first_of (
    (is_bad f, code.BadRange) ∷ (not f.placeholder, code.NotPlaceholder) ∷ (f.always_full, code.PolicyDenied)
    ∷ (f.pinned, code.Pinned) ∷ (not f.in_sync, code.NotInSync) ∷ (f.in_use, code.InUse) ∷ [])

-- the facts are those of a file under a policy
pub record Tells (f : Facts) (p : Policy) (i : Item) : Type 0 where
  pub size : f.size ≡ size_of i
  pub placeholder : f.placeholder ≡ i.placeholder
  pub always_full : f.always_full ≡ is_kept_full p i
  pub pinned : f.pinned ≡ is_pinned i.pin
  pub in_sync : f.in_sync ≡ i.in_sync
