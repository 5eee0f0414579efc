-- Whether a file may be dehydrated.
use Rattle.std.specs.Prelude.{ℕ, Bool, true, false, not, [], Option, nat_lt, ◌+◌, ◌%◌, ◌||◌, ◌∷◌, ◌==◌}
use Rattle.cf_base.specs.Policies.{is_always_full}
use Rattle.cf_base.specs.declared.codes.Code.{Code}
use Rattle.cf_base.specs.declared.codes.Code.TheVariants as code
use Rattle.cf_base.specs.declared.items.Pin.{Pin}
use Rattle.cf_base.specs.declared.items.Pin.TheVariants as pin
use Rattle.cf_base.specs.declared.policies.Policy.{Policy}
use Rattle.cf_model.specs.Items.{Item, size_of}
use Rattle.cf_model.specs.Words.{first_of}

-- the policy keeps the file full, or the file is kept full
abbrev pub is_kept_full : Policy → Item → Bool
is_kept_full p i = is_always_full p.hydration || i.keep

abbrev pub is_pinned : Pin → Bool
is_pinned pin.Pinned = true
is_pinned _ = false

-- the span starts at a block inside the file and reaches the file's end
abbrev pub is_bad_range : ℕ → ℕ → ℕ → Bool
is_bad_range start len size = not (start % 4096 == 0) || nat_lt size start || nat_lt (start + len) size

-- the first refusal; none means allowed
abbrev pub verdict : Policy → Item → ℕ → ℕ → Bool → Option Code
verdict p i start len in_use = first_of (
    (is_bad_range start len (size_of i), code.BadRange) ∷ (not i.placeholder, code.NotPlaceholder) ∷ (is_kept_full p i, code.PolicyDenied)
    ∷ (is_pinned i.pin, code.Pinned) ∷ (not i.in_sync, code.NotInSync) ∷ (in_use, code.InUse) ∷ [])
