-- Which dehydrations are refused.
use Rattle.std.specs.Prelude.{ℕ, Bool, true, false, not, List, [], ◌∷◌, ◌≡◌, ◌≢◌, Option, Some, None, Ok}
use Rattle.cf_base.specs.declared.answers.Answer.{Answer}
use Rattle.cf_base.specs.declared.answers.Shown.TheVariants as shown
use Rattle.cf_base.specs.declared.calls.Call.TheVariants as call
use Rattle.cf_base.specs.declared.codes.Code.{Code}
use Rattle.cf_base.specs.declared.codes.Code.TheVariants as code
use Rattle.cf_base.specs.declared.events.Event.{Event}
use Rattle.cf_base.specs.declared.events.Event.TheVariants as event
use Rattle.cf_base.specs.declared.policies.Mode.{Mode}
use Rattle.cf_model.specs.Dehydration.{in_use}
use Rattle.cf_model.specs.Items.{Item, size_of}
use Rattle.cf_model.specs.LookUp.{find_path}
use Rattle.cf_model.specs.State.{On, State, items_now}
use Rattle.cf_model.specs.Verdicts.{is_bad_range, is_kept_full, is_pinned}
use Rattle.cf_model.specs.Words.{first_of}

-- the range that a call means: without one it is the whole file
abbrev pub start_of : Option (ℕ × ℕ) → ℕ
start_of None = 0
start_of (Some r) = r.0

abbrev pub len_of : Option (ℕ × ℕ) → Item → ℕ
len_of None i = size_of i
len_of (Some r) i = r.1

-- The call is well-formed and policy allows it: the volume is on, the path names a placeholder file, the range starts at a
-- block and reaches the file's end, and neither the policy nor a flag keeps the file full.
pub record IsAllowed (s : State) (path : List ℕ) (range : Option (ℕ × ℕ)) (i : Item) : Type 0 where
  pub on : s.power ≡ On
  pub named : find_path (items_now s) path ≡ Ok i
  pub file : i.directory ≡ false
  pub placeholder : i.placeholder ≡ true
  pub whole : is_bad_range (start_of range) (len_of range i) (size_of i) ≡ false
  pub policy : is_kept_full s.filter.policy i ≡ false

-- the first cause that holds: pinned, not in sync, in use
abbrev pub why_kept : State → Item → Option Code
why_kept s i = first_of ((is_pinned i.pin, code.Pinned) ∷ (not i.in_sync, code.NotInSync) ∷ (in_use i.id s.filter, code.InUse) ∷ [])

-- one of the three causes
abbrev pub is_cause : Code → Bool
is_cause code.Pinned = true
is_cause code.NotInSync = true
is_cause code.InUse = true
is_cause _ = false

abbrev pub dehydrating : List ℕ → Option (ℕ × ℕ) → Event
dehydrating path range = event.Call (call.Dehydrate path range)

-- Where a cause holds the answer is that refusal, and where none holds it is none of the three. A stop of the device stands
-- in place of each answer.
abbrev pub IsRefusedExactly : Mode → State → List ℕ → Option (ℕ × ℕ) → Item → Answer → Type 0
IsRefusedExactly m s path range i a =
    ((c : Code) → why_kept s i ≡ Some c → a.shown ≡ shown.Refused c)
    × (why_kept s i ≡ None → (c : Code) → is_cause c ≡ true → a.shown ≢ shown.Refused c)
