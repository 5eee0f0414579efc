-- What the engine leaves alone.
use Rattle.std.specs.Prelude.{Bool, true, false, not, List, length, drop, ◌++◌, ◌≡◌, ◌≤◌}
use Rattle.cf_base.specs.declared.calls.Call.{Call}
use Rattle.cf_base.specs.declared.calls.Call.TheVariants as call
use Rattle.cf_base.specs.declared.changes.Change.{Change}
use Rattle.cf_base.specs.declared.changes.Change.TheVariants as change
use Rattle.cf_base.specs.declared.events.Event.{Event}
use Rattle.cf_base.specs.declared.events.Event.TheVariants as event
use Rattle.cf_base.specs.declared.ids.ItemId.{ItemId}
use Rattle.cf_base.specs.declared.ids.Usn.{Usn}
use Rattle.cf_model.specs.Dehydration.{in_use}
use Rattle.cf_model.specs.Logs.{items_of}
use Rattle.cf_model.specs.Soundness.{Each}
use Rattle.cf_model.specs.State.{State, items_now}
use Rattle.cf_model_laws.specs.Fitting.{IsVacant}
use Rattle.cf_model_laws.specs.GivenOnce.{Handles, IsGiven, Waits}
use Rattle.cf_model_laws.specs.Invariant.{All, InOrder}
use Rattle.cf_model_laws.specs.Logged.{EachMade}
use Rattle.cf_model_laws.specs.Premises.{IsFair}

-- an application removes an item
abbrev pub is_removal : Call → Bool
is_removal (call.Delete path) = true
is_removal _ = false

-- an application sets the policy
abbrev pub is_ruling : Call → Bool
is_ruling (call.Policy p) = true
is_ruling _ = false

abbrev pub sets_policy : Event → Bool
sets_policy (event.Call c) = is_ruling c
sets_policy _ = false

-- an event other than a removal, and than those of the device
abbrev pub is_other : Event → Bool
is_other (event.Call c) = not (is_removal c)
is_other (event.Device e) = false
is_other (event.Peer e) = true
is_other (event.Engine e) = true
is_other (event.Provider e) = true

-- the changes that a state has beyond those of an earlier one
abbrev pub since : State → State → List (Usn × Change)
since s t = drop (length s.filter.volume.log) t.filter.volume.log

-- The item goes with the change, or its bytes do.
abbrev pub Replaces : Change → ItemId → Type 0
Replaces (change.Take item identity size) id = item.0 ≡ id.0
Replaces (change.Remove item) id = item.0 ≡ id.0
Replaces _ id = ⊥

abbrev pub IsLeft : State → State → ItemId → Type 0
IsLeft s t id = (length s.filter.volume.log ≤ length t.filter.volume.log) × All (λ c. Replaces c.1 id → ⊥) (since s t)

-- What was in use in the first state and still is in the second, by the same handle or the same wait, was neither removed nor
-- taken over in between.
abbrev pub AreUsesLeft : State → State → Type 0
AreUsesLeft s t =
    IsFair t.link → All (λ o. IsGiven Handles s o.handle.0 → IsLeft s t o.item) t.filter.handles × All (λ w. IsGiven Waits s w.id.0 → IsLeft s t w.item) t.filter.waiting.waits

abbrev pub IsRemovalVacant : List (Usn × Change) → Usn → Change → Type 0
IsRemovalVacant front n (change.Remove item) = Each item (IsVacant (items_of front)) (items_of front)
IsRemovalVacant front n _ = Unit {0}

-- A removal since the first state met an item that was vacant: a file without local writes, or a directory without a child.
abbrev pub AreRemovalsVacant : State → State → Type 0
AreRemovalsVacant s t = IsFair t.link → EachMade IsRemovalVacant s.filter.volume.log (since s t)

-- The ids of the items rise, and each is below the next one.
abbrev pub AreIdsRising : State → Type 0
AreIdsRising s = InOrder 0 s.filter.volume.next_item.0 (items_now s)

-- The same items are in use in both states, and the changes since the first one replaced none of them: so a change met an item
-- that was not in use in the state in which it was made.
pub record AreReplacedIdle (s t : State) : Type 0 where
  pub alike : (id : ItemId) → in_use id t.filter ≡ in_use id s.filter
  pub longer : s.filter.volume.log ++ since s t ≡ t.filter.volume.log
  pub idle : All (λ c. (id : ItemId) → Replaces c.1 id → in_use id s.filter ≡ false) (since s t)
