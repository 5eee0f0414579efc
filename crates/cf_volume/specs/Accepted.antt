-- Changes put where numbers are left, in parts.
use Rattle.std.specs.Prelude.{◌≡◌, ◌⊎◌, ℕ, true, false, [], ◌∷◌, length, Option, None, Some, Result, Ok, Err}
use Rattle.cf_base.specs.declared.changes.Change.{Change}
use Rattle.cf_base.specs.declared.codes.Code.TheVariants.{Device}
use Rattle.cf_base.specs.declared.codes.CallError.{CallError}
use Rattle.cf_base.specs.declared.codes.CallError.TheVariants.{OutOfMemory, No}
use Rattle.cf_base.specs.declared.ids.Usn.{Usn}
use Rattle.cf_disk.specs.Disk.{State}
use Rattle.cf_model.specs.Changes.{may_need_room, next_number, put_change, why_no_room}
use Rattle.cf_model.specs.State.{Volume}
use Rattle.cf_volume_points.specs.At.{At}
use Rattle.cf_volume_points.specs.Known.{Known}
use Rattle.cf_volume_changes.specs.Steady.{Steady}

-- why the change is put, refused, or waits for room
abbrev pub IsJudged : Change → Volume → Result (Option Usn) CallError → Type 0
IsJudged c v (Ok (Some n)) = (n ≡ next_number v) × (why_no_room (c ∷ []) v ≡ None)
IsJudged c v (Ok None) = (why_no_room (c ∷ []) v ≡ None) × (may_need_room c v ≡ true)
IsJudged c v (Err OutOfMemory) = Unit {0}
IsJudged c v (Err (No code)) = (code ≡ Device) ⊎ (why_no_room (c ∷ []) v ≡ Some code)

-- where it is put it is in the volume
abbrev pub IsDone : Change → Volume → State → Known → Result (Option Usn) CallError → Type 0
IsDone c v t new (Ok (Some n)) = At t new (put_change c v)
IsDone c v t new (Ok None) = Unit {0}
IsDone c v t new (Err e) = Unit {0}

-- A change waits for room only where the disk wants a commit here, or nowhere. One that is put needs no room where the disk
-- wants a commit here.
abbrev pub FollowsAim : Change → Volume → State → Result (Option Usn) CallError → Type 0
FollowsAim c v s (Ok (Some n)) = s.settings.aim ≡ Some (length v.log) → may_need_room c v ≡ false
FollowsAim c v s (Ok None) = (n : ℕ) → s.settings.aim ≡ Some n → n ≡ length v.log
FollowsAim c v s (Err e) = Unit {0}

-- what holds of the parts holds on, unless the device or memory stopped the call
abbrev pub StaysSteady : {A : Type 0} → ℕ → Known → Result A CallError → Type 0
StaysSteady size k (Ok n) = Steady size k
StaysSteady size k (Err OutOfMemory) = Unit {0}
StaysSteady size k (Err (No code)) = (code ≡ Device) ⊎ Steady size k
