-- The changes of a run, each where it was made.
use Rattle.std.specs.Prelude.{false, List, [], map, ◌∷◌, ◌++◌, ◌≡◌, ◌⊎◌}
use Rattle.cf_base.specs.declared.changes.Change.{Change}
use Rattle.cf_base.specs.declared.changes.Change.TheVariants as change
use Rattle.cf_base.specs.declared.ids.Usn.{Usn}
use Rattle.cf_model.specs.Contents.{base_named, up_to}
use Rattle.cf_model.specs.Effects.{copied, rebased}
use Rattle.cf_model.specs.Identities.{base_bytes, content, is_untargeted}
use Rattle.cf_model.specs.Items.{pin_of}
use Rattle.cf_model.specs.Logs.{items_of}
use Rattle.cf_model.specs.Overlay.{over}
use Rattle.cf_model.specs.Soundness.{Each}
use Rattle.cf_model.specs.State.{State}
use Rattle.cf_model.specs.Store.{Held}
use Rattle.cf_model_laws.specs.Fitting.{IsCopied}
use Rattle.cf_model_laws.specs.Invariant.{HasBase}
use Rattle.cf_model_laws.specs.Premises.{IsFair}

-- of each of these changes with its number, and the changes before it
abbrev pub EachMade : (List (Usn × Change) → Usn → Change → Type 0) → List (Usn × Change) → List (Usn × Change) → Type 0
EachMade C front [] = Unit {0}
EachMade C front (c ∷ cs) = C front c.0 c.1 × EachMade C (front ++ c ∷ []) cs

-- A Mark names the number that its item has at that step. The item has no local write that is not in its base, it has a
-- target, and the base is a version that the remote has made, or none. A Rebase names a version with the bytes of the base under the writes up to
-- its number, and leaves the content of its file. A Take meets a file without local writes, or stands directly behind the
-- Copy of that file. A Copy has the content of the old file.
abbrev pub IsChangeRight : Held → List (Usn × Change) → Usn → Change → Type 0
IsChangeRight r front n (change.Mark item number) = Each item (λ i. (number ≡ i.number) × (i.writes ≡ []) × (is_untargeted i ≡ false) × HasBase r i.identity) (items_of front)
IsChangeRight r front n (change.Rebase item identity len at) =
    Each item (λ i. i.directory ≡ false → HasBase r identity × (base_named r identity ≡ over (base_bytes r i) (map (λ w. w.write) (up_to at i.writes))) × (content r (rebased identity len at i) ≡ content r i)) (items_of front)
IsChangeRight r front n (change.Take item identity size) = Each item (λ i. i.writes ≡ []) (items_of front) ⊎ IsCopied front item
IsChangeRight r front n (change.Copy item from parent name) =
    Each from (λ i. i.directory ≡ false → content r (copied item parent name (pin_of (items_of front) parent) n i) ≡ content r i) (items_of front)
IsChangeRight r front n _ = Unit {0}

abbrev pub AreChangesRight : State → Type 0
AreChangesRight s = IsFair s.link → EachMade (IsChangeRight s.link.remote) [] s.filter.volume.log
