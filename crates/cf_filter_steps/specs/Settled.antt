-- A step of the ask rule that was worked out, and what it tells.
use Rattle.std.specs.Prelude.{◌≡◌, List, [], ◌∷◌}
use Rattle.cf_ask_rule.specs.Plans.{Planned}
use Rattle.cf_base.specs.declared.changes.Change.{Change}
use Rattle.cf_base.specs.declared.ids.ItemId.{ItemId}
use Rattle.cf_base.specs.declared.ids.Key.{Key}
use Rattle.cf_base.specs.declared.waits.Ask.{Ask}
use Rattle.cf_base.specs.declared.waits.Cause.{Cause}
use Rattle.cf_model.specs.Arrows.{Arrow, each, noted, then_do}
use Rattle.cf_model.specs.Asks.{step_of}
use Rattle.cf_model.specs.Items.{Item}
use Rattle.cf_model.specs.Missing.{Wait, view_of}
use Rattle.cf_model.specs.Operations.{with_changes}
use Rattle.cf_model.specs.Requests.{Deed}
use Rattle.cf_model.specs.Settling.{end_wait, no_view, told_at}
use Rattle.cf_model.specs.State.{Filter}
use Rattle.cf_waits.specs.Steps.{carried}
use Rattle.cf_filter_steps.specs.Answering.{Sense}
use Rattle.cf_filter_steps.specs.Good.{Every, IsOnFile, IsSmall}
use Rattle.cf_filter_steps.specs.Looking.{IsSeen}
use Rattle.cf_filter_steps.specs.Readings.{with_asks}
use Rattle.cf_table.specs.Means.{Means}
use Rattle.cf_table.specs.declared.rows.Row.{Row}

-- the plan is that of the step on the item now
abbrev pub IsStepNow : ItemId → Deed → Planned → Filter → Type 0
IsStepNow item d p s = carried p s.waiting ≡ told_at item d s

-- The plan is that of a step on the item where it is as the row means it.
pub record Looks {X : Type 0} (S : Sense X) (item : ItemId) (row : Row) (d : Deed) (p : Planned) (x : X) : Type 0 where
  pub is : (s : Filter) (i : Item) → S.means x s → Means row i → IsSmall i → carried p s.waiting ≡ step_of item (view_of s.policy i) d s.waiting

-- The plan is that of a step on the item now.
pub record LooksNow {X : Type 0} (S : Sense X) (item : ItemId) (d : Deed) (p : Planned) (x : X) : Type 0 where
  pub is : (s : Filter) → S.means x s → IsStepNow item d p s

-- The plan is that of a step on an item that is gone.
pub record LooksGone {X : Type 0} (S : Sense X) (item : ItemId) (d : Deed) (p : Planned) (x : X) : Type 0 where
  pub is : (s : Filter) → S.means x s → carried p s.waiting ≡ step_of item no_view d s.waiting

-- the wait that ended, where it reads, is on a file
abbrev pub IsEndOnFile : Wait × Cause → Filter → Type 0
IsEndOnFile e s = IsOnFile e.0.kind s.volume.items e.0.item

abbrev pub AreOnFiles : List (Wait × Cause) → Filter → Type 0
AreOnFiles es s = Every (λ e. IsEndOnFile e s) es

-- what a step tells, in its order
abbrev pub tell_moves : List (Wait × Cause) → List Key → List Ask → Arrow Filter (Unit {0})
tell_moves ended cancelled asks = then_do (each end_wait ended) (noted (with_asks cancelled asks))

-- the plan is that of the step on the item once these changes are made
abbrev pub IsStepAfter : ItemId → List Change → Deed → Planned → Filter → Type 0
IsStepAfter item cs d p s = carried p s.waiting ≡ told_at item d (with_changes cs s)

-- The plan is that of the step on the item as it is after the change, where that is one that can be looked at.
pub record LooksAfter {X : Type 0} (S : Sense X) (item : ItemId) (c : Change) (d : Deed) (p : Planned) (x : X) : Type 0 where
  pub is : (s : Filter) → S.means x s → IsSeen c item → IsStepAfter item (c ∷ []) d p s
