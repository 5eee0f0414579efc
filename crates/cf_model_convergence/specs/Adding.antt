-- What comes to the notes and the log of a state while an event goes on.
use Rattle.std.specs.Prelude.{Bool, true, false, List, [], ◌++◌, ◌≡◌}
use Rattle.std.specs.List.{list_any}
use Rattle.cf_base.specs.declared.changes.Change.{Change}
use Rattle.cf_base.specs.declared.ids.Usn.{Usn}
use Rattle.cf_base.specs.declared.notices.Notice.{Notice}
use Rattle.cf_base.specs.declared.notices.Notice.TheVariants as notice
use Rattle.cf_model.specs.Items.{Item}
use Rattle.cf_model.specs.State.{State, items_now}

abbrev pub is_change : Notice → Bool
is_change (notice.Change number c) = true
is_change _ = false

-- The notes begin with those of before, and so does the log; where no change came to the notes, none came to the log, and the items
-- are as they were.
pub record Adds (old_notes : List Notice) (old_log : List (Usn × Change)) (old_items : List Item) (notes : List Notice) (log : List (Usn × Change)) (items : List Item) : Type 0 where
  pub lines : List Notice
  pub noted : notes ≡ old_notes ++ lines
  pub changes : List (Usn × Change)
  pub logged : log ≡ old_log ++ changes
  pub still : list_any is_change lines ≡ false → (changes ≡ []) × (items ≡ old_items)

abbrev pub AddsTo : State → State → Type 0
AddsTo s t = Adds s.filter.notes s.filter.volume.log (items_now s) t.filter.notes t.filter.volume.log (items_now t)
