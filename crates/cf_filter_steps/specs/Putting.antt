-- Steps that change more than the items: writes and accesses, removals, and reads of what a file holds.
use Rattle.std.specs.Prelude.{◌≡◌, ◌==◌, ◌+◌, Bool, false, true, ℕ, List, [], Option, Some, length, is_some, slice_range}
use Rattle.std.specs.List.{list_all}
use Rattle.cf_base.specs.declared.changes.Change.{Change}
use Rattle.cf_base.specs.declared.changes.Change.TheVariants as change
use Rattle.cf_base.specs.declared.ids.ItemId.{ItemId}
use Rattle.cf_base.specs.declared.ids.Usn.{Usn}
use Rattle.cf_base.specs.declared.spans.Span.{Span}
use Rattle.cf_model.specs.Arrows.{Arrow, reading}
use Rattle.cf_model.specs.Blocks.{held_of}
use Rattle.cf_model.specs.Calls.{buried, number_next}
use Rattle.cf_model.specs.Changes.{change_with, no_places}
use Rattle.cf_model.specs.Items.{Item, bytes_held, item_of}
use Rattle.cf_model.specs.LookUp.{children}
use Rattle.cf_model.specs.State.{Filter}
use Rattle.cf_filter_steps.specs.Good.{IsFileIn}
use Rattle.cf_filter_steps.specs.Readings.{has_handle, has_wait}
use Rattle.cf_filter_steps.specs.Suiting.{Ready}

abbrev pub IsFile : ItemId → Filter → Type 0
IsFile item s = IsFileIn s.volume.items item

-- a change that suits and finds room, and a file whose access it is
pub record ReadyOn (item : ItemId) (c : Change) (s : Filter) : Type 0 where
  pub ready : Ready c s
  pub file : IsFile item s

-- An item that may go: not the root, without a child, and no handle is open on it, nor does a wait name it. A number is left
-- for the change.
pub record MayGo (id : ItemId) (i : Item) (s : Filter) : Type 0 where
  pub there : item_of s.volume.items id ≡ Some i
  pub below : (id.0 == 1) ≡ false
  pub empty : children s.volume.items id ≡ []
  pub closed : has_handle id s ≡ false
  pub idle : has_wait id s ≡ false
  pub left : no_places s.volume 1 ≡ false

-- it goes, and where that is said its tombstone comes in the same step
abbrev pub removed_as : Bool → Item → Usn → Arrow Filter (Unit {0})
removed_as bury i number = change_with (buried bury i number) (change.Remove i.id)

abbrev pub removed : Bool → Item → Arrow Filter (Unit {0})
removed bury i = reading number_next (removed_as bury i)

-- what an item holds of a span, cut at its size
abbrev pub held_at : ItemId → Span → Filter → List (Option ℕ)
held_at item asked s = slice_range (held_of s.volume.items item) asked.start (asked.start + asked.len)

abbrev pub bytes_there : ItemId → Span → Filter → List ℕ
bytes_there item asked s = bytes_held (held_at item asked s)

-- each position of the span lies below its size, and is here
pub record IsHere (item : ItemId) (asked : Span) (s : Filter) : Type 0 where
  pub inside : length (held_at item asked s) ≡ asked.len
  pub here : list_all is_some (held_at item asked s) ≡ true
