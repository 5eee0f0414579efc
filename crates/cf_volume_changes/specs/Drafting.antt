-- What one more change makes of a draft.
use Rattle.std.specs.Prelude.{◌≡◌, ◌≤◌, ◌*◌, ℕ, cond, List, length, Option, None, Some, Result, Ok, Err}
use Rattle.cf_base.specs.declared.answers.AuxRecord.{AuxRecord}
use Rattle.cf_base.specs.declared.changes.Change.{Change}
use Rattle.cf_base.specs.declared.changes.Change.TheVariants as change
use Rattle.cf_base.specs.declared.memory.OutOfMemory.{OutOfMemory}
use Rattle.cf_base.specs.declared.ids.ItemId.{ItemId}
use Rattle.cf_base.specs.declared.ids.Usn.{Usn}
use Rattle.cf_base.specs.declared.items.Pin.{Pin}
use Rattle.cf_base.specs.declared.items.Pin.TheVariants as pin
use Rattle.cf_volume_image.specs.Contents.{record_at}
use Rattle.cf_volume_image.specs.declared.contents.Contents.{Contents}
use Rattle.cf_model.specs.Blocks.{puts_into}
use Rattle.cf_model.specs.Changes.{next_number, put_change}
use Rattle.cf_model.specs.Numbers.{most}
use Rattle.cf_model.specs.State.{Volume}
use Rattle.cf_volume_points.specs.Keeping.{FitsBook}
use Rattle.cf_ranges.specs.Positions.{IsBelow, touched}
use Rattle.cf_table.specs.Tables.{IsStored}
use Rattle.cf_table.specs.declared.rows.Row.{Row}
use Rattle.cf_volume_changes.specs.AuxPuts.{len_if}
use Rattle.cf_volume_changes.specs.Drafts.{Drafts, is_gone, pin_in, row_in, row_sizes, shifted}
use Rattle.cf_volume_changes.specs.Keys.{seen_key}
use Rattle.cf_volume_changes.specs.RoomLeft.{FitsAmong}
use Rattle.cf_volume_changes.specs.declared.room.drafts.Draft.{Draft}
use Rattle.cf_volume_changes.specs.declared.room.drafts.Sizes.{Sizes}

-- the number at which a Rebase is made has room in its fields
abbrev pub HasPlace : Change → Type 0
HasPlace (change.Rebase item identity len at) = at.place ≤ most
HasPlace _ = Unit {0}

-- the pin of the parent that a Move names
abbrev pub pin_drafted : Draft → List Row → Change → Pin
pin_drafted d rows (change.Move item parent name) = pin_in (row_in d rows parent)
pin_drafted d rows _ = pin.Unspecified

-- of the record of an item's path seen, unless it is gone
abbrev pub record_sizes : List ItemId → List AuxRecord → ItemId → Sizes
record_sizes gone records id = record { bytes = cond (is_gone gone id) 0 (len_if (record_at records (seen_key id))); items = 0; blocks = 0 }

-- the sizes are those of the row, if there is one
abbrev pub AreSizesOf : Option Row → Sizes → Type 0
AreSizesOf None z = z ≡ record { bytes = 0; items = 0; blocks = 0 }
AreSizesOf (Some r) z = IsStored r × ((n : ℕ) → IsBelow r.here (4096 * n) → z ≡ row_sizes r (touched r.here 0 n))

-- The draft is that after one more change, which puts bytes into so many blocks.
abbrev pub IsNextDraft : Contents → Change → Draft → Volume → Result (Option ℕ) OutOfMemory → Type 0
IsNextDraft c change d w (Ok None) = ⊥
IsNextDraft c change d w (Ok (Some asked)) = (asked ≡ length (puts_into w.items change)) × Drafts c d (put_change change w)
IsNextDraft c change d w (Err e) = Unit {0}

-- it is so where the change fits the items
abbrev pub DraftsNext : Contents → Change → Usn → Draft → Draft → Volume → Result (Option ℕ) OutOfMemory → Type 0
DraftsNext c change n old new w result =
    Drafts c old w → n ≡ shifted w.epoch (next_number w) → FitsAmong change w.book w.items → FitsBook change w.book → IsNextDraft c change new w result
