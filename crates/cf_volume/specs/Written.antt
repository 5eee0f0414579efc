-- How many bytes the calls of a volume write.
use Rattle.std.specs.Prelude.{◌≡◌, ◌≤◌, ◌+◌, ◌&&◌, ℕ, Bool, true, [], is_some, nat_lt}
use Rattle.cf_base.specs.declared.ids.ItemId.{ItemId}
use Rattle.cf_volume_commit.specs.Differing.{text_of}
use Rattle.cf_volume_commit.specs.Leading.{bytes_written}
use Rattle.cf_volume_points.specs.declared.earlier.Earlier.{Earlier}
use Rattle.cf_disk.specs.Disk.{State}
use Rattle.cf_volume_image.specs.Contents.{image_of}
use Rattle.cf_volume_image.specs.declared.contents.Contents.{Contents}
use Rattle.cf_model.specs.Formats.{spell_image}
use Rattle.cf_volume_points.specs.Known.{Known}
use Rattle.cf_table.specs.Tables.{row_of}

-- at most that many bytes
abbrev pub WritesAtMost : ℕ → State → State → Type 0
WritesAtMost n s t = t.written ≤ s.written + n

-- what is noted of the last point
abbrev pub earlier_in : Known → Earlier
earlier_in k = record { rows = record { rows = k.rows_then; next = k.table.next }; next = k.next_then; records = k.records_then; made = k.keys_made }

-- what the volume says of its items
abbrev pub contents_in : Known → Contents
contents_in k = record { last = record { epoch = k.epoch; place = k.place }; count = k.count; clock = k.clock; rows = k.table; records = k.records }

-- What a commit writes: where it has room in the journal, a payload of the rows and records that are noted or new since the
-- last point, and 6 bytes; else the whole image, and 30 bytes.
abbrev pub commit_bytes : Known → ℕ
commit_bytes k = bytes_written k.journal (text_of (earlier_in k) (contents_in k)) (spell_image (image_of (contents_in k)))

-- no row and no record is noted or new since the last point
pub record IsAtPoint (k : Known) : Type 0 where
  pub rows : k.rows_then ≡ []
  pub next : k.next_then ≡ k.table.next
  pub records : k.records_then ≡ []
  pub keys : k.keys_made ≡ []

-- the row of an item that was there at the last point is noted
abbrev pub is_noted : Known → ItemId → Bool
is_noted k id = nat_lt id.0 k.next_then.0 && is_some (row_of k.rows_then id)

-- of no item but this one a row is noted that was not noted before
abbrev pub NotesOnly : ItemId → Known → Known → Type 0
NotesOnly id old new = (other : ItemId) → (other.0 ≡ id.0 → ⊥) → is_noted new other ≡ true → is_noted old other ≡ true
