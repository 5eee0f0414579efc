-- What an engine leaves of a volume. It opens nothing else.
use Rattle.std.specs.Prelude.{◌≡◌, ◌&&◌, ◌||◌, ◌==◌, ℕ, Bool, true, false, List, All, find, length, map, nat_lt}
use Rattle.std.specs.List.{list_all}
use Rattle.cf_base.specs.declared.answers.AuxRecord.{AuxRecord}
use Rattle.cf_base.specs.declared.ids.ItemId.{ItemId}
use Rattle.cf_base.specs.declared.ids.Usn.{Usn}
use Rattle.cf_engine_queue.specs.Books.{entry_value}
use Rattle.cf_engine_queue.specs.Records.{Says}
use Rattle.cf_engine_queue.specs.declared.records.Record.{Record}
use Rattle.cf_engine_queue.specs.declared.records.Record.TheVariants as said
use Rattle.cf_model.specs.Books.{Action, MakeDir, MoveItem, PutFile, QueueEntry, RemoveItem}
use Rattle.cf_model.specs.Fits.{same_flag}
use Rattle.cf_model.specs.Formats.{Image}
use Rattle.cf_model.specs.Numbers.{same_usn}
use Rattle.cf_model.specs.Rows.{Row}
use Rattle.cf_model.specs.Words.{part}
use Rattle.cf_table.specs.Spelling.{row_value}
use Rattle.cf_volume_points.specs.Known.{Known}

-- an identity that an engine gives: none, or one of 24 bytes
abbrev pub is_ours : List ℕ → Bool
is_ours identity = (length identity == 0) || (length identity == 24)

-- the row is that of a placeholder of this kind, which was uploaded last at this number
abbrev pub is_uploaded : Bool → Usn → Row → Bool
is_uploaded directory number r = r.placeholder && same_flag directory r.directory && same_usn r.anchor number

-- The item was given, and if it is here, its row is so.
abbrev pub has_uploaded : ItemId → List Row → Bool → ItemId → Usn → Bool
has_uploaded next rows directory item number = nat_lt item.0 next.0 && part (is_uploaded directory number) true (find (λ r. r.id.0 == item.0) rows)

-- The same by what an upload does. What is moved or removed is not looked at.
abbrev pub upload_fits : ItemId → List Row → Action → ItemId → Usn → Bool
upload_fits next rows PutFile item number = has_uploaded next rows false item number
upload_fits next rows MakeDir item number = has_uploaded next rows true item number
upload_fits next rows MoveItem item number = true
upload_fits next rows RemoveItem item number = true

abbrev pub entry_fits : ItemId → List Row → QueueEntry → Bool
entry_fits next rows e = upload_fits next rows e.action e.item e.number

-- what a record says fits the rows
abbrev pub said_fits : ItemId → List Row → Record → Bool
said_fits next rows (said.Entry e) = entry_fits next rows (entry_value e)
said_fits next rows _ = true

-- a record says something of a book, and that fits the rows
abbrev pub RecordFits : ItemId → List Row → AuxRecord → Type 0
RecordFits next rows r = (x : Record) × Says r x × (said_fits next rows x ≡ true)

-- Rows and records that an engine leaves. The next item gets this id.
pub record FitsEngine (next : ItemId) (rows : List Row) (records : List AuxRecord) : Type 0 where
  pub identities : list_all (λ r. is_ours r.identity) rows ≡ true
  pub records_fit : All (RecordFits next rows) records

-- an image of a volume that an engine opens
abbrev pub IsOfEngine : Image → Type 0
IsOfEngine i = FitsEngine i.header.next i.rows i.records

-- the same of what is known of a volume that was opened
abbrev pub FitsKnown : Known → Type 0
FitsKnown k = FitsEngine k.table.next (map row_value k.table.rows) k.records
