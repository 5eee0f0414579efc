-- The durable book: what the engine keeps beside the items, and the clock with each file's last access.
use Rattle.std.specs.Prelude.{ℕ, cond, not, List, [], map, filter, Option, find, codes, nat_lt, min, ◌+◌, ◌∷◌, ◌++◌, ◌==◌}
use Rattle.cf_base.specs.declared.answers.Access.{Access}
use Rattle.cf_base.specs.declared.answers.Anchor.{Anchor}
use Rattle.cf_base.specs.declared.answers.AuxRecord.{AuxRecord}
use Rattle.cf_base.specs.declared.answers.OpenedBook.{OpenedBook}
use Rattle.cf_base.specs.declared.changes.Change.{Change}
use Rattle.cf_base.specs.declared.changes.Change.TheVariants as change
use Rattle.cf_base.specs.declared.ids.ItemId.{ItemId}
use Rattle.cf_base.specs.declared.ids.Key.{Key}
use Rattle.cf_base.specs.declared.ids.Rid.{Rid}
use Rattle.cf_base.specs.declared.ids.Token.{Token}
use Rattle.cf_base.specs.declared.ids.Usn.{Usn}
use Rattle.cf_base.specs.declared.ids.Version.{Version}
use Rattle.cf_base.specs.declared.items.SeenPath.{SeenPath}
use Rattle.cf_model.specs.Numbers.{above, no_usn, same_key, same_usn}
use Rattle.cf_model.specs.Words.{in_bytes, part, put_in, when}

-- what an upload does to the remote
pub data Action : Type 0 where
  PutFile MakeDir MoveItem RemoveItem : Action

-- An upload that was committed and has no reply yet. A removal has item 0, its tombstone's number and parent 0; a put of
-- a file with a target has parent 0 and no name; a new file and a new directory have rid 0.
pub record QueueEntry : Type 0 where
  pub token : Token
  pub item : ItemId
  pub action : Action
  pub number : Usn
  pub rid : Rid
  pub parent : Rid
  pub name : List ℕ

-- an item of the remote that an application removed here, under the number of that removal
pub record Tombstone : Type 0 where
  pub number : Usn
  pub rid : Rid
  pub version : Version

-- Entries stand by token, paths seen, anchors and accesses by item, tombstones by number. An item without an anchor has
-- 0.0, a file without an access has 0.
pub record Book : Type 0 where
  -- the clock of the last feed that was applied whole
  pub cursor : ℕ
  pub entries : List QueueEntry
  pub seen : List SeenPath
  pub tombstones : List Tombstone
  pub anchors : List Anchor
  pub clock : ℕ
  pub accesses : List Access

abbrev pub no_book : Book
no_book = record { cursor = 0; entries = []; seen = []; tombstones = []; anchors = []; clock = 0; accesses = [] }

-- look-ups

abbrev pub entry_of : Book → Token → Option QueueEntry
entry_of b token = find (λ e. same_key e.token.0 token.0) b.entries

abbrev pub seen_of : Book → ItemId → Option SeenPath
seen_of b item = find (λ p. p.item.0 == item.0) b.seen

abbrev pub anchor_of : Book → ItemId → Usn
anchor_of b item = part (λ a. a.number) no_usn (find (λ a. a.item.0 == item.0) b.anchors)

abbrev pub access_of : Book → ItemId → ℕ
access_of b item = part (λ a. a.clock) 0 (find (λ a. a.item.0 == item.0) b.accesses)

abbrev pub tombstone_of : Book → Usn → Option Tombstone
tombstone_of b number = find (λ t. same_usn t.number number) b.tombstones

-- what the engine's steps make of it

abbrev pub with_cursor : ℕ → Book → Book
with_cursor clock b = record b { cursor = clock }

abbrev pub with_entry : QueueEntry → Book → Book
with_entry e b = record b { entries = b.entries ++ e ∷ [] }

abbrev pub without_entry : Token → Book → Book
without_entry token b = record b { entries = filter (λ e. not (same_key e.token.0 token.0)) b.entries }

abbrev pub without_seen : ItemId → List SeenPath → List SeenPath
without_seen item ps = filter (λ p. not (p.item.0 == item.0)) ps

abbrev pub with_seen : SeenPath → Book → Book
with_seen p b = record b { seen = put_in (λ x y. nat_lt x.item.0 y.item.0) p (without_seen p.item b.seen) }

abbrev pub without_anchor : ItemId → List Anchor → List Anchor
without_anchor item anchors = filter (λ a. not (a.item.0 == item.0)) anchors

-- the number that an item has when it is pushed
abbrev pub with_anchor : ItemId → Usn → Book → Book
with_anchor item number b = record b { anchors = put_in (λ x y. nat_lt x.item.0 y.item.0) (record { item = item; number = number }) (without_anchor item b.anchors) }

abbrev pub with_tombstone : Tombstone → Book → Book
with_tombstone t b = record b { tombstones = put_in (λ x y. above y.number x.number) t b.tombstones }

abbrev pub without_tombstone : Usn → Book → Book
without_tombstone number b = record b { tombstones = filter (λ t. not (same_usn t.number number)) b.tombstones }

-- the clock stays at its greatest value
abbrev pub with_ticks : ℕ → Book → Book
with_ticks ticks b = record b { clock = min 18446744073709551615 (b.clock + ticks) }

abbrev pub without_access : ItemId → List Access → List Access
without_access item accesses = filter (λ a. not (a.item.0 == item.0)) accesses

-- at clock 0 none is kept
abbrev pub put_access : ItemId → ℕ → List Access → List Access
put_access item clock accesses = cond (clock == 0) accesses (put_in (λ x y. nat_lt x.item.0 y.item.0) (record { item = item; clock = clock }) accesses)

-- the file is accessed now
abbrev pub with_access : ItemId → Book → Book
with_access item b = record b { accesses = put_access item b.clock (without_access item b.accesses) }

-- a removed item takes its path seen, its anchor and its access away
abbrev pub book_after : Change → Book → Book
book_after (change.Remove item) b = record b { seen = without_seen item b.seen; anchors = without_anchor item b.anchors; accesses = without_access item b.accesses }
book_after _ b = b

-- how the book stands in a volume: auxiliary records by key, and the numbers of the rows

abbrev pub key_bytes : Key → List ℕ
key_bytes k = in_bytes 4 k.epoch ++ in_bytes 4 k.number

abbrev pub usn_bytes : Usn → List ℕ
usn_bytes n = in_bytes 4 n.epoch ++ in_bytes 4 n.place

abbrev pub action_byte : Action → ℕ
action_byte PutFile = 1
action_byte MakeDir = 2
action_byte MoveItem = 3
action_byte RemoveItem = 4

abbrev pub cursor_records : ℕ → List AuxRecord
cursor_records cursor = when (nat_lt 0 cursor) (record { key = codes "c"; value = in_bytes 8 cursor } ∷ [])

abbrev pub entry_record : QueueEntry → AuxRecord
entry_record e = record {
  key = codes "q" ++ key_bytes e.token.0;
  value = in_bytes 8 e.item.0 ++ action_byte e.action ∷ usn_bytes e.number ++ in_bytes 8 e.rid.0 ++ in_bytes 8 e.parent.0 ++ e.name;
}

abbrev pub seen_record : SeenPath → AuxRecord
seen_record p = record { key = codes "s" ++ in_bytes 8 p.item.0; value = in_bytes 8 p.parent.0 ++ p.name }

abbrev pub tombstone_record : Tombstone → AuxRecord
tombstone_record t = record { key = codes "t" ++ usn_bytes t.number; value = in_bytes 8 t.rid.0 ++ in_bytes 8 t.version.0 }

abbrev pub aux_records : Book → List AuxRecord
aux_records b = cursor_records b.cursor ++ map entry_record b.entries ++ map seen_record b.seen ++ map tombstone_record b.tombstones

-- what a restart tells of the book that it opened
abbrev pub opened_of : Book → OpenedBook
opened_of b = record { records = aux_records b; anchors = b.anchors; clock = b.clock; accesses = b.accesses }
