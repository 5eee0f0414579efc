-- What the engine reads of the book of a filter.
use Rattle.std.specs.Prelude.{◌==◌, ◌&&◌, ℕ, Bool, not, List, Option}
use Rattle.std.specs.List.{list_any}
use Rattle.cf_base.specs.declared.ids.ItemId.{ItemId}
use Rattle.cf_base.specs.declared.ids.Rid.{Rid}
use Rattle.cf_base.specs.declared.ids.Token.{Token}
use Rattle.cf_base.specs.declared.ids.Usn.{Usn}
use Rattle.cf_base.specs.declared.items.SeenPath.{SeenPath}
use Rattle.cf_engine_queue.specs.Records as queue
use Rattle.cf_model.specs.Books.{Book, QueueEntry, Tombstone, entry_of, seen_of, tombstone_of}
use Rattle.cf_model.specs.PushReplies.{is_new_entry}
use Rattle.cf_model.specs.State.{Filter}
use Rattle.cf_model.specs.Words.{is_empty, same, says}

abbrev pub entry_in : Token → Filter → Option QueueEntry
entry_in token s = entry_of s.volume.book token

abbrev pub seen_in : ItemId → Filter → Option SeenPath
seen_in item s = seen_of s.volume.book item

-- the item was seen under this item of the remote, by this name
abbrev pub is_seen_in : ItemId → Rid → List ℕ → Filter → Bool
is_seen_in item parent name s = says (λ p. (parent.0 == p.parent.0) && same name p.name) (seen_of s.volume.book item)

abbrev pub tombstone_in : Usn → Filter → Option Tombstone
tombstone_in number s = tombstone_of s.volume.book number

-- the clock of the last feed that was applied whole
abbrev pub cursor_in : Filter → ℕ
cursor_in s = s.volume.book.cursor

-- all entries and tombstones
abbrev pub queue_in : Filter → Book
queue_in s = queue.queue_of s.volume.book

-- an upload is on its way, of this local item, to this item of the remote, or of an item that is new there

abbrev pub has_entries_in : Filter → Bool
has_entries_in s = not (is_empty s.volume.book.entries)

abbrev pub has_entry_in : ItemId → Filter → Bool
has_entry_in item s = list_any (λ e. e.item.0 == item.0) s.volume.book.entries

abbrev pub has_target_entry_in : Rid → Filter → Bool
has_target_entry_in rid s = list_any (λ e. e.rid.0 == rid.0) s.volume.book.entries

abbrev pub has_new_entry_in : Filter → Bool
has_new_entry_in s = list_any is_new_entry s.volume.book.entries
