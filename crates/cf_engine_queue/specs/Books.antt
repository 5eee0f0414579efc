-- Uploads and removals as the definitions have them, and the book of which they are a part.
use Rattle.std.specs.Prelude.{◌≡◌, ℕ, false, List, map, not}
use Rattle.std.specs.List.{AllByRecursion}
use Rattle.cf_base.specs.declared.items.SeenPath.{SeenPath}
use Rattle.cf_model.specs.Books as model
use Rattle.cf_model.specs.Books.{Book, MakeDir, MoveItem, PutFile, RemoveItem, no_book}
use Rattle.cf_model.specs.Words.{put_in}
use Rattle.cf_engine_queue.specs.Order.{is_above}
use Rattle.cf_engine_queue.specs.declared.uploads.Action.{Action}
use Rattle.cf_engine_queue.specs.declared.uploads.Action.TheVariants as action
use Rattle.cf_engine_queue.specs.declared.uploads.QueueEntry.{QueueEntry}
use Rattle.cf_engine_queue.specs.declared.uploads.Tombstone.{Tombstone}

abbrev pub action_of : Action → model.Action
action_of action.Put = PutFile
action_of action.MakeDir = MakeDir
action_of action.Move = MoveItem
action_of action.Remove = RemoveItem

abbrev pub entry_value : QueueEntry → model.QueueEntry
entry_value e = record { token = e.token; item = e.item; action = action_of e.action; number = e.number; rid = e.rid; parent = e.parent; name = e.name }

abbrev pub tombstone_value : Tombstone → model.Tombstone
tombstone_value t = record { number = t.number; rid = t.rid; version = t.version }

-- a book that has these entries and tombstones, and nothing else
abbrev pub book_of : List QueueEntry → List Tombstone → Book
book_of es ts = record no_book { entries = map entry_value es; tombstones = map tombstone_value ts }

-- where uploads, removals and paths seen stand: by token, by number, by item

abbrev pub entry_rank : QueueEntry → ℕ × ℕ
entry_rank e = (e.token.0.epoch, e.token.0.number)

abbrev pub tombstone_rank : Tombstone → ℕ × ℕ
tombstone_rank t = (t.number.epoch, t.number.place)

abbrev pub token_rank : model.QueueEntry → ℕ × ℕ
token_rank e = (e.token.0.epoch, e.token.0.number)

abbrev pub number_rank : model.Tombstone → ℕ × ℕ
number_rank t = (t.number.epoch, t.number.place)

abbrev pub path_rank : SeenPath → ℕ × ℕ
path_rank p = (0, p.item.0)

-- the book with this entry in its place, behind those whose tokens are not above its own
abbrev pub added : model.QueueEntry → Book → Book
added e b = record b { entries = put_in (λ x y. not (is_above (token_rank x) (token_rank y))) e b.entries }

-- no token is above that of the entry, so that its place is the last
abbrev pub ComesLast : model.QueueEntry → Book → Type 0
ComesLast e b = AllByRecursion (λ x. is_above (token_rank x) (token_rank e) ≡ false) b.entries

-- a book that has the entries of this one, and nothing else
abbrev pub uploads_of : Book → Book
uploads_of b = record no_book { entries = b.entries }

-- and one that has its tombstones, and nothing else
abbrev pub removals_of : Book → Book
removals_of b = record no_book { tombstones = b.tombstones }
