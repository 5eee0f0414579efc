-- What a pass uploads.
use Rattle.std.specs.Prelude.{ℕ, Bool, true, false, not, cond, List, [], map, Option, Some, None, nat_le, ◌+◌, ◌&&◌, ◌||◌, ◌∷◌, ◌==◌}
use Rattle.std.specs.List.{list_any}
use Rattle.cf_base.specs.declared.answers.Shown.{Shown}
use Rattle.cf_base.specs.declared.answers.Shown.TheVariants as shown
use Rattle.cf_base.specs.declared.changes.Change.TheVariants as change
use Rattle.cf_base.specs.declared.codes.Code.{Code}
use Rattle.cf_base.specs.declared.codes.Code.TheVariants as code
use Rattle.cf_base.specs.declared.ids.ItemId.{ItemId}
use Rattle.cf_base.specs.declared.ids.Token.{Token}
use Rattle.cf_base.specs.declared.ids.Version.{Version}
use Rattle.cf_base.specs.declared.messages.Request.{Request}
use Rattle.cf_base.specs.declared.messages.Request.TheVariants as request
use Rattle.cf_model.specs.Arrows.{Arrow, and_then, choose, each, one, only_if, reading, ret, seq, then_do, unit}
use Rattle.cf_model.specs.Requests.{is_hydrate_wait}
use Rattle.cf_model.specs.Books.{Action, Book, MakeDir, MoveItem, PutFile, QueueEntry, RemoveItem, Tombstone, tombstone_of, with_anchor, with_entry}
use Rattle.cf_model.specs.Callbacks.{calling}
use Rattle.cf_model.specs.Identities.{base_version, is_untargeted, no_identity, parent_target, stands_at_seen, target_of}
use Rattle.cf_model.specs.Items.{Item, bytes_held, is_all_here, is_dirty, item_of}
use Rattle.cf_model.specs.LookUp.{by_depth, is_excluded}
use Rattle.cf_model.specs.Messages.{send}
use Rattle.cf_model.specs.Numbers.{key_after, most, no_item, no_rid}
use Rattle.cf_model.specs.PushReplies.{has_item, has_number, whatever}
use Rattle.cf_model.specs.Skips.{in_book, skip, tried, try_book, try_change, try_mark_now, with_volatile}
use Rattle.cf_model.specs.State.{State, Volatile, book_now, items_now}
use Rattle.cf_model.specs.Waits.{hydrate_file}
use Rattle.cf_model.specs.Words.{first_of, says}

-- one upload

abbrev pub next_token : State → Token
next_token s = record { 0 = key_after s.filter.volume.epoch s.volatile.tokens }

abbrev pub with_token : Volatile → Volatile
with_token v = record v { tokens = v.tokens + 1 }

abbrev pub why_no_token : State → Option Code
why_no_token s = first_of ((nat_le most s.volatile.tokens, code.Exhausted) ∷ [])

-- a token is drawn
abbrev pub try_token : Arrow State Bool
try_token = tried why_no_token (one (with_volatile with_token))

-- the number that the item has now is noted; a removal has no item
abbrev pub anchored : QueueEntry → Book → Book
anchored e b = cond (e.item.0 == 0) b (with_anchor e.item e.number b)

abbrev pub send_if : QueueEntry → Request → Bool → Arrow State (Unit {0})
send_if e q true = then_do (in_book (anchored e)) (send q)
send_if e q false = ret unit

-- the token is drawn, the entry is stored, the number is noted, and after a commit the request is sent
abbrev pub push : QueueEntry → Request → Arrow State (Unit {0})
push e q = seq (and_then try_token (try_book (with_entry e))) (send_if e q)

abbrev pub request_by : Action → QueueEntry → Version → List ℕ → Request
request_by PutFile e expect bytes = request.Put e.token e.rid expect e.parent e.name bytes
request_by MakeDir e expect bytes = request.MakeDir e.token e.parent e.name
request_by MoveItem e expect bytes = request.Move e.token e.rid e.parent e.name
request_by RemoveItem e expect bytes = request.Remove e.token e.rid expect

abbrev pub request_of : QueueEntry → Version → List ℕ → Request
request_of e expect bytes = request_by e.action e expect bytes

-- an entry with the place of the item, or without
abbrev pub placed : Action → Item → State → QueueEntry
placed action i s = record {
  token = next_token s;
  item = i.id;
  action = action;
  number = i.number;
  rid = target_of i;
  parent = parent_target (items_now s) i;
  name = i.name;
}

abbrev pub without_place : QueueEntry → QueueEntry
without_place e = record e { parent = no_rid; name = [] }

abbrev pub without_rid : QueueEntry → QueueEntry
without_rid e = record e { rid = no_rid }

-- a new item has no rid yet; a version of a file has no place
abbrev pub entry_by : Action → Item → State → QueueEntry
entry_by PutFile i s = cond (is_untargeted i) (placed PutFile i s) (without_place (placed PutFile i s))
entry_by MakeDir i s = without_rid (placed MakeDir i s)
entry_by MoveItem i s = placed MoveItem i s
entry_by RemoveItem i s = placed RemoveItem i s

-- a Put carries the bytes of the file, and as the version that it expects that of its base
abbrev pub push_item : Action → Item → Arrow State (Unit {0})
push_item action i s = push (entry_by action i s) (request_of (entry_by action i s) (base_version i) (bytes_held i.held)) s

-- a file is hydrated first

abbrev pub is_hydrating : ItemId → State → Bool
is_hydrating item s = list_any (λ w. is_hydrate_wait w.kind && (w.item.0 == item.0)) s.filter.waiting.waits

-- the wait is a step that may be left out
abbrev pub after_hydrate : Shown → Arrow State (Unit {0})
after_hydrate (shown.Refused code.TooManyWaits) = skip code.TooManyWaits
after_hydrate (shown.Refused code.TooManyAsks) = skip code.TooManyAsks
after_hydrate (shown.Refused code.Exhausted) = skip code.Exhausted
after_hydrate _ = ret unit

abbrev pub hydrate_unless : ItemId → Bool → Arrow State (Unit {0})
hydrate_unless item true = ret unit
hydrate_unless item false = seq (calling (hydrate_file item)) after_hydrate

abbrev pub hydrate_if : ItemId → Bool → Arrow State (Unit {0})
hydrate_if item true = ret unit
hydrate_if item false = reading (is_hydrating item) (hydrate_unless item)

-- a wait is started where a byte is missing and none is live
abbrev pub hydrate_first : Item → Arrow State (Unit {0})
hydrate_first i = hydrate_if i.id (is_all_here i)

abbrev pub item_now : ItemId → State → Option Item
item_now item s = item_of (items_now s) item

abbrev pub put_if : Item → Bool → Arrow State (Unit {0})
put_if i true = push_item PutFile i
put_if i false = ret unit

abbrev pub put_whole : Option Item → Arrow State (Unit {0})
put_whole None = ret unit
put_whole (Some i) = put_if i (is_all_here i)

-- the file is uploaded in this pass where nothing is missing now
abbrev pub put_file : Item → Arrow State (Unit {0})
put_file i = then_do (hydrate_first i) (reading (item_now i.id) put_whole)

abbrev pub upload : Item → Arrow State (Unit {0})
upload i = choose i.directory (push_item MakeDir i) (put_file i)

abbrev pub upload_now : Option Item → Arrow State (Unit {0})
upload_now None = ret unit
upload_now (Some i) = upload i

abbrev pub upload_if : ItemId → Bool → Arrow State (Unit {0})
upload_if item true = reading (item_now item) upload_now
upload_if item false = ret unit

-- an item that is no placeholder becomes one first
abbrev pub upload_new : Item → Arrow State (Unit {0})
upload_new i = seq (only_if (not i.placeholder) (try_change (change.Convert i.id no_identity))) (upload_if i.id)

-- items

abbrev pub mark_item : ItemId → Arrow State (Unit {0})
mark_item item = seq (try_mark_now item) whatever

-- the first case that holds: no target, another path than the one seen, dirty, not in sync
abbrev pub push_by_case : Item → Arrow State (Unit {0})
push_by_case i s =
    choose (is_untargeted i) (upload_new i)
    (choose (not (stands_at_seen (items_now s) (book_now s) i)) (push_item MoveItem i)
    (choose (is_dirty i) (upload i) (mark_item i.id))) s

abbrev pub has_entry : State → ItemId → Bool
has_entry s item = list_any (λ e. e.item.0 == item.0) (book_now s).entries

-- the root, an item with a live entry or held back, an excluded one, and one whose parent has no target
abbrev pub is_left_out : State → Item → Bool
is_left_out s i =
    (i.id.0 == 1) || has_entry s i.id || has_item s.volatile.held_items i.id || is_excluded (items_now s) i.id || ((parent_target (items_now s) i).0 == 0)

abbrev pub push_unless : Item → Bool → Arrow State (Unit {0})
push_unless i true = ret unit
push_unless i false = push_by_case i

abbrev pub push_here : Option Item → Arrow State (Unit {0})
push_here None = ret unit
push_here (Some i) = reading (λ s. is_left_out s i) (push_unless i)

-- each item is judged at its turn
abbrev pub push_turn : ItemId → Arrow State (Unit {0})
push_turn item = reading (item_now item) push_here

-- tombstones

abbrev pub removal_entry : State → Tombstone → QueueEntry
removal_entry s t = record { token = next_token s; item = no_item; action = RemoveItem; number = t.number; rid = t.rid; parent = no_rid; name = [] }

abbrev pub has_rid_entry : State → Tombstone → Bool
has_rid_entry s t = list_any (λ e. e.rid.0 == t.rid.0) (book_now s).entries

-- one that is gone, that has a live entry or that is held back
abbrev pub is_tombstone_left_out : State → Tombstone → Bool
is_tombstone_left_out s t =
    not (says (λ u. u.rid.0 == t.rid.0) (tombstone_of (book_now s) t.number)) || has_rid_entry s t || has_number s.volatile.held_tombstones t.number

abbrev pub push_removal : Tombstone → Arrow State (Unit {0})
push_removal t s = push (removal_entry s t) (request_of (removal_entry s t) t.version []) s

abbrev pub bury_unless : Tombstone → Bool → Arrow State (Unit {0})
bury_unless t true = ret unit
bury_unless t false = push_removal t

abbrev pub push_tombstone : Tombstone → Arrow State (Unit {0})
push_tombstone t = reading (λ s. is_tombstone_left_out s t) (bury_unless t)

-- all of them, as they are when this part begins: tombstones by number, then items by depth and id

abbrev pub push_lists : List Tombstone → List ItemId → Arrow State (Unit {0})
push_lists ts ids = then_do (each push_tombstone ts) (each push_turn ids)

abbrev pub push_all : Arrow State (Unit {0})
push_all s = push_lists (book_now s).tombstones (map (λ i. i.id) (by_depth (items_now s) (items_now s))) s
