-- What a reply to an upload does.
use Rattle.std.specs.Prelude.{Bool, true, false, not, cond, List, filter, Option, Some, None, ◌∷◌, ◌==◌}
use Rattle.std.specs.List.{list_any}
use Rattle.cf_base.specs.declared.changes.Change.{Change}
use Rattle.cf_base.specs.declared.changes.Change.TheVariants as change
use Rattle.cf_base.specs.declared.codes.Code.{Code}
use Rattle.cf_base.specs.declared.codes.Code.TheVariants as code
use Rattle.cf_base.specs.declared.ids.ItemId.{ItemId}
use Rattle.cf_base.specs.declared.ids.Rid.{Rid}
use Rattle.cf_base.specs.declared.ids.Usn.{Usn}
use Rattle.cf_base.specs.declared.ids.Version.{Version}
use Rattle.cf_base.specs.declared.items.SeenPath.{SeenPath}
use Rattle.cf_base.specs.declared.messages.Why.{Why}
use Rattle.cf_base.specs.declared.messages.Why.TheVariants as why
use Rattle.cf_model.specs.Arrows.{Arrow, and_then, only_if, reading, ret, seq, then_do, unit}
use Rattle.cf_model.specs.Books.{Action, MakeDir, MoveItem, PutFile, QueueEntry, RemoveItem, Tombstone, tombstone_of, with_cursor, with_tombstone, without_entry, without_tombstone}
use Rattle.cf_model.specs.Identities.{identity_for}
use Rattle.cf_model.specs.Items.{Item, item_of, size_of}
use Rattle.cf_model.specs.Numbers.{no_version, same_usn}
use Rattle.cf_model.specs.Skips.{change_refused, do_change, in_book, in_volatile, is_cursor, skip, to_conflict, try_book, try_mark, try_seen, with_book}
use Rattle.cf_model.specs.State.{State, Volatile, book_now, items_now}
use Rattle.cf_model.specs.Words.{says}

-- entries

abbrev pub is_removal_by : Action → Bool
is_removal_by PutFile = false
is_removal_by MakeDir = false
is_removal_by MoveItem = false
is_removal_by RemoveItem = true

abbrev pub is_removal : QueueEntry → Bool
is_removal e = is_removal_by e.action

abbrev pub is_new_by : Action → Rid → Bool
is_new_by PutFile rid = rid.0 == 0
is_new_by MakeDir rid = true
is_new_by MoveItem rid = false
is_new_by RemoveItem rid = false

-- the entry makes a new item of the remote
abbrev pub is_new_entry : QueueEntry → Bool
is_new_entry e = is_new_by e.action e.rid

abbrev pub end_entry : QueueEntry → Arrow State (Unit {0})
end_entry e = in_book (without_entry e.token)

-- what is kept until a restart

-- a reply to a feed or to an upload was taken: a feed that was asked for before it counts no more
abbrev pub round_closed : Volatile → Volatile
round_closed v = record v { round_open = false }

abbrev pub has_item : List ItemId → ItemId → Bool
has_item items item = list_any (λ i. i.0 == item.0) items

abbrev pub has_number : List Usn → Usn → Bool
has_number numbers number = list_any (same_usn number) numbers

abbrev pub without_item : ItemId → List ItemId → List ItemId
without_item item items = filter (λ i. not (i.0 == item.0)) items

abbrev pub without_number : Usn → List Usn → List Usn
without_number number numbers = filter (λ n. not (same_usn number n)) numbers

-- the count of refusals in a row of the entry's item or tombstone becomes 0
abbrev pub not_in_row : QueueEntry → Volatile → Volatile
not_in_row e v = cond (is_removal e)
    (record v { not_empty = without_number e.number v.not_empty })
    (record v { taken_names = without_item e.item v.taken_names })

-- the item or the tombstone is held back until a feed has been applied
abbrev pub held_back : QueueEntry → Volatile → Volatile
held_back e v = cond (is_removal e)
    (record v { held_tombstones = e.number ∷ v.held_tombstones })
    (record v { held_items = e.item ∷ v.held_items })

-- Done and Void

abbrev pub taken_from_row : QueueEntry → Volatile → Volatile
taken_from_row e v = not_in_row e (round_closed v)

abbrev pub end_and_close : QueueEntry → Arrow State (Unit {0})
end_and_close e = then_do (end_entry e) (in_volatile (taken_from_row e))

abbrev pub with_done : State → State
with_done s = record s { running = record s.running { took_done = true } }

-- Done ends the entry
abbrev pub take : QueueEntry → Arrow State (Unit {0})
take e s = end_and_close e (with_done s)

abbrev pub whatever : Bool → Arrow State (Unit {0})
whatever done = ret unit

-- the base takes the writes up to the entry's number in
abbrev pub rebase_of : QueueEntry → Rid → Version → Item → Change
rebase_of e rid version i = change.Rebase i.id (identity_for i.directory rid version) (size_of i) e.number

abbrev pub entry_seen : QueueEntry → SeenPath
entry_seen e = record { item = e.item; parent = e.parent; name = e.name }

-- a new item's path is seen; then it is marked where it may be
abbrev pub see_and_mark : QueueEntry → Arrow State (Unit {0})
see_and_mark e = seq (and_then (only_if (is_new_entry e) (try_seen (entry_seen e))) (try_mark e.item e.number)) whatever

-- why the Rebase is refused, the record of the entry gone already
abbrev pub why_no_rebase : QueueEntry → Change → State → Option Code
why_no_rebase e c s = change_refused c (with_book (without_entry e.token) s).filter.volume

-- where it is refused nothing is done but the line, and the entry stays live
abbrev pub rebase_unless : QueueEntry → Change → Option Code → Arrow State (Unit {0})
rebase_unless e c (Some code) = skip code
rebase_unless e c None = then_do (take e) (then_do (do_change c) (see_and_mark e))

abbrev pub rebase : QueueEntry → Change → Arrow State (Unit {0})
rebase e c = reading (why_no_rebase e c) (rebase_unless e c)

-- a new directory has no version
abbrev pub version_made : Action → Version → Version
version_made MakeDir version = no_version
version_made _ version = version

-- the item is gone: of a new one a tombstone is left
abbrev pub tombstone_left : QueueEntry → Rid → Version → Tombstone
tombstone_left e rid version = record { number = e.number; rid = rid; version = version_made e.action version }

abbrev pub bury_new : QueueEntry → Rid → Version → Arrow State (Unit {0})
bury_new e rid version = then_do (take e) (seq (only_if (is_new_entry e) (try_book (with_tombstone (tombstone_left e rid version)))) whatever)

abbrev pub item_of_entry : QueueEntry → State → Option Item
item_of_entry e s = item_of (items_now s) e.item

abbrev pub done_upload_on : QueueEntry → Rid → Version → Option Item → Arrow State (Unit {0})
done_upload_on e rid version (Some i) = rebase e (rebase_of e rid version i)
done_upload_on e rid version None = bury_new e rid version

abbrev pub done_upload : QueueEntry → Rid → Version → Arrow State (Unit {0})
done_upload e rid version = reading (item_of_entry e) (done_upload_on e rid version)

abbrev pub done_move : QueueEntry → Arrow State (Unit {0})
done_move e = then_do (take e) (seq (and_then (try_seen (entry_seen e)) (try_mark e.item e.number)) whatever)

-- the cursor becomes 0, where it is not: all is fed again
abbrev pub cursor_reset_if : Bool → Arrow State (Unit {0})
cursor_reset_if true = ret unit
cursor_reset_if false = in_book (with_cursor 0)

abbrev pub reset_cursor : Arrow State (Unit {0})
reset_cursor = reading (is_cursor 0) cursor_reset_if

-- the tombstone is of a directory: entries below it may have had no case
abbrev pub was_directory : QueueEntry → State → Bool
was_directory e s = says (λ t. t.version.0 == 0) (tombstone_of (book_now s) e.number)

abbrev pub reset_if : Bool → Arrow State (Unit {0})
reset_if true = reset_cursor
reset_if false = ret unit

-- the cursor first: with a directory's tombstone nothing is said of what it has passed
abbrev pub end_tombstone : QueueEntry → Bool → Arrow State (Unit {0})
end_tombstone e directory = then_do (reset_if directory) (in_book (without_tombstone e.number))

abbrev pub done_removal : QueueEntry → Arrow State (Unit {0})
done_removal e = then_do (take e) (reading (was_directory e) (end_tombstone e))

abbrev pub done_by : Action → QueueEntry → Rid → Version → Arrow State (Unit {0})
done_by PutFile e rid version = done_upload e rid version
done_by MakeDir e rid version = done_upload e rid version
done_by MoveItem e rid version = done_move e
done_by RemoveItem e rid version = done_removal e

abbrev pub take_done : QueueEntry → Rid → Version → Arrow State (Unit {0})
take_done e rid version = done_by e.action e rid version

-- Void: the remote has not done it, and never will
abbrev pub take_void : QueueEntry → Arrow State (Unit {0})
take_void e = end_and_close e

-- Refused

abbrev pub drop_if : Bool → QueueEntry → Arrow State (Unit {0})
drop_if true e = in_book (without_tombstone e.number)
drop_if false e = ret unit

-- the remote knows better: all is fed again, and a tombstone is dropped
abbrev pub lost_place : QueueEntry → Arrow State (Unit {0})
lost_place e = then_do (in_volatile (not_in_row e)) (then_do reset_cursor (drop_if (is_removal e) e))

abbrev pub move_away : Option Item → Arrow State (Unit {0})
move_away None = ret unit
move_away (Some i) = seq (to_conflict i) whatever

abbrev pub name_taken_again : QueueEntry → Arrow State (Unit {0})
name_taken_again e = then_do (in_volatile (not_in_row e)) (reading (item_of_entry e) move_away)

abbrev pub with_taken_name : ItemId → Volatile → Volatile
with_taken_name item v = record v { taken_names = item ∷ v.taken_names }

abbrev pub with_not_empty : Usn → Volatile → Volatile
with_not_empty number v = record v { not_empty = number ∷ v.not_empty }

abbrev pub was_name_taken : ItemId → State → Bool
was_name_taken item s = has_item s.volatile.taken_names item

abbrev pub was_not_empty : Usn → State → Bool
was_not_empty number s = has_number s.volatile.not_empty number

-- the second time in a row the item moves to its conflict name
abbrev pub name_taken_by : QueueEntry → Bool → Arrow State (Unit {0})
name_taken_by e true = name_taken_again e
name_taken_by e false = in_volatile (with_taken_name e.item)

-- the second time in a row the tombstone is dropped
abbrev pub not_empty_by : QueueEntry → Bool → Arrow State (Unit {0})
not_empty_by e true = lost_place e
not_empty_by e false = in_volatile (with_not_empty e.number)

abbrev pub nothing_further : QueueEntry → Arrow State (Unit {0})
nothing_further e = in_volatile (not_in_row e)

-- a name can be taken for an item, and a directory not empty for a tombstone
abbrev pub name_taken : Bool → QueueEntry → Arrow State (Unit {0})
name_taken true e = nothing_further e
name_taken false e = reading (was_name_taken e.item) (name_taken_by e)

abbrev pub not_empty : Bool → QueueEntry → Arrow State (Unit {0})
not_empty true e = reading (was_not_empty e.number) (not_empty_by e)
not_empty false e = nothing_further e

abbrev pub by_why : Why → QueueEntry → Arrow State (Unit {0})
by_why why.Conflict e = lost_place e
by_why why.NotThere e = lost_place e
by_why why.NameTaken e = name_taken (is_removal e) e
by_why why.NotEmpty e = not_empty (is_removal e) e
by_why why.Quota e = then_do (nothing_further e) (skip code.Quota)
by_why why.Loop e = nothing_further e
by_why why.BadName e = nothing_further e
by_why why.TooDeep e = nothing_further e
by_why why.TooLarge e = nothing_further e

abbrev pub held_and_closed : QueueEntry → Volatile → Volatile
held_and_closed e v = held_back e (round_closed v)

-- Refused ends the entry, closes the round and holds the item or the tombstone back
abbrev pub take_refused : QueueEntry → Why → Arrow State (Unit {0})
take_refused e w = then_do (end_entry e) (then_do (in_volatile (held_and_closed e)) (by_why w e))
