-- What an agreement up to the cursor lacks, as it computes: which clauses lapse of a remote, the items and a book.
use Rattle.std.specs.Prelude.{Bool, true, false, not, cond, List, [], length, take, is_some, unwrap_or, nat_lt, nat_le, ◌&&◌, ◌||◌, ◌∷◌, ◌++◌, ◌==◌}
use Rattle.std.specs.Bool.{beq}
use Rattle.std.specs.List.{list_all, list_any, flat_map}
use Rattle.cf_base.specs.declared.ids.Version.{Version}
use Rattle.cf_base.specs.declared.items.SeenPath.{SeenPath}
use Rattle.cf_model.specs.Books.{Action, Book, MakeDir, MoveItem, PutFile, QueueEntry, RemoveItem, Tombstone, seen_of, tombstone_of}
use Rattle.cf_model.specs.Identities.{base_bytes, base_rid, base_version, has_target, is_untargeted, target_of}
use Rattle.cf_model.specs.Items.{Item, is_all_here, item_of}
use Rattle.cf_model.specs.Logs.{items_of}
use Rattle.cf_model.specs.LookUp.{children}
use Rattle.cf_model.specs.Numbers.{same_usn}
use Rattle.cf_model.specs.PushReplies.{is_new_entry, is_removal}
use Rattle.cf_model.specs.State.{State, book_now, items_now}
use Rattle.cf_model.specs.Store.{Held, Recorded, RecordedDone, RecordedVoid, Stored, latest, recorded_at, stored_at}
use Rattle.cf_model.specs.Words.{is_empty, part, same, says}

pub data Clause : Type 0 where
  Cursor Targets Kinds Bases PassedKnown PassedHere Populated Entries Tombstones Holes : Clause

-- the cursor is a time that the remote has had
abbrev pub is_cursor_early : Held → Book → Bool
is_cursor_early r b = nat_le b.cursor r.clock

abbrev pub are_targets_apart : List Item → Bool
are_targets_apart [] = true
are_targets_apart (i ∷ is) = list_all (λ j. is_untargeted j || not ((target_of i).0 == (target_of j).0)) is && are_targets_apart is

-- each target is an item of the remote, only the root's is its root, and no two are one
abbrev pub are_targets_right : Held → List Item → Bool
are_targets_right r items =
    list_all (λ i. is_untargeted i || is_some (stored_at r.items (target_of i))) items && list_all (λ i. (i.id.0 == 1) || not ((target_of i).0 == 1)) items && are_targets_apart items

-- of an item with a target
abbrev pub of_target : Held → (Item → Stored → Bool) → Item → Bool
of_target r f i = is_untargeted i || says (f i) (stored_at r.items (target_of i))

abbrev pub is_base_right : Item → Stored → Bool
is_base_right i s = i.directory || (((base_rid i).0 == s.rid.0) && nat_le 1 (base_version i).0 && nat_le (base_version i).0 (latest s))

abbrev pub is_seen_right : Book → Item → Stored → Bool
is_seen_right b i s = part (λ (p : SeenPath). (p.parent.0 == s.parent.0) && same p.name s.name) true (seen_of b i.id)

-- a target that the cursor has passed is live, a file has its latest version, and a path that is seen is its
abbrev pub is_known : Book → Item → Stored → Bool
is_known b i s = (i.id.0 == 1) || nat_lt b.cursor s.changed || (s.live && (i.directory || ((base_version i).0 == latest s)) && is_seen_right b i s)

-- a live item that the cursor has passed is here, or was removed here
abbrev pub is_here : List Item → Book → Stored → Bool
is_here items b s = (s.rid.0 == 1) || not s.live || nat_lt b.cursor s.changed || list_any (λ i. has_target i s.rid) items || list_any (λ t. t.rid.0 == s.rid.0) b.tombstones

abbrev pub are_all_here : Held → List Item → Book → Bool
are_all_here r items b = list_any (λ t. t.version.0 == 0) b.tombstones || list_all (is_here items b) r.items

-- entries

abbrev pub are_apart : List QueueEntry → Bool
are_apart [] = true
are_apart (e ∷ es) = list_all (λ d. (e.item.0 == 0) || not (d.item.0 == e.item.0)) es && are_apart es

abbrev pub is_dir_of : Action → Bool
is_dir_of MakeDir = true
is_dir_of _ = false

-- a new entry's item has no target, the item of another has the entry's
abbrev pub is_entry_of : QueueEntry → Item → Bool
is_entry_of e i = cond (is_new_entry e) (is_untargeted i && i.placeholder && beq i.directory (is_dir_of e.action)) ((target_of i).0 == e.rid.0)

abbrev pub is_version_of : QueueEntry → Version → Stored → Bool
is_version_of e version s = elim e.action as (λ _. Bool) [
  | PutFile ↦ not s.directory && nat_le 1 version.0 && nat_le version.0 (latest s)
  | MakeDir ↦ s.directory
  | MoveItem ↦ true
  | RemoveItem ↦ not s.live
]

-- What the remote did of an upload, it did after the cursor: to the entry's item, or it made one that is not here.
abbrev pub is_done_right : Held → List Item → Book → QueueEntry → Recorded → Bool
is_done_right r items b e RecordedVoid = true
is_done_right r items b e (RecordedDone rid version) =
    says (λ s. nat_lt b.cursor s.changed && is_version_of e version s) (stored_at r.items rid) && cond (is_new_entry e) (not (list_any (λ i. has_target i rid) items)) (rid.0 == e.rid.0)

abbrev pub is_entry_right : Held → List Item → Book → QueueEntry → Bool
is_entry_right r items b e =
    part (is_entry_of e) true (item_of items e.item) && (not (is_removal e) || part (λ (t : Tombstone). t.rid.0 == e.rid.0) true (tombstone_of b e.number))
    && part (is_done_right r items b e) true (recorded_at r.tokens e.token)

-- tombstones

abbrev pub are_numbered_apart : List Tombstone → Bool
are_numbered_apart [] = true
are_numbered_apart (t ∷ ts) = list_all (λ u. not (same_usn t.number u.number)) ts && are_numbered_apart ts

abbrev pub is_tombstone_right : Held → Tombstone → Bool
is_tombstone_right r t = nat_lt 1 t.rid.0 && says (λ s. beq s.directory (t.version.0 == 0)) (stored_at r.items t.rid)

-- a file that lacks a byte is a placeholder as long as its base; an unpopulated directory has a target and no child
abbrev pub is_hole_right : Held → List Item → Item → Bool
is_hole_right r items i =
    cond i.directory (i.populated || (not (is_untargeted i) && is_empty (children items i.id))) (is_all_here i || (i.placeholder && (unwrap_or i.base 0 == length (base_bytes r i))))

abbrev pub unless : Bool → Clause → List Clause
unless ok c = cond ok [] (c ∷ [])

-- the flag: no policy let a directory be populated only when it is listed
abbrev pub lapses : Bool → Held → List Item → Book → List Clause
lapses populated r items b =
    unless (is_cursor_early r b) Cursor ++ unless (are_targets_right r items) Targets ++ unless (list_all (of_target r (λ i s. beq s.directory i.directory)) items) Kinds
    ++ unless (list_all (of_target r is_base_right) items) Bases ++ unless (list_all (of_target r (is_known b)) items) PassedKnown ++ unless (not populated || are_all_here r items b) PassedHere
    ++ unless (not populated || list_all (λ i. not i.directory || i.populated) items) Populated ++ unless (are_apart b.entries && list_all (is_entry_right r items b) b.entries) Entries
    ++ unless (are_numbered_apart b.tombstones && list_all (is_tombstone_right r) b.tombstones) Tombstones ++ unless (list_all (is_hole_right r items) items) Holes

-- now, and of each point that a restart may open
abbrev pub lapses_in : Bool → State → List Clause
lapses_in populated s =
    lapses populated s.link.remote (items_now s) (book_now s) ++ flat_map (λ p. lapses populated s.link.remote (items_of (take p.count s.filter.volume.log)) p.book) s.filter.volume.points
