-- Steps of the engine. One that is refused for want of room or of numbers is left out with a line, and the event goes on.
use Rattle.std.specs.Prelude.{ℕ, Bool, true, false, not, List, [], Option, Some, None, is_some, nat_le, nat_lt, ◌+◌, ◌&&◌, ◌∷◌, ◌==◌}
use Rattle.cf_base.specs.declared.changes.Change.{Change}
use Rattle.cf_base.specs.declared.changes.Change.TheVariants as change
use Rattle.cf_base.specs.declared.codes.Code.{Code}
use Rattle.cf_base.specs.declared.codes.Code.TheVariants as code
use Rattle.cf_base.specs.declared.ids.ItemId.{ItemId}
use Rattle.cf_base.specs.declared.ids.Usn.{Usn}
use Rattle.cf_base.specs.declared.items.SeenPath.{SeenPath}
use Rattle.cf_base.specs.declared.limits.TheConstants.{MOST_PATH_NAMES}
use Rattle.cf_base.specs.declared.notices.Notice.TheVariants as notice
use Rattle.cf_model.specs.Arrows.{Arrow, attempt, noted, one, only_if, reading, ret, seq}
use Rattle.cf_model.specs.Books.{Book, with_cursor, with_seen}
use Rattle.cf_model.specs.Changes.{change as put, why_no_room}
use Rattle.cf_model.specs.ConflictNames.{conflict_name}
use Rattle.cf_model.specs.Identities.{is_untargeted, stands_at_seen}
use Rattle.cf_model.specs.Images.{table_full}
use Rattle.cf_model.specs.Items.{Item, is_dirty, item_of}
use Rattle.cf_model.specs.LookUp.{child_of, depth_at, height_at}
use Rattle.cf_model.specs.Dehydration.{in_use as is_used}
use Rattle.cf_model.specs.Numbers.{no_usn, same_usn}
use Rattle.cf_model.specs.State.{State, Volatile, Volume, book_now, in_filter, items_now, note, with_filter, with_volume}
use Rattle.cf_model.specs.Words.{first_of, part, says}

-- a step is left out, with a line where such lines stand
abbrev pub skip_line : Bool → Code → State → State
skip_line true c s = note (notice.Skipped c) s
skip_line false c s = s

abbrev pub skipped : Code → State → State
skipped c s = skip_line s.running.shows_skips c (record s { running = record s.running { skips = s.running.skips + 1 } })

abbrev pub skip : Code → Arrow State (Unit {0})
skip c = noted (skipped c)

-- whether the step was done
abbrev pub not_done : Unit {0} → Arrow State Bool
not_done u = ret false

abbrev pub left_out : Option Code → Arrow State Bool
left_out None = ret true
left_out (Some c) = seq (skip c) not_done

-- the step, or the line that it is left out; whether it was done
abbrev pub tried : (State → Option Code) → Arrow State (Unit {0}) → Arrow State Bool
tried why f = seq (attempt why f) left_out

-- a handle is open on the item, or a wait on it is live
abbrev pub in_use : State → ItemId → Bool
in_use s item = is_used item s.filter

-- changes

abbrev pub is_too_deep : List Item → Change → Bool
is_too_deep items (change.Make item parent name kind size identity) = nat_le MOST_PATH_NAMES (depth_at items parent)
is_too_deep items (change.Copy item from parent name) = nat_le MOST_PATH_NAMES (depth_at items parent)
is_too_deep items (change.Move item parent name) = nat_lt MOST_PATH_NAMES (depth_at items parent + 1 + height_at items item)
is_too_deep items _ = false

abbrev pub or_else : Option Code → Option Code → Option Code
or_else (Some c) d = Some c
or_else None d = d

-- why a change is left out, in order: TooDeep, Exhausted, TableFull, Full
abbrev pub change_refused : Change → Volume → Option Code
change_refused c v = or_else (first_of ((is_too_deep v.items c, code.TooDeep) ∷ [])) (why_no_room (c ∷ []) v)

abbrev pub why_no_change : Change → State → Option Code
why_no_change c s = change_refused c s.filter.volume

abbrev pub do_change : Change → Arrow State (Unit {0})
do_change c = in_filter (put c)

abbrev pub try_change : Change → Arrow State Bool
try_change c = tried (why_no_change c) (do_change c)

-- records of the book

abbrev pub with_book : (Book → Book) → State → State
with_book f s = with_filter (with_volume (record s.filter.volume { book = f s.filter.volume.book }) s.filter) s

-- a record that goes, or that takes no room, is never refused
abbrev pub in_book : (Book → Book) → Arrow State (Unit {0})
in_book f = one (with_book f)

abbrev pub why_no_record : (Book → Book) → State → Option Code
why_no_record f s = first_of ((table_full (items_now s) (f (book_now s)), code.TableFull) ∷ [])

abbrev pub try_book : (Book → Book) → Arrow State Bool
try_book f = tried (why_no_record f) (in_book f)

-- no path seen is made for an item that is gone
abbrev pub is_there : ItemId → State → Bool
is_there item s = is_some (item_of (items_now s) item)

abbrev pub seen_if : SeenPath → Bool → Arrow State Bool
seen_if p here = only_if here (try_book (with_seen p))

abbrev pub try_seen : SeenPath → Arrow State Bool
try_seen p = reading (is_there p.item) (seen_if p)

abbrev pub is_cursor : ℕ → State → Bool
is_cursor clock s = (book_now s).cursor == clock

abbrev pub cursor_unless : ℕ → Bool → Arrow State Bool
cursor_unless clock is_so = only_if (not is_so) (try_book (with_cursor clock))

-- setting the cursor to what it is is no step; 0 always fits
abbrev pub try_cursor : ℕ → Arrow State Bool
try_cursor clock = reading (is_cursor clock) (cursor_unless clock)

-- what is kept until the volume is opened again

abbrev pub with_volatile : (Volatile → Volatile) → State → State
with_volatile f s = record s { volatile = f s.volatile }

abbrev pub in_volatile : (Volatile → Volatile) → Arrow State (Unit {0})
in_volatile f = noted (with_volatile f)

-- marks

-- the item has this number, is not in sync and not dirty, has a target and stands at the path seen
abbrev pub may_mark : List Item → Book → Usn → Item → Bool
may_mark items b number i = same_usn i.number number && not i.in_sync && not (is_dirty i) && not (is_untargeted i) && stands_at_seen items b i

abbrev pub is_markable : ItemId → Usn → State → Bool
is_markable item number s = says (may_mark (items_now s) (book_now s) number) (item_of (items_now s) item)

abbrev pub mark_if : ItemId → Usn → Bool → Arrow State Bool
mark_if item number may = only_if may (try_change (change.Mark item number))

-- marked at this number, where it may be
abbrev pub try_mark : ItemId → Usn → Arrow State Bool
try_mark item number = reading (is_markable item number) (mark_if item number)

abbrev pub number_of_item : ItemId → State → Usn
number_of_item item s = part (λ i. i.number) no_usn (item_of (items_now s) item)

-- marked at the number that it has
abbrev pub try_mark_now : ItemId → Arrow State Bool
try_mark_now item = reading (number_of_item item) (try_mark item)

-- names

abbrev pub if_other : ItemId → Item → Option Item
if_other but i = elim (i.id.0 == but.0) as (λ _. Option Item) [ true ↦ None | false ↦ Some i ]

-- whoever stands at the name, but for one item
abbrev pub occupant : ItemId → List ℕ → ItemId → State → Option Item
occupant parent name but s = part (if_other but) None (child_of (items_now s) parent name)

-- a move of an item to the conflict name in its directory
abbrev pub conflict_move : List Item → Item → Change
conflict_move items i = change.Move i.id i.parent (conflict_name items i.parent i.name)

abbrev pub to_conflict : Item → Arrow State Bool
to_conflict i s = try_change (conflict_move (items_now s) i) s

abbrev pub move_off : Option Item → Arrow State Bool
move_off None = ret true
move_off (Some i) = to_conflict i

-- whoever stands at the name, but for one item, is moved to its conflict name
abbrev pub try_clear_name : ItemId → List ℕ → ItemId → Arrow State Bool
try_clear_name parent name but = reading (occupant parent name but) move_off
