-- What the parts of `Skips` keep, each by what its own parts keep.
use Rattle.std.specs.Prelude.{ℕ, Bool, true, false, not, List, Option, Some, None}
use Rattle.cf_base.specs.declared.changes.Change.{Change}
use Rattle.cf_base.specs.declared.changes.Change.TheVariants as change
use Rattle.cf_base.specs.declared.codes.Code.{Code}
use Rattle.cf_base.specs.declared.ids.ItemId.{ItemId}
use Rattle.cf_base.specs.declared.ids.Usn.{Usn}
use Rattle.cf_base.specs.declared.items.SeenPath.{SeenPath}
use Rattle.cf_model.specs.Arrows.{Arrow, attempt}
use Rattle.cf_model.specs.Books.{Book, with_cursor, with_seen}
use Rattle.cf_model.specs.Changes.{change as put}
use Rattle.cf_model.specs.Items.{Item}
use Rattle.cf_model.specs.State.{State, items_now, with_filter}
use Rattle.cf_model.specs.Skips.{conflict_move, cursor_unless, do_change, in_book, is_cursor, is_markable, is_there, left_out, mark_if, move_off, not_done, number_of_item, occupant, seen_if, skip, skipped, to_conflict, tried, try_book, try_change, try_clear_name, try_cursor, try_mark, try_mark_now, try_seen, why_no_change, why_no_record, with_book}
use Rattle.cf_model.proofs.Closed.{Closed}
use Rattle.cf_model.proofs.ArrowLaws.{keeps_attempt, keeps_lifted, keeps_noted, keeps_one, keeps_only_if, keeps_reading, keeps_ret, keeps_seq}
use Rattle.cf_model.specs.Arrows.{Preserves}
use Rattle.cf_model.specs.Changes.{same_book}

pub skip_keeps : (P : State → Type 0) → Closed P → (x1 : Code) → Preserves P (skip x1)
skip_keeps P closed c = keeps_noted P (skipped c) (closed.keeps_skipped c)

pub not_done_keeps : (P : State → Type 0) → Closed P → (x1 : Unit {0}) → Preserves P (not_done x1)
not_done_keeps P closed u = keeps_ret P false

pub left_out_keeps : (P : State → Type 0) → Closed P → (x1 : Option Code) → Preserves P (left_out x1)
left_out_keeps P closed None = keeps_ret P true
left_out_keeps P closed (Some c) = keeps_seq P (skip c) not_done (skip_keeps P closed c) (not_done_keeps P closed)

pub tried_keeps : (P : State → Type 0) → Closed P → (x1 : (State → Option Code)) → (x2 : Arrow State (Unit {0})) → (Preserves P (x2)) → Preserves P (tried x1 x2)
tried_keeps P closed why f f_keeps = keeps_seq P (attempt why f) left_out (keeps_attempt P why f f_keeps) (left_out_keeps P closed)

pub do_change_keeps : (P : State → Type 0) → Closed P → (x1 : Change) → Preserves P (do_change x1)
do_change_keeps P closed c = keeps_lifted P (λ s. s.filter) with_filter (put c) (λ t i. i) (λ t1 i2. ((closed.on_filter t1 i2).change same_book c))

pub try_change_keeps : (P : State → Type 0) → Closed P → (x1 : Change) → Preserves P (try_change x1)
try_change_keeps P closed c = tried_keeps P closed (why_no_change c) (do_change c) (do_change_keeps P closed c)

pub in_book_keeps : (P : State → Type 0) → Closed P → (x1 : (Book → Book)) → Preserves P (in_book x1)
in_book_keeps P closed f = keeps_one P (with_book f) (closed.keeps_with_book f)

pub try_book_keeps : (P : State → Type 0) → Closed P → (x1 : (Book → Book)) → Preserves P (try_book x1)
try_book_keeps P closed f = tried_keeps P closed (why_no_record f) (in_book f) (in_book_keeps P closed f)

pub seen_if_keeps : (P : State → Type 0) → Closed P → (x1 : SeenPath) → (x2 : Bool) → Preserves P (seen_if x1 x2)
seen_if_keeps P closed p here = keeps_only_if P here (try_book (with_seen p)) (try_book_keeps P closed (with_seen p))

pub try_seen_keeps : (P : State → Type 0) → Closed P → (x1 : SeenPath) → Preserves P (try_seen x1)
try_seen_keeps P closed p = keeps_reading P (is_there p.item) (seen_if p) (seen_if_keeps P closed p)

pub cursor_unless_keeps : (P : State → Type 0) → Closed P → (x1 : ℕ) → (x2 : Bool) → Preserves P (cursor_unless x1 x2)
cursor_unless_keeps P closed clock is_so = keeps_only_if P (not is_so) (try_book (with_cursor clock)) (try_book_keeps P closed (with_cursor clock))

pub try_cursor_keeps : (P : State → Type 0) → Closed P → (x1 : ℕ) → Preserves P (try_cursor x1)
try_cursor_keeps P closed clock = keeps_reading P (is_cursor clock) (cursor_unless clock) (cursor_unless_keeps P closed clock)

pub mark_if_keeps : (P : State → Type 0) → Closed P → (x1 : ItemId) → (x2 : Usn) → (x3 : Bool) → Preserves P (mark_if x1 x2 x3)
mark_if_keeps P closed item number may = keeps_only_if P may (try_change (change.Mark item number)) (try_change_keeps P closed (change.Mark item number))

pub try_mark_keeps : (P : State → Type 0) → Closed P → (x1 : ItemId) → (x2 : Usn) → Preserves P (try_mark x1 x2)
try_mark_keeps P closed item number = keeps_reading P (is_markable item number) (mark_if item number) (mark_if_keeps P closed item number)

pub try_mark_now_keeps : (P : State → Type 0) → Closed P → (x1 : ItemId) → Preserves P (try_mark_now x1)
try_mark_now_keeps P closed item = keeps_reading P (number_of_item item) (try_mark item) (try_mark_keeps P closed item)

pub to_conflict_keeps : (P : State → Type 0) → Closed P → (x1 : Item) → Preserves P (to_conflict x1)
to_conflict_keeps P closed i = record { keeps = λ s i_. ((try_change_keeps P closed (conflict_move (items_now s) i))).keeps s i_ }

pub move_off_keeps : (P : State → Type 0) → Closed P → (x1 : Option Item) → Preserves P (move_off x1)
move_off_keeps P closed None = keeps_ret P true
move_off_keeps P closed (Some i) = to_conflict_keeps P closed i

pub try_clear_name_keeps : (P : State → Type 0) → Closed P → (x1 : ItemId) → (x2 : List ℕ) → (x3 : ItemId) → Preserves P (try_clear_name x1 x2 x3)
try_clear_name_keeps P closed parent name but = keeps_reading P (occupant parent name but) move_off (move_off_keeps P closed)
