-- The parts of `Skips` keep identities named.
use Rattle.std.specs.Prelude.{ℕ, Bool, true, false, not, List, Option, Some, None}
use Rattle.cf_base.specs.declared.changes.Change.{Change}
use Rattle.cf_base.specs.declared.changes.Change.TheVariants as change
use Rattle.cf_base.specs.declared.codes.Code.{Code}
use Rattle.cf_base.specs.declared.ids.ItemId.{ItemId}
use Rattle.cf_base.specs.declared.ids.Usn.{Usn}
use Rattle.cf_base.specs.declared.items.SeenPath.{SeenPath}
use Rattle.cf_model.specs.Arrows.{Arrow, attempt, Preserves, unless_done}
use Rattle.cf_model.specs.Books.{Book, with_cursor, with_seen}
use Rattle.cf_model.specs.Changes.{change as put, same_book}
use Rattle.cf_model.specs.Items.{Item}
use Rattle.cf_model.specs.Skips.{conflict_move, cursor_unless, do_change, in_book, is_cursor, is_markable, is_there, left_out, mark_if, move_off, not_done, number_of_item, occupant, seen_if, skip, skipped, to_conflict, tried, try_book, try_change, try_clear_name, try_cursor, try_mark, try_mark_now, try_seen, why_no_change, why_no_record, with_book}
use Rattle.cf_model.specs.State.{items_now, State, with_filter}
use Rattle.cf_model.specs.Trees.{Keeps, Ret}
use Rattle.cf_model.proofs.ArrowLaws.{keeps_attempt, keeps_noted, keeps_one, keeps_only_if, keeps_reading, keeps_ret, keeps_seq}
use Rattle.cf_model.proofs.TreeLaws.{keeps_bind, keeps_mapped}
use Rattle.cf_pair_identities.specs.Named.{Gives, GivesOver, Named, NamedIn}
use Rattle.cf_pair_identities.proofs.NamedSteps.{change_keeps, change_over, in_filter_keeps, skipped_named}

pub skip_keeps : (full : Bool) → (x1 : Code) → Preserves (Named full) (skip x1)
skip_keeps full c = keeps_noted (Named full) (skipped c) (skipped_named full c)

pub not_done_keeps : (full : Bool) → (x1 : Unit {0}) → Preserves (Named full) (not_done x1)
not_done_keeps full u = keeps_ret (Named full) false

pub left_out_keeps : (full : Bool) → (x1 : Option Code) → Preserves (Named full) (left_out x1)
left_out_keeps full None = keeps_ret (Named full) true
left_out_keeps full (Some c) = keeps_seq (Named full) (skip c) not_done (skip_keeps full c) (not_done_keeps full)

pub tried_keeps : (full : Bool) → (x1 : (State → Option Code)) → (x2 : Arrow State (Unit {0})) → (Preserves (Named full) (x2)) → Preserves (Named full) (tried x1 x2)
tried_keeps full why f f_keeps = keeps_seq (Named full) (attempt why f) left_out (keeps_attempt (Named full) why f f_keeps) (left_out_keeps full)

pub do_change_keeps : (full : Bool) → (x1 : Change) → Gives full x1 → Preserves (Named full) (do_change x1)
do_change_keeps full c g = in_filter_keeps full (put c) (change_keeps full same_book c g)

-- over these items
pub do_change_over : (full : Bool) → (c : Change) (s : State) → GivesOver full (items_now s) c → Named full s → Keeps (Named full) (do_change c s)
do_change_over full c s g h = keeps_mapped (NamedIn full) (Named full) (λ x. with_filter x s) (put c s.filter) (λ x k. (k, h.1)) (change_over full same_book c s.filter g h.0)

pub try_change_keeps : (full : Bool) → (x1 : Change) → Gives full x1 → Preserves (Named full) (try_change x1)
try_change_keeps full c g = tried_keeps full (why_no_change c) (do_change c) (do_change_keeps full c g)

-- a step that is tried from here on
pub tried_at : (P : State → Type 0) → ((c : Code) (s : State) → P s → P (skipped c s)) → (why : State → Option Code) (f : Arrow State (Unit {0})) (s : State) → P s → Keeps P (f s) → Keeps P (tried why f s)
tried_at P skips why f s h k = keeps_bind P (attempt why f s) left_out (by (why s)) rest where
  by : (o : Option Code) → Keeps P (unless_done f o s)
  by None = keeps_bind P (f s) (λ u t. Ret None t) k (λ u t j. j)
  by (Some c) = h

  rest : (o : Option Code) (t : State) → P t → Keeps P (left_out o t)
  rest None t j = j
  rest (Some c) t j = skips c t j

pub try_change_over : (full : Bool) → (c : Change) (s : State) → GivesOver full (items_now s) c → Named full s → Keeps (Named full) (try_change c s)
try_change_over full c s g h = tried_at (Named full) (skipped_named full) (why_no_change c) (do_change c) s h (do_change_over full c s g h)

pub in_book_keeps : (full : Bool) → (x1 : (Book → Book)) → Preserves (Named full) (in_book x1)
in_book_keeps full f = keeps_one (Named full) (with_book f) (λ s h. h)

pub try_book_keeps : (full : Bool) → (x1 : (Book → Book)) → Preserves (Named full) (try_book x1)
try_book_keeps full f = tried_keeps full (why_no_record f) (in_book f) (in_book_keeps full f)

pub seen_if_keeps : (full : Bool) → (x1 : SeenPath) → (x2 : Bool) → Preserves (Named full) (seen_if x1 x2)
seen_if_keeps full p here = keeps_only_if (Named full) here (try_book (with_seen p)) (try_book_keeps full (with_seen p))

pub try_seen_keeps : (full : Bool) → (x1 : SeenPath) → Preserves (Named full) (try_seen x1)
try_seen_keeps full p = keeps_reading (Named full) (is_there p.item) (seen_if p) (seen_if_keeps full p)

pub cursor_unless_keeps : (full : Bool) → (x1 : ℕ) → (x2 : Bool) → Preserves (Named full) (cursor_unless x1 x2)
cursor_unless_keeps full clock is_so = keeps_only_if (Named full) (not is_so) (try_book (with_cursor clock)) (try_book_keeps full (with_cursor clock))

pub try_cursor_keeps : (full : Bool) → (x1 : ℕ) → Preserves (Named full) (try_cursor x1)
try_cursor_keeps full clock = keeps_reading (Named full) (is_cursor clock) (cursor_unless clock) (cursor_unless_keeps full clock)

pub mark_if_keeps : (full : Bool) → (x1 : ItemId) → (x2 : Usn) → (x3 : Bool) → Preserves (Named full) (mark_if x1 x2 x3)
mark_if_keeps full item number may = keeps_only_if (Named full) may (try_change (change.Mark item number)) (try_change_keeps full (change.Mark item number) tt)

pub try_mark_keeps : (full : Bool) → (x1 : ItemId) → (x2 : Usn) → Preserves (Named full) (try_mark x1 x2)
try_mark_keeps full item number = keeps_reading (Named full) (is_markable item number) (mark_if item number) (mark_if_keeps full item number)

pub try_mark_now_keeps : (full : Bool) → (x1 : ItemId) → Preserves (Named full) (try_mark_now x1)
try_mark_now_keeps full item = keeps_reading (Named full) (number_of_item item) (try_mark item) (try_mark_keeps full item)

pub to_conflict_keeps : (full : Bool) → (x1 : Item) → Preserves (Named full) (to_conflict x1)
to_conflict_keeps full i = record { keeps = λ s h. (try_change_keeps full (conflict_move (items_now s) i) tt).keeps s h }

pub move_off_keeps : (full : Bool) → (x1 : Option Item) → Preserves (Named full) (move_off x1)
move_off_keeps full None = keeps_ret (Named full) true
move_off_keeps full (Some i) = to_conflict_keeps full i

pub try_clear_name_keeps : (full : Bool) → (x1 : ItemId) → (x2 : List ℕ) → (x3 : ItemId) → Preserves (Named full) (try_clear_name x1 x2 x3)
try_clear_name_keeps full parent name but = keeps_reading (Named full) (occupant parent name but) move_off (move_off_keeps full)
