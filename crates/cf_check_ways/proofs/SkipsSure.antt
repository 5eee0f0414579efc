-- The parts of `Skips` are sure, each by its own parts.
use Rattle.std.proofs.Common.{◌≡◌, refl}
use Rattle.std.specs.Prelude.{ℕ, Bool, true, false, not, List, [], ◌∷◌, Option, Some, None}
use Rattle.cf_base.specs.declared.changes.Change.{Change}
use Rattle.cf_base.specs.declared.changes.Change.TheVariants as change
use Rattle.cf_base.specs.declared.codes.Code.{Code}
use Rattle.cf_base.specs.declared.codes.Code.TheVariants as code
use Rattle.cf_base.specs.declared.ids.ItemId.{ItemId}
use Rattle.cf_base.specs.declared.ids.Usn.{Usn}
use Rattle.cf_base.specs.declared.items.SeenPath.{SeenPath}
use Rattle.cf_model.specs.Arrows.{Arrow, attempt}
use Rattle.cf_model.specs.Books.{Book, with_cursor, with_seen}
use Rattle.cf_model.specs.Changes.{change as put, same_book, why_no_room}
use Rattle.cf_model.specs.Items.{Item}
use Rattle.cf_model.specs.State.{State, items_now}
use Rattle.cf_model.specs.Skips.{conflict_move, cursor_unless, do_change, in_book, is_cursor, is_markable, is_there, is_too_deep, left_out, mark_if, move_off, not_done, number_of_item, occupant, or_else, seen_if, skip, skipped, to_conflict, tried, try_book, try_change, try_clear_name, try_cursor, try_mark, try_mark_now, try_seen, why_no_change, why_no_record, with_book}
use Rattle.cf_model.specs.Words.{first_of}
use Rattle.cf_check_ways.specs.Ways.{IsSure, IsSureFrom, Reads, of_state}
use Rattle.cf_check_ways.proofs.Sure.{plain_quiet, reads_fixed, sure_attempt, sure_attempt_from, sure_fixed, sure_known, sure_noted, sure_one, sure_only_if, sure_reading, sure_ret, sure_seq}
use Rattle.cf_check_ways.proofs.ChangesSure.{PutsNothing, change_sure, first_room, room_so}
use Rattle.cf_check_ways.proofs.VolumeSteps.{HasRoom, change_sure_from, sure_in_filter, sure_in_filter_from}
use Rattle.cf_check_ways.proofs.StateSteps.{skipped_plain}

pub skip_sure : (x1 : Code) → IsSure of_state (skip x1)
skip_sure c = sure_noted of_state (skipped c) (skipped_plain c)

pub not_done_sure : (x1 : Unit {0}) → IsSure of_state (not_done x1)
not_done_sure u = sure_ret of_state false

pub left_out_sure : (x1 : Option Code) → IsSure of_state (left_out x1)
left_out_sure None = sure_ret of_state true
left_out_sure (Some c) = sure_seq of_state (skip c) not_done (skip_sure c) (not_done_sure)

pub tried_sure : (why : (State → Option Code)) → (f : Arrow State (Unit {0})) → Reads of_state why → IsSure of_state f → IsSure of_state (tried why f)
tried_sure why f same f_sure = sure_seq of_state (attempt why f) left_out (sure_attempt of_state why f same f_sure) left_out_sure

-- where the step is done nothing refused it
tried_sure_from : (why : (State → Option Code)) → (f : Arrow State (Unit {0})) → Reads of_state why → IsSureFrom of_state (λ s. why s ≡ None) f → IsSure of_state (tried why f)
tried_sure_from why f same f_sure = sure_seq of_state (attempt why f) left_out (sure_attempt_from of_state why f same f_sure) left_out_sure

pub do_change_sure : (x1 : Change) → PutsNothing x1 → IsSure of_state (do_change x1)
do_change_sure c none = sure_in_filter (put c) (change_sure same_book c none)

change_fits : (c : Change) (s : State) → why_no_change c s ≡ None → HasRoom c s.filter.volume
change_fits c s h = first_room c [] s.filter.volume (room_so (c ∷ []) s.filter.volume (passed (first_of ((is_too_deep s.filter.volume.items c, code.TooDeep) ∷ [])) (why_no_room (c ∷ []) s.filter.volume) h))
  where
    passed : (a b : Option Code) → or_else a b ≡ None → b ≡ None
    passed None b k = k
    passed (Some d) b k = let z : Some d ≡ None = k in absurd cc

pub try_change_sure : (x1 : Change) → IsSure of_state (try_change x1)
try_change_sure c =
    tried_sure_from (why_no_change c) (do_change c) (reads_fixed of_state (why_no_change c) (λ s. refl))
    (sure_known of_state (λ s. HasRoom c s.filter.volume) (λ s. why_no_change c s ≡ None) (do_change c) (change_fits c) (sure_in_filter_from (λ x. HasRoom c x.volume) (put c) (change_sure_from same_book c)))

pub in_book_sure : (x1 : (Book → Book)) → IsSure of_state (in_book x1)
in_book_sure f = sure_one of_state (with_book f) (plain_quiet of_state (with_book f) (λ s. refl) (λ s. refl) (λ s. refl) (λ s. refl) (λ s. refl) (λ s. refl))

pub try_book_sure : (x1 : (Book → Book)) → IsSure of_state (try_book x1)
try_book_sure f = tried_sure (why_no_record f) (in_book f) (reads_fixed of_state (why_no_record f) (λ s. refl)) (in_book_sure f)

pub seen_if_sure : (x1 : SeenPath) → (x2 : Bool) → IsSure of_state (seen_if x1 x2)
seen_if_sure p here = sure_only_if of_state here (try_book (with_seen p)) (try_book_sure (with_seen p))

pub try_seen_sure : (x1 : SeenPath) → IsSure of_state (try_seen x1)
try_seen_sure p = sure_reading of_state (is_there p.item) (seen_if p) (reads_fixed of_state (is_there p.item) (λ s. refl)) (seen_if_sure p)

pub cursor_unless_sure : (x1 : ℕ) → (x2 : Bool) → IsSure of_state (cursor_unless x1 x2)
cursor_unless_sure clock is_so = sure_only_if of_state (not is_so) (try_book (with_cursor clock)) (try_book_sure (with_cursor clock))

pub try_cursor_sure : (x1 : ℕ) → IsSure of_state (try_cursor x1)
try_cursor_sure clock = sure_reading of_state (is_cursor clock) (cursor_unless clock) (reads_fixed of_state (is_cursor clock) (λ s. refl)) (cursor_unless_sure clock)

pub mark_if_sure : (x1 : ItemId) → (x2 : Usn) → (x3 : Bool) → IsSure of_state (mark_if x1 x2 x3)
mark_if_sure item number may = sure_only_if of_state may (try_change (change.Mark item number)) (try_change_sure (change.Mark item number))

pub try_mark_sure : (x1 : ItemId) → (x2 : Usn) → IsSure of_state (try_mark x1 x2)
try_mark_sure item number = sure_reading of_state (is_markable item number) (mark_if item number) (reads_fixed of_state (is_markable item number) (λ s. refl)) (mark_if_sure item number)

pub try_mark_now_sure : (x1 : ItemId) → IsSure of_state (try_mark_now x1)
try_mark_now_sure item = sure_reading of_state (number_of_item item) (try_mark item) (reads_fixed of_state (number_of_item item) (λ s. refl)) (try_mark_sure item)

pub to_conflict_sure : (x1 : Item) → IsSure of_state (to_conflict x1)
to_conflict_sure i = sure_fixed of_state (to_conflict i) (λ x. try_change (conflict_move (items_now x) i)) (λ s. refl) (λ x. try_change_sure (conflict_move (items_now x) i))

pub move_off_sure : (x1 : Option Item) → IsSure of_state (move_off x1)
move_off_sure None = sure_ret of_state true
move_off_sure (Some i) = to_conflict_sure i

pub try_clear_name_sure : (x1 : ItemId) → (x2 : List ℕ) → (x3 : ItemId) → IsSure of_state (try_clear_name x1 x2 x3)
try_clear_name_sure parent name but = sure_reading of_state (occupant parent name but) move_off (reads_fixed of_state (occupant parent name but) (λ s. refl)) (move_off_sure)
