-- The parts of `PushReplies` are sure, each by its own parts.
use Rattle.std.proofs.Common.{refl}
use Rattle.std.specs.Prelude.{Bool, true, false, Option, Some, None}
use Rattle.cf_base.specs.declared.changes.Change.{Change}
use Rattle.cf_base.specs.declared.codes.Code.{Code}
use Rattle.cf_base.specs.declared.codes.Code.TheVariants as code
use Rattle.cf_base.specs.declared.ids.Rid.{Rid}
use Rattle.cf_base.specs.declared.ids.Version.{Version}
use Rattle.cf_base.specs.declared.messages.Why.{Why}
use Rattle.cf_base.specs.declared.messages.Why.TheVariants as why
use Rattle.cf_model.specs.Arrows.{and_then, noted, only_if, reading, seq, then_do, unit}
use Rattle.cf_model.specs.Books.{Action, MakeDir, MoveItem, PutFile, QueueEntry, RemoveItem, with_cursor, with_tombstone, without_entry, without_tombstone}
use Rattle.cf_model.specs.Items.{Item}
use Rattle.cf_model.specs.Skips.{do_change, in_book, in_volatile, is_cursor, skip, to_conflict, try_book, try_mark, try_seen, with_volatile}
use Rattle.cf_model.specs.PushReplies.{bury_new, by_why, cursor_reset_if, done_by, done_move, done_removal, done_upload, done_upload_on, drop_if, end_and_close, end_entry, end_tombstone, entry_seen, held_and_closed, is_new_entry, is_removal, item_of_entry, lost_place, move_away, name_taken, name_taken_again, name_taken_by, not_empty, not_empty_by, not_in_row, nothing_further, rebase, rebase_of, rebase_unless, reset_cursor, reset_if, see_and_mark, take, take_done, take_refused, take_void, taken_from_row, tombstone_left, was_directory, was_name_taken, was_not_empty, whatever, why_no_rebase, with_done, with_not_empty, with_taken_name}
use Rattle.cf_check_ways.specs.Ways.{IsSure, of_state}
use Rattle.cf_check_ways.proofs.ChangesSure.{PutsNothing}
use Rattle.cf_check_ways.proofs.Sure.{plain_quiet, reads_fixed, sure_and_then, sure_fixed, sure_noted, sure_only_if, sure_reading, sure_ret, sure_seq, sure_then}
use Rattle.cf_check_ways.proofs.StateSteps.{volatile_plain}
use Rattle.cf_check_ways.proofs.SkipsSure as skips_sure

pub end_entry_sure : (x1 : QueueEntry) → IsSure of_state (end_entry x1)
end_entry_sure e = skips_sure.in_book_sure (without_entry e.token)

pub end_and_close_sure : (x1 : QueueEntry) → IsSure of_state (end_and_close x1)
end_and_close_sure e = sure_then of_state (end_entry e) (in_volatile (taken_from_row e)) (end_entry_sure e) (sure_noted of_state (with_volatile (taken_from_row e)) (volatile_plain (taken_from_row e)))

pub take_sure : (x1 : QueueEntry) → IsSure of_state (take x1)
take_sure e = sure_fixed of_state (take e) (λ x. then_do (noted with_done) (end_and_close e)) (λ s. refl) (λ x. sure_then of_state (noted with_done) (end_and_close e) (sure_noted of_state with_done (plain_quiet of_state with_done (λ s. refl) (λ s. refl) (λ s. refl) (λ s. refl) (λ s. refl) (λ s. refl))) (end_and_close_sure e))

pub whatever_sure : (x1 : Bool) → IsSure of_state (whatever x1)
whatever_sure done = sure_ret of_state unit

pub see_and_mark_sure : (x1 : QueueEntry) → IsSure of_state (see_and_mark x1)
see_and_mark_sure e = sure_seq of_state (and_then (only_if (is_new_entry e) (try_seen (entry_seen e))) (try_mark e.item e.number)) whatever (sure_and_then of_state (only_if (is_new_entry e) (try_seen (entry_seen e))) (try_mark e.item e.number) (sure_only_if of_state (is_new_entry e) (try_seen (entry_seen e)) (skips_sure.try_seen_sure (entry_seen e))) (skips_sure.try_mark_sure e.item e.number)) (whatever_sure)

pub rebase_unless_sure : (x1 : QueueEntry) → (x2 : Change) → PutsNothing x2 → (x3 : Option Code) → IsSure of_state (rebase_unless x1 x2 x3)
rebase_unless_sure e c none (Some code) = skips_sure.skip_sure code
rebase_unless_sure e c none None = sure_then of_state (take e) (then_do (do_change c) (see_and_mark e)) (take_sure e) (sure_then of_state (do_change c) (see_and_mark e) (skips_sure.do_change_sure c none) (see_and_mark_sure e))

pub rebase_sure : (x1 : QueueEntry) → (x2 : Change) → PutsNothing x2 → IsSure of_state (rebase x1 x2)
rebase_sure e c none = sure_reading of_state (why_no_rebase e c) (rebase_unless e c) (reads_fixed of_state (why_no_rebase e c) (λ s. refl)) (rebase_unless_sure e c none)

pub bury_new_sure : (x1 : QueueEntry) → (x2 : Rid) → (x3 : Version) → IsSure of_state (bury_new x1 x2 x3)
bury_new_sure e rid version = sure_then of_state (take e) (seq (only_if (is_new_entry e) (try_book (with_tombstone (tombstone_left e rid version)))) whatever) (take_sure e) (sure_seq of_state (only_if (is_new_entry e) (try_book (with_tombstone (tombstone_left e rid version)))) whatever (sure_only_if of_state (is_new_entry e) (try_book (with_tombstone (tombstone_left e rid version))) (skips_sure.try_book_sure (with_tombstone (tombstone_left e rid version)))) (whatever_sure))

pub done_upload_on_sure : (x1 : QueueEntry) → (x2 : Rid) → (x3 : Version) → (x4 : Option Item) → IsSure of_state (done_upload_on x1 x2 x3 x4)
done_upload_on_sure e rid version (Some i) = rebase_sure e (rebase_of e rid version i) (λ items. refl)
done_upload_on_sure e rid version None = bury_new_sure e rid version

pub done_upload_sure : (x1 : QueueEntry) → (x2 : Rid) → (x3 : Version) → IsSure of_state (done_upload x1 x2 x3)
done_upload_sure e rid version = sure_reading of_state (item_of_entry e) (done_upload_on e rid version) (reads_fixed of_state (item_of_entry e) (λ s. refl)) (done_upload_on_sure e rid version)

pub done_move_sure : (x1 : QueueEntry) → IsSure of_state (done_move x1)
done_move_sure e = sure_then of_state (take e) (seq (and_then (try_seen (entry_seen e)) (try_mark e.item e.number)) whatever) (take_sure e) (sure_seq of_state (and_then (try_seen (entry_seen e)) (try_mark e.item e.number)) whatever (sure_and_then of_state (try_seen (entry_seen e)) (try_mark e.item e.number) (skips_sure.try_seen_sure (entry_seen e)) (skips_sure.try_mark_sure e.item e.number)) (whatever_sure))

pub cursor_reset_if_sure : (x1 : Bool) → IsSure of_state (cursor_reset_if x1)
cursor_reset_if_sure true = sure_ret of_state unit
cursor_reset_if_sure false = skips_sure.in_book_sure (with_cursor 0)

pub reset_cursor_sure : IsSure of_state (reset_cursor)
reset_cursor_sure = sure_reading of_state (is_cursor 0) cursor_reset_if (reads_fixed of_state (is_cursor 0) (λ s. refl)) (cursor_reset_if_sure)

pub reset_if_sure : (x1 : Bool) → IsSure of_state (reset_if x1)
reset_if_sure true = reset_cursor_sure
reset_if_sure false = sure_ret of_state unit

pub end_tombstone_sure : (x1 : QueueEntry) → (x2 : Bool) → IsSure of_state (end_tombstone x1 x2)
end_tombstone_sure e directory = sure_then of_state (reset_if directory) (in_book (without_tombstone e.number)) (reset_if_sure directory) (skips_sure.in_book_sure (without_tombstone e.number))

pub done_removal_sure : (x1 : QueueEntry) → IsSure of_state (done_removal x1)
done_removal_sure e = sure_then of_state (take e) (reading (was_directory e) (end_tombstone e)) (take_sure e) (sure_reading of_state (was_directory e) (end_tombstone e) (reads_fixed of_state (was_directory e) (λ s. refl)) (end_tombstone_sure e))

pub done_by_sure : (x1 : Action) → (x2 : QueueEntry) → (x3 : Rid) → (x4 : Version) → IsSure of_state (done_by x1 x2 x3 x4)
done_by_sure PutFile e rid version = done_upload_sure e rid version
done_by_sure MakeDir e rid version = done_upload_sure e rid version
done_by_sure MoveItem e rid version = done_move_sure e
done_by_sure RemoveItem e rid version = done_removal_sure e

pub take_done_sure : (x1 : QueueEntry) → (x2 : Rid) → (x3 : Version) → IsSure of_state (take_done x1 x2 x3)
take_done_sure e rid version = done_by_sure e.action e rid version

pub take_void_sure : (x1 : QueueEntry) → IsSure of_state (take_void x1)
take_void_sure e = end_and_close_sure e

pub drop_if_sure : (x1 : Bool) → (x2 : QueueEntry) → IsSure of_state (drop_if x1 x2)
drop_if_sure true e = skips_sure.in_book_sure (without_tombstone e.number)
drop_if_sure false e = sure_ret of_state unit

pub lost_place_sure : (x1 : QueueEntry) → IsSure of_state (lost_place x1)
lost_place_sure e = sure_then of_state (in_volatile (not_in_row e)) (then_do reset_cursor (drop_if (is_removal e) e)) (sure_noted of_state (with_volatile (not_in_row e)) (volatile_plain (not_in_row e))) (sure_then of_state reset_cursor (drop_if (is_removal e) e) (reset_cursor_sure) (drop_if_sure (is_removal e) e))

pub move_away_sure : (x1 : Option Item) → IsSure of_state (move_away x1)
move_away_sure None = sure_ret of_state unit
move_away_sure (Some i) = sure_seq of_state (to_conflict i) whatever (skips_sure.to_conflict_sure i) (whatever_sure)

pub name_taken_again_sure : (x1 : QueueEntry) → IsSure of_state (name_taken_again x1)
name_taken_again_sure e = sure_then of_state (in_volatile (not_in_row e)) (reading (item_of_entry e) move_away) (sure_noted of_state (with_volatile (not_in_row e)) (volatile_plain (not_in_row e))) (sure_reading of_state (item_of_entry e) move_away (reads_fixed of_state (item_of_entry e) (λ s. refl)) (move_away_sure))

pub name_taken_by_sure : (x1 : QueueEntry) → (x2 : Bool) → IsSure of_state (name_taken_by x1 x2)
name_taken_by_sure e true = name_taken_again_sure e
name_taken_by_sure e false = sure_noted of_state (with_volatile (with_taken_name e.item)) (volatile_plain (with_taken_name e.item))

pub not_empty_by_sure : (x1 : QueueEntry) → (x2 : Bool) → IsSure of_state (not_empty_by x1 x2)
not_empty_by_sure e true = lost_place_sure e
not_empty_by_sure e false = sure_noted of_state (with_volatile (with_not_empty e.number)) (volatile_plain (with_not_empty e.number))

pub nothing_further_sure : (x1 : QueueEntry) → IsSure of_state (nothing_further x1)
nothing_further_sure e = sure_noted of_state (with_volatile (not_in_row e)) (volatile_plain (not_in_row e))

pub name_taken_sure : (x1 : Bool) → (x2 : QueueEntry) → IsSure of_state (name_taken x1 x2)
name_taken_sure true e = nothing_further_sure e
name_taken_sure false e = sure_reading of_state (was_name_taken e.item) (name_taken_by e) (reads_fixed of_state (was_name_taken e.item) (λ s. refl)) (name_taken_by_sure e)

pub not_empty_sure : (x1 : Bool) → (x2 : QueueEntry) → IsSure of_state (not_empty x1 x2)
not_empty_sure true e = sure_reading of_state (was_not_empty e.number) (not_empty_by e) (reads_fixed of_state (was_not_empty e.number) (λ s. refl)) (not_empty_by_sure e)
not_empty_sure false e = nothing_further_sure e

pub by_why_sure : (x1 : Why) → (x2 : QueueEntry) → IsSure of_state (by_why x1 x2)
by_why_sure why.Conflict e = lost_place_sure e
by_why_sure why.NotThere e = lost_place_sure e
by_why_sure why.NameTaken e = name_taken_sure (is_removal e) e
by_why_sure why.NotEmpty e = not_empty_sure (is_removal e) e
by_why_sure why.Quota e = sure_then of_state (nothing_further e) (skip code.Quota) (nothing_further_sure e) (skips_sure.skip_sure code.Quota)
by_why_sure why.Loop e = nothing_further_sure e
by_why_sure why.BadName e = nothing_further_sure e
by_why_sure why.TooDeep e = nothing_further_sure e
by_why_sure why.TooLarge e = nothing_further_sure e

pub take_refused_sure : (x1 : QueueEntry) → (x2 : Why) → IsSure of_state (take_refused x1 x2)
take_refused_sure e w = sure_then of_state (end_entry e) (then_do (in_volatile (held_and_closed e)) (by_why w e)) (end_entry_sure e) (sure_then of_state (in_volatile (held_and_closed e)) (by_why w e) (sure_noted of_state (with_volatile (held_and_closed e)) (volatile_plain (held_and_closed e))) (by_why_sure w e))
