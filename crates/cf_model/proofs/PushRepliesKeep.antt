-- What the parts of `PushReplies` keep, each by what its own parts keep.
use Rattle.std.specs.Prelude.{Bool, true, false, Option, Some, None}
use Rattle.cf_base.specs.declared.changes.Change.{Change}
use Rattle.cf_base.specs.declared.codes.Code.{Code}
use Rattle.cf_base.specs.declared.codes.Code.TheVariants as code
use Rattle.cf_base.specs.declared.ids.Rid.{Rid}
use Rattle.cf_base.specs.declared.ids.Version.{Version}
use Rattle.cf_base.specs.declared.messages.Why.{Why}
use Rattle.cf_base.specs.declared.messages.Why.TheVariants as why
use Rattle.cf_model.specs.Arrows.{and_then, only_if, reading, seq, then_do, unit}
use Rattle.cf_model.specs.Books.{Action, MakeDir, MoveItem, PutFile, QueueEntry, RemoveItem, with_cursor, with_tombstone, without_entry, without_tombstone}
use Rattle.cf_model.specs.Items.{Item}
use Rattle.cf_model.specs.Skips.{do_change, in_book, in_volatile, is_cursor, skip, to_conflict, try_book, try_mark, try_seen}
use Rattle.cf_model.specs.State.{State}
use Rattle.cf_model.proofs.SkipsKeep as skips_keep
use Rattle.cf_model.specs.PushReplies.{bury_new, by_why, cursor_reset_if, done_by, done_move, done_removal, done_upload, done_upload_on, drop_if, end_and_close, end_entry, end_tombstone, entry_seen, held_and_closed, is_new_entry, is_removal, item_of_entry, lost_place, move_away, name_taken, name_taken_again, name_taken_by, not_empty, not_empty_by, not_in_row, nothing_further, rebase, rebase_of, rebase_unless, reset_cursor, reset_if, see_and_mark, take, take_done, take_refused, take_void, taken_from_row, tombstone_left, was_directory, was_name_taken, was_not_empty, whatever, why_no_rebase, with_done, with_not_empty, with_taken_name}
use Rattle.cf_model.proofs.Closed.{Closed}
use Rattle.cf_model.proofs.ArrowLaws.{keeps_and_then, keeps_noted, keeps_only_if, keeps_reading, keeps_ret, keeps_seq, keeps_then}
use Rattle.cf_model.specs.Arrows.{Preserves}
use Rattle.cf_model.specs.Skips.{with_volatile}

pub end_entry_keeps : (P : State → Type 0) → Closed P → (x1 : QueueEntry) → Preserves P (end_entry x1)
end_entry_keeps P closed e = skips_keep.in_book_keeps P closed (without_entry e.token)

pub end_and_close_keeps : (P : State → Type 0) → Closed P → (x1 : QueueEntry) → Preserves P (end_and_close x1)
end_and_close_keeps P closed e = keeps_then P (end_entry e) (in_volatile (taken_from_row e)) (end_entry_keeps P closed e) (keeps_noted P (with_volatile (taken_from_row e)) (closed.keeps_volatile_taken_from_row e))

pub take_keeps : (P : State → Type 0) → Closed P → (x1 : QueueEntry) → Preserves P (take x1)
take_keeps P closed e = record { keeps = λ s i_. ((end_and_close_keeps P closed e)).keeps (with_done s) ((closed.keeps_with_done) s i_) }

pub whatever_keeps : (P : State → Type 0) → Closed P → (x1 : Bool) → Preserves P (whatever x1)
whatever_keeps P closed done = keeps_ret P unit

pub see_and_mark_keeps : (P : State → Type 0) → Closed P → (x1 : QueueEntry) → Preserves P (see_and_mark x1)
see_and_mark_keeps P closed e = keeps_seq P (and_then (only_if (is_new_entry e) (try_seen (entry_seen e))) (try_mark e.item e.number)) whatever (keeps_and_then P (only_if (is_new_entry e) (try_seen (entry_seen e))) (try_mark e.item e.number) (keeps_only_if P (is_new_entry e) (try_seen (entry_seen e)) (skips_keep.try_seen_keeps P closed (entry_seen e))) (skips_keep.try_mark_keeps P closed e.item e.number)) (whatever_keeps P closed)

pub rebase_unless_keeps : (P : State → Type 0) → Closed P → (x1 : QueueEntry) → (x2 : Change) → (x3 : Option Code) → Preserves P (rebase_unless x1 x2 x3)
rebase_unless_keeps P closed e c (Some code) = skips_keep.skip_keeps P closed code
rebase_unless_keeps P closed e c None = keeps_then P (take e) (then_do (do_change c) (see_and_mark e)) (take_keeps P closed e) (keeps_then P (do_change c) (see_and_mark e) (skips_keep.do_change_keeps P closed c) (see_and_mark_keeps P closed e))

pub rebase_keeps : (P : State → Type 0) → Closed P → (x1 : QueueEntry) → (x2 : Change) → Preserves P (rebase x1 x2)
rebase_keeps P closed e c = keeps_reading P (why_no_rebase e c) (rebase_unless e c) (rebase_unless_keeps P closed e c)

pub bury_new_keeps : (P : State → Type 0) → Closed P → (x1 : QueueEntry) → (x2 : Rid) → (x3 : Version) → Preserves P (bury_new x1 x2 x3)
bury_new_keeps P closed e rid version = keeps_then P (take e) (seq (only_if (is_new_entry e) (try_book (with_tombstone (tombstone_left e rid version)))) whatever) (take_keeps P closed e) (keeps_seq P (only_if (is_new_entry e) (try_book (with_tombstone (tombstone_left e rid version)))) whatever (keeps_only_if P (is_new_entry e) (try_book (with_tombstone (tombstone_left e rid version))) (skips_keep.try_book_keeps P closed (with_tombstone (tombstone_left e rid version)))) (whatever_keeps P closed))

pub done_upload_on_keeps : (P : State → Type 0) → Closed P → (x1 : QueueEntry) → (x2 : Rid) → (x3 : Version) → (x4 : Option Item) → Preserves P (done_upload_on x1 x2 x3 x4)
done_upload_on_keeps P closed e rid version (Some i) = rebase_keeps P closed e (rebase_of e rid version i)
done_upload_on_keeps P closed e rid version None = bury_new_keeps P closed e rid version

pub done_upload_keeps : (P : State → Type 0) → Closed P → (x1 : QueueEntry) → (x2 : Rid) → (x3 : Version) → Preserves P (done_upload x1 x2 x3)
done_upload_keeps P closed e rid version = keeps_reading P (item_of_entry e) (done_upload_on e rid version) (done_upload_on_keeps P closed e rid version)

pub done_move_keeps : (P : State → Type 0) → Closed P → (x1 : QueueEntry) → Preserves P (done_move x1)
done_move_keeps P closed e = keeps_then P (take e) (seq (and_then (try_seen (entry_seen e)) (try_mark e.item e.number)) whatever) (take_keeps P closed e) (keeps_seq P (and_then (try_seen (entry_seen e)) (try_mark e.item e.number)) whatever (keeps_and_then P (try_seen (entry_seen e)) (try_mark e.item e.number) (skips_keep.try_seen_keeps P closed (entry_seen e)) (skips_keep.try_mark_keeps P closed e.item e.number)) (whatever_keeps P closed))

pub cursor_reset_if_keeps : (P : State → Type 0) → Closed P → (x1 : Bool) → Preserves P (cursor_reset_if x1)
cursor_reset_if_keeps P closed true = keeps_ret P unit
cursor_reset_if_keeps P closed false = skips_keep.in_book_keeps P closed (with_cursor 0)

pub reset_cursor_keeps : (P : State → Type 0) → Closed P → Preserves P (reset_cursor)
reset_cursor_keeps P closed = keeps_reading P (is_cursor 0) cursor_reset_if (cursor_reset_if_keeps P closed)

pub reset_if_keeps : (P : State → Type 0) → Closed P → (x1 : Bool) → Preserves P (reset_if x1)
reset_if_keeps P closed true = reset_cursor_keeps P closed
reset_if_keeps P closed false = keeps_ret P unit

pub end_tombstone_keeps : (P : State → Type 0) → Closed P → (x1 : QueueEntry) → (x2 : Bool) → Preserves P (end_tombstone x1 x2)
end_tombstone_keeps P closed e directory = keeps_then P (reset_if directory) (in_book (without_tombstone e.number)) (reset_if_keeps P closed directory) (skips_keep.in_book_keeps P closed (without_tombstone e.number))

pub done_removal_keeps : (P : State → Type 0) → Closed P → (x1 : QueueEntry) → Preserves P (done_removal x1)
done_removal_keeps P closed e = keeps_then P (take e) (reading (was_directory e) (end_tombstone e)) (take_keeps P closed e) (keeps_reading P (was_directory e) (end_tombstone e) (end_tombstone_keeps P closed e))

pub done_by_keeps : (P : State → Type 0) → Closed P → (x1 : Action) → (x2 : QueueEntry) → (x3 : Rid) → (x4 : Version) → Preserves P (done_by x1 x2 x3 x4)
done_by_keeps P closed PutFile e rid version = done_upload_keeps P closed e rid version
done_by_keeps P closed MakeDir e rid version = done_upload_keeps P closed e rid version
done_by_keeps P closed MoveItem e rid version = done_move_keeps P closed e
done_by_keeps P closed RemoveItem e rid version = done_removal_keeps P closed e

pub take_done_keeps : (P : State → Type 0) → Closed P → (x1 : QueueEntry) → (x2 : Rid) → (x3 : Version) → Preserves P (take_done x1 x2 x3)
take_done_keeps P closed e rid version = done_by_keeps P closed e.action e rid version

pub take_void_keeps : (P : State → Type 0) → Closed P → (x1 : QueueEntry) → Preserves P (take_void x1)
take_void_keeps P closed e = end_and_close_keeps P closed e

pub drop_if_keeps : (P : State → Type 0) → Closed P → (x1 : Bool) → (x2 : QueueEntry) → Preserves P (drop_if x1 x2)
drop_if_keeps P closed true e = skips_keep.in_book_keeps P closed (without_tombstone e.number)
drop_if_keeps P closed false e = keeps_ret P unit

pub lost_place_keeps : (P : State → Type 0) → Closed P → (x1 : QueueEntry) → Preserves P (lost_place x1)
lost_place_keeps P closed e = keeps_then P (in_volatile (not_in_row e)) (then_do reset_cursor (drop_if (is_removal e) e)) (keeps_noted P (with_volatile (not_in_row e)) (closed.keeps_volatile_not_in_row e)) (keeps_then P reset_cursor (drop_if (is_removal e) e) (reset_cursor_keeps P closed) (drop_if_keeps P closed (is_removal e) e))

pub move_away_keeps : (P : State → Type 0) → Closed P → (x1 : Option Item) → Preserves P (move_away x1)
move_away_keeps P closed None = keeps_ret P unit
move_away_keeps P closed (Some i) = keeps_seq P (to_conflict i) whatever (skips_keep.to_conflict_keeps P closed i) (whatever_keeps P closed)

pub name_taken_again_keeps : (P : State → Type 0) → Closed P → (x1 : QueueEntry) → Preserves P (name_taken_again x1)
name_taken_again_keeps P closed e = keeps_then P (in_volatile (not_in_row e)) (reading (item_of_entry e) move_away) (keeps_noted P (with_volatile (not_in_row e)) (closed.keeps_volatile_not_in_row e)) (keeps_reading P (item_of_entry e) move_away (move_away_keeps P closed))

pub name_taken_by_keeps : (P : State → Type 0) → Closed P → (x1 : QueueEntry) → (x2 : Bool) → Preserves P (name_taken_by x1 x2)
name_taken_by_keeps P closed e true = name_taken_again_keeps P closed e
name_taken_by_keeps P closed e false = keeps_noted P (with_volatile (with_taken_name e.item)) (closed.keeps_volatile_with_taken_name e.item)

pub not_empty_by_keeps : (P : State → Type 0) → Closed P → (x1 : QueueEntry) → (x2 : Bool) → Preserves P (not_empty_by x1 x2)
not_empty_by_keeps P closed e true = lost_place_keeps P closed e
not_empty_by_keeps P closed e false = keeps_noted P (with_volatile (with_not_empty e.number)) (closed.keeps_volatile_with_not_empty e.number)

pub nothing_further_keeps : (P : State → Type 0) → Closed P → (x1 : QueueEntry) → Preserves P (nothing_further x1)
nothing_further_keeps P closed e = keeps_noted P (with_volatile (not_in_row e)) (closed.keeps_volatile_not_in_row e)

pub name_taken_keeps : (P : State → Type 0) → Closed P → (x1 : Bool) → (x2 : QueueEntry) → Preserves P (name_taken x1 x2)
name_taken_keeps P closed true e = nothing_further_keeps P closed e
name_taken_keeps P closed false e = keeps_reading P (was_name_taken e.item) (name_taken_by e) (name_taken_by_keeps P closed e)

pub not_empty_keeps : (P : State → Type 0) → Closed P → (x1 : Bool) → (x2 : QueueEntry) → Preserves P (not_empty x1 x2)
not_empty_keeps P closed true e = keeps_reading P (was_not_empty e.number) (not_empty_by e) (not_empty_by_keeps P closed e)
not_empty_keeps P closed false e = nothing_further_keeps P closed e

pub by_why_keeps : (P : State → Type 0) → Closed P → (x1 : Why) → (x2 : QueueEntry) → Preserves P (by_why x1 x2)
by_why_keeps P closed why.Conflict e = lost_place_keeps P closed e
by_why_keeps P closed why.NotThere e = lost_place_keeps P closed e
by_why_keeps P closed why.NameTaken e = name_taken_keeps P closed (is_removal e) e
by_why_keeps P closed why.NotEmpty e = not_empty_keeps P closed (is_removal e) e
by_why_keeps P closed why.Quota e = keeps_then P (nothing_further e) (skip code.Quota) (nothing_further_keeps P closed e) (skips_keep.skip_keeps P closed code.Quota)
by_why_keeps P closed why.Loop e = nothing_further_keeps P closed e
by_why_keeps P closed why.BadName e = nothing_further_keeps P closed e
by_why_keeps P closed why.TooDeep e = nothing_further_keeps P closed e
by_why_keeps P closed why.TooLarge e = nothing_further_keeps P closed e

pub take_refused_keeps : (P : State → Type 0) → Closed P → (x1 : QueueEntry) → (x2 : Why) → Preserves P (take_refused x1 x2)
take_refused_keeps P closed e w = keeps_then P (end_entry e) (then_do (in_volatile (held_and_closed e)) (by_why w e)) (end_entry_keeps P closed e) (keeps_then P (in_volatile (held_and_closed e)) (by_why w e) (keeps_noted P (with_volatile (held_and_closed e)) (closed.keeps_volatile_held_and_closed e)) (by_why_keeps P closed w e))
