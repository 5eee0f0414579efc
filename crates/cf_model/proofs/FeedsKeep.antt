-- What the parts of `Feeds` keep, each by what its own parts keep.
use Rattle.std.specs.Prelude.{ℕ, Bool, true, false, not, List, [], Option, Some, None, ◌&&◌, ◌||◌, ◌∷◌, ◌++◌}
use Rattle.cf_base.specs.declared.changes.Change.TheVariants as change
use Rattle.cf_base.specs.declared.ids.ItemId.{ItemId}
use Rattle.cf_base.specs.declared.messages.Entry.{Entry}
use Rattle.cf_model.specs.Arrows.{Arrow, and_then, noted, only_if, reading, then_do, unit}
use Rattle.cf_model.specs.ConflictNames.{conflict_name}
use Rattle.cf_model.specs.Effects.{untargeted}
use Rattle.cf_model.specs.Identities.{by_target, entry_identity, no_identity}
use Rattle.cf_model.specs.Items.{Item, base_of, is_dirty, item_of}
use Rattle.cf_model.specs.LookUp.{child_of}
use Rattle.cf_model.specs.Numbers.{no_item, no_usn, root_id}
use Rattle.cf_model.specs.PushReplies.{round_closed, whatever}
use Rattle.cf_model.specs.Skips.{in_use, in_volatile, try_change, try_clear_name, try_cursor, try_mark_now, try_seen}
use Rattle.cf_model.specs.State.{State, items_now}
use Rattle.cf_model.specs.Words.{says}
use Rattle.cf_model.proofs.PushRepliesKeep as push_replies_keep
use Rattle.cf_model.proofs.SkipsKeep as skips_keep
use Rattle.cf_model.specs.Feeds.{Fed, adopt, all_released, all_turns, apply_entries, apply_feed, changed_entry, changed_steps, changed_unless, copy_off, cursor_if, end_feed, first_turn, first_turn_by, free_parent, gone, gone_unless, in_turn, is_adoptable, is_later, is_newer, is_removable, is_seen_so, is_under, is_whole, known, make_after, make_entry, make_of, move_entry, move_in, name_in_root, new_entry, new_over, parent_here, remove_or_untarget, second_turn, second_turns, seen_entry, stands_in, take_entry, take_over, take_turn, taken, turn, turn_by, turns, unknown, untarget, with_clock_seen, with_turn}
use Rattle.cf_model.proofs.Closed.{Closed}
use Rattle.cf_model.proofs.ArrowLaws.{keeps_and_then, keeps_choose, keeps_noted, keeps_only_if, keeps_reading, keeps_ret, keeps_seq, keeps_then}
use Rattle.cf_model.specs.Arrows.{Preserves}
use Rattle.cf_model.specs.Skips.{with_volatile}

pub taken_keeps : (P : State → Type 0) → Closed P → (x1 : Bool) → Preserves P (taken x1)
taken_keeps P closed done = keeps_ret P false

pub turn_keeps : (P : State → Type 0) → Closed P → (x1 : Arrow State Bool) → (Preserves P (x1)) → Preserves P (turn x1)
turn_keeps P closed steps steps_keeps = keeps_seq P steps taken steps_keeps (taken_keeps P closed)

pub untarget_keeps : (P : State → Type 0) → Closed P → (x1 : Item) → Preserves P (untarget x1)
untarget_keeps P closed i = keeps_and_then P (only_if i.in_sync (try_change (change.Clear i.id))) (try_change (change.Rebase i.id (untargeted i.identity) (base_of i) no_usn)) (keeps_only_if P i.in_sync (try_change (change.Clear i.id)) (skips_keep.try_change_keeps P closed (change.Clear i.id))) (skips_keep.try_change_keeps P closed (change.Rebase i.id (untargeted i.identity) (base_of i) no_usn))

pub remove_or_untarget_keeps : (P : State → Type 0) → Closed P → (x1 : Item) → (x2 : Bool) → Preserves P (remove_or_untarget x1 x2)
remove_or_untarget_keeps P closed i true = skips_keep.try_change_keeps P closed (change.Remove i.id)
remove_or_untarget_keeps P closed i false = untarget_keeps P closed i

pub gone_unless_keeps : (P : State → Type 0) → Closed P → (x1 : Item) → (x2 : Bool) → Preserves P (gone_unless x1 x2)
gone_unless_keeps P closed i true = keeps_ret P true
gone_unless_keeps P closed i false = turn_keeps P closed (λ s. remove_or_untarget i (is_removable s i) s) (record { keeps = λ s j1. ((remove_or_untarget_keeps P closed i (is_removable s i))).keeps s j1 })

pub gone_keeps : (P : State → Type 0) → Closed P → (x1 : Item) → Preserves P (gone x1)
gone_keeps P closed i = record { keeps = λ s i_. ((gone_unless_keeps P closed i (in_use s i.id))).keeps s i_ }

pub adopt_keeps : (P : State → Type 0) → Closed P → (x1 : Entry) → (x2 : Item) → Preserves P (adopt x1 x2)
adopt_keeps P closed e i = keeps_and_then P (only_if (not i.placeholder) (try_change (change.Convert i.id no_identity))) (and_then (try_change (change.Rebase i.id (entry_identity e) 0 no_usn)) (and_then (try_seen (seen_entry i.id e)) (try_mark_now i.id))) (keeps_only_if P (not i.placeholder) (try_change (change.Convert i.id no_identity)) (skips_keep.try_change_keeps P closed (change.Convert i.id no_identity))) (keeps_and_then P (try_change (change.Rebase i.id (entry_identity e) 0 no_usn)) (and_then (try_seen (seen_entry i.id e)) (try_mark_now i.id)) (skips_keep.try_change_keeps P closed (change.Rebase i.id (entry_identity e) 0 no_usn)) (keeps_and_then P (try_seen (seen_entry i.id e)) (try_mark_now i.id) (skips_keep.try_seen_keeps P closed (seen_entry i.id e)) (skips_keep.try_mark_now_keeps P closed i.id)))

pub make_after_keeps : (P : State → Type 0) → Closed P → (x1 : Entry) → (x2 : Item) → Preserves P (make_after x1 x2)
make_after_keeps P closed e p = record { keeps = λ s i_. ((keeps_and_then P (try_change (make_of s e p)) (and_then (try_seen (seen_entry s.filter.volume.next_item e)) (try_mark_now s.filter.volume.next_item)) (skips_keep.try_change_keeps P closed (make_of s e p)) (keeps_and_then P (try_seen (seen_entry s.filter.volume.next_item e)) (try_mark_now s.filter.volume.next_item) (skips_keep.try_seen_keeps P closed (seen_entry s.filter.volume.next_item e)) (skips_keep.try_mark_now_keeps P closed s.filter.volume.next_item)))).keeps s i_ }

pub make_entry_keeps : (P : State → Type 0) → Closed P → (x1 : Entry) → (x2 : Item) → Preserves P (make_entry x1 x2)
make_entry_keeps P closed e p = keeps_and_then P (try_clear_name p.id e.name no_item) (make_after e p) (skips_keep.try_clear_name_keeps P closed p.id e.name no_item) (make_after_keeps P closed e p)

pub new_over_keeps : (P : State → Type 0) → Closed P → (x1 : Entry) → (x2 : Item) → (x3 : Option Item) → Preserves P (new_over x1 x2 x3)
new_over_keeps P closed e p None = make_entry_keeps P closed e p
new_over_keeps P closed e p (Some i) = keeps_choose P (is_adoptable e i) (adopt e i) (make_entry e p) (adopt_keeps P closed e i) (make_entry_keeps P closed e p)

pub new_entry_keeps : (P : State → Type 0) → Closed P → (x1 : Entry) → (x2 : Item) → Preserves P (new_entry x1 x2)
new_entry_keeps P closed e p = turn_keeps P closed (λ s. new_over e p (child_of (items_now s) p.id e.name) s) (record { keeps = λ s j1. ((new_over_keeps P closed e p (child_of (items_now s) p.id e.name))).keeps s j1 })

pub free_parent_keeps : (P : State → Type 0) → Closed P → (x1 : Item) → (x2 : Item) → Preserves P (free_parent x1 x2)
free_parent_keeps P closed i p = record { keeps = λ s i_. ((keeps_only_if P (is_under (items_now s) p.id i.id) (try_change (change.Move p.id root_id (name_in_root (items_now s) p))) (skips_keep.try_change_keeps P closed (change.Move p.id root_id (name_in_root (items_now s) p))))).keeps s i_ }

pub move_in_keeps : (P : State → Type 0) → Closed P → (x1 : Entry) → (x2 : Item) → (x3 : Item) → Preserves P (move_in x1 x2 x3)
move_in_keeps P closed e i p = record { keeps = λ s i_. ((keeps_only_if P (not (says (stands_in p e.name) (item_of (items_now s) i.id))) (try_change (change.Move i.id p.id e.name)) (skips_keep.try_change_keeps P closed (change.Move i.id p.id e.name)))).keeps s i_ }

pub move_entry_keeps : (P : State → Type 0) → Closed P → (x1 : Entry) → (x2 : Item) → (x3 : Item) → Preserves P (move_entry x1 x2 x3)
move_entry_keeps P closed e i p = keeps_and_then P (try_clear_name p.id e.name i.id) (and_then (free_parent i p) (and_then (move_in e i p) (try_seen (seen_entry i.id e)))) (skips_keep.try_clear_name_keeps P closed p.id e.name i.id) (keeps_and_then P (free_parent i p) (and_then (move_in e i p) (try_seen (seen_entry i.id e))) (free_parent_keeps P closed i p) (keeps_and_then P (move_in e i p) (try_seen (seen_entry i.id e)) (move_in_keeps P closed e i p) (skips_keep.try_seen_keeps P closed (seen_entry i.id e))))

pub copy_off_keeps : (P : State → Type 0) → Closed P → (x1 : Item) → Preserves P (copy_off x1)
copy_off_keeps P closed i = record { keeps = λ s i_. ((skips_keep.try_change_keeps P closed (change.Copy s.filter.volume.next_item i.id i.parent (conflict_name (items_now s) i.parent i.name)))).keeps s i_ }

pub take_over_keeps : (P : State → Type 0) → Closed P → (x1 : Entry) → (x2 : Option Item) → Preserves P (take_over x1 x2)
take_over_keeps P closed e None = keeps_ret P true
take_over_keeps P closed e (Some i) = keeps_only_if P (is_newer i e) (and_then (only_if (is_dirty i) (copy_off i)) (try_change (change.Take i.id (entry_identity e) e.len))) (keeps_and_then P (only_if (is_dirty i) (copy_off i)) (try_change (change.Take i.id (entry_identity e) e.len)) (keeps_only_if P (is_dirty i) (copy_off i) (copy_off_keeps P closed i)) (skips_keep.try_change_keeps P closed (change.Take i.id (entry_identity e) e.len)))

pub take_entry_keeps : (P : State → Type 0) → Closed P → (x1 : Entry) → (x2 : ItemId) → Preserves P (take_entry x1 x2)
take_entry_keeps P closed e id = record { keeps = λ s i_. ((take_over_keeps P closed e (item_of (items_now s) id))).keeps s i_ }

pub changed_steps_keeps : (P : State → Type 0) → Closed P → (x1 : Entry) → (x2 : Item) → (x3 : Item) → Preserves P (changed_steps x1 x2 x3)
changed_steps_keeps P closed e i p = record { keeps = λ s i_. ((keeps_and_then P (only_if (not (is_seen_so s i e)) (move_entry e i p)) (and_then (take_entry e i.id) (try_mark_now i.id)) (keeps_only_if P (not (is_seen_so s i e)) (move_entry e i p) (move_entry_keeps P closed e i p)) (keeps_and_then P (take_entry e i.id) (try_mark_now i.id) (take_entry_keeps P closed e i.id) (skips_keep.try_mark_now_keeps P closed i.id)))).keeps s i_ }

pub changed_unless_keeps : (P : State → Type 0) → Closed P → (x1 : Entry) → (x2 : Item) → (x3 : Item) → (x4 : Bool) → Preserves P (changed_unless x1 x2 x3 x4)
changed_unless_keeps P closed e i p true = keeps_ret P true
changed_unless_keeps P closed e i p false = turn_keeps P closed (changed_steps e i p) (changed_steps_keeps P closed e i p)

pub changed_entry_keeps : (P : State → Type 0) → Closed P → (x1 : Entry) → (x2 : Item) → (x3 : Item) → Preserves P (changed_entry x1 x2 x3)
changed_entry_keeps P closed e i p = record { keeps = λ s i_. ((changed_unless_keeps P closed e i p (is_newer i e && in_use s i.id))).keeps s i_ }

pub unknown_keeps : (P : State → Type 0) → Closed P → (x1 : Bool) → (x2 : Entry) → (x3 : Option Item) → Preserves P (unknown x1 x2 x3)
unknown_keeps P closed true e (Some p) = new_entry_keeps P closed e p
unknown_keeps P closed true e None = keeps_ret P false
unknown_keeps P closed false e p = keeps_ret P false

pub known_keeps : (P : State → Type 0) → Closed P → (x1 : Bool) → (x2 : Entry) → (x3 : Item) → (x4 : Option Item) → Preserves P (known x1 x2 x3 x4)
known_keeps P closed true e i (Some p) = changed_entry_keeps P closed e i p
known_keeps P closed true e i None = gone_keeps P closed i
known_keeps P closed false e i p = gone_keeps P closed i

pub turn_by_keeps : (P : State → Type 0) → Closed P → (x1 : Entry) → (x2 : Option Item) → (x3 : Option Item) → Preserves P (turn_by x1 x2 x3)
turn_by_keeps P closed e None p = unknown_keeps P closed e.live e p
turn_by_keeps P closed e (Some i) p = known_keeps P closed e.live e i p

pub take_turn_keeps : (P : State → Type 0) → Closed P → (x1 : Entry) → Preserves P (take_turn x1)
take_turn_keeps P closed e = record { keeps = λ s i_. ((turn_by_keeps P closed e (by_target (items_now s) e.rid) (parent_here s e))).keeps s i_ }

pub with_turn_keeps : (P : State → Type 0) → Closed P → (x1 : Fed) → (x2 : Bool) → Preserves P (with_turn x1 x2)
with_turn_keeps P closed f postponed = keeps_ret P (record f { postponed = f.postponed || postponed })

pub first_turn_by_keeps : (P : State → Type 0) → Closed P → (x1 : Bool) → (x2 : Entry) → (x3 : Fed) → Preserves P (first_turn_by x1 x2 x3)
first_turn_by_keeps P closed true e f = keeps_ret P (record f { later = f.later ++ e ∷ [] })
first_turn_by_keeps P closed false e f = keeps_seq P (take_turn e) (with_turn f) (take_turn_keeps P closed e) (with_turn_keeps P closed f)

pub first_turn_keeps : (P : State → Type 0) → Closed P → (x1 : Entry) → (x2 : Fed) → Preserves P (first_turn x1 x2)
first_turn_keeps P closed e f = record { keeps = λ s i_. ((first_turn_by_keeps P closed (is_later s e) e f)).keeps s i_ }

pub second_turn_keeps : (P : State → Type 0) → Closed P → (x1 : Entry) → (x2 : Fed) → Preserves P (second_turn x1 x2)
second_turn_keeps P closed e f = keeps_seq P (take_turn e) (with_turn f) (take_turn_keeps P closed e) (with_turn_keeps P closed f)

pub turns_keeps : (P : State → Type 0) → Closed P → (x1 : (Entry → Fed → Arrow State Fed)) → ((z0_0 : Entry) → (z0_1 : Fed) → Preserves P (x1 z0_0 z0_1)) → (x2 : List Entry) → (x3 : Fed) → Preserves P (turns x1 x2 x3)
turns_keeps P closed f f_keeps [] so_far = keeps_ret P so_far
turns_keeps P closed f f_keeps (e ∷ es) so_far = keeps_seq P (f e so_far) (turns f es) (f_keeps e so_far) (turns_keeps P closed f f_keeps es)

pub second_turns_keeps : (P : State → Type 0) → Closed P → (x1 : Fed) → Preserves P (second_turns x1)
second_turns_keeps P closed f = turns_keeps P closed second_turn (second_turn_keeps P closed) f.later f

pub all_turns_keeps : (P : State → Type 0) → Closed P → (x1 : List Entry) → Preserves P (all_turns x1)
all_turns_keeps P closed es = record { keeps = λ s i_. ((keeps_seq P (turns first_turn (in_turn (items_now s) es) (record { postponed = false; later = [] })) second_turns (turns_keeps P closed first_turn (first_turn_keeps P closed) (in_turn (items_now s) es) (record { postponed = false; later = [] })) (second_turns_keeps P closed))).keeps s i_ }

pub cursor_if_keeps : (P : State → Type 0) → Closed P → (x1 : ℕ) → (x2 : Bool) → Preserves P (cursor_if x1 x2)
cursor_if_keeps P closed clock false = keeps_ret P unit
cursor_if_keeps P closed clock true = keeps_seq P (try_cursor clock) whatever (skips_keep.try_cursor_keeps P closed clock) (push_replies_keep.whatever_keeps P closed)

pub end_feed_keeps : (P : State → Type 0) → Closed P → (x1 : ℕ) → (x2 : ℕ) → (x3 : Fed) → Preserves P (end_feed x1 x2 x3)
end_feed_keeps P closed clock skips f = keeps_then P (in_volatile all_released) (then_do (noted (with_clock_seen clock)) (reading (is_whole skips f) (cursor_if clock))) (keeps_noted P (with_volatile all_released) (closed.keeps_volatile_all_released)) (keeps_then P (noted (with_clock_seen clock)) (reading (is_whole skips f) (cursor_if clock)) (keeps_noted P (with_clock_seen clock) (closed.keeps_with_clock_seen clock)) (keeps_reading P (is_whole skips f) (cursor_if clock) (cursor_if_keeps P closed clock)))

pub apply_entries_keeps : (P : State → Type 0) → Closed P → (x1 : ℕ) → (x2 : List Entry) → Preserves P (apply_entries x1 x2)
apply_entries_keeps P closed clock es = record { keeps = λ s i_. ((keeps_seq P (all_turns es) (end_feed clock s.running.skips) (all_turns_keeps P closed es) (end_feed_keeps P closed clock s.running.skips))).keeps s i_ }

pub apply_feed_keeps : (P : State → Type 0) → Closed P → (x1 : ℕ) → (x2 : List Entry) → Preserves P (apply_feed x1 x2)
apply_feed_keeps P closed clock es = keeps_then P (in_volatile round_closed) (apply_entries clock es) (keeps_noted P (with_volatile round_closed) (closed.keeps_volatile_round_closed)) (apply_entries_keeps P closed clock es)
