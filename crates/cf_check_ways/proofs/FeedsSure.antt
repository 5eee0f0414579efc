-- The parts of `Feeds` are sure, each by its own parts.
use Rattle.std.proofs.Common.{refl}
use Rattle.std.specs.Prelude.{ℕ, Bool, true, false, not, List, [], Option, Some, None, ◌&&◌, ◌||◌, ◌∷◌, ◌++◌}
use Rattle.cf_base.specs.declared.changes.Change.TheVariants as change
use Rattle.cf_base.specs.declared.ids.ItemId.{ItemId}
use Rattle.cf_base.specs.declared.messages.Entry.{Entry}
use Rattle.cf_model.specs.Arrows.{Arrow, and_then, noted, only_if, reading, seq, then_do, unit}
use Rattle.cf_model.specs.ConflictNames.{conflict_name}
use Rattle.cf_model.specs.Effects.{untargeted}
use Rattle.cf_model.specs.Identities.{by_target, entry_identity, no_identity}
use Rattle.cf_model.specs.Items.{Item, base_of, is_dirty, item_of}
use Rattle.cf_model.specs.LookUp.{child_of}
use Rattle.cf_model.specs.Numbers.{no_item, no_usn, root_id}
use Rattle.cf_model.specs.PushReplies.{round_closed, whatever}
use Rattle.cf_model.specs.Skips.{in_use, in_volatile, try_change, try_clear_name, try_cursor, try_mark_now, try_seen, with_volatile}
use Rattle.cf_model.specs.State.{State, items_now}
use Rattle.cf_model.specs.Words.{says}
use Rattle.cf_model.specs.Feeds.{Fed, adopt, all_released, all_turns, apply_entries, apply_feed, changed_entry, changed_steps, changed_unless, copy_off, cursor_if, end_feed, first_turn, first_turn_by, free_parent, gone, gone_unless, in_turn, is_adoptable, is_later, is_newer, is_removable, is_seen_so, is_under, is_whole, known, make_after, make_entry, make_of, move_entry, move_in, name_in_root, new_entry, new_over, parent_here, remove_or_untarget, second_turn, second_turns, seen_entry, stands_in, take_entry, take_over, take_turn, taken, turn, turn_by, turns, unknown, untarget, with_clock_seen, with_turn}
use Rattle.cf_check_ways.specs.Ways.{IsSure, of_state}
use Rattle.cf_check_ways.proofs.Sure.{plain_quiet, reads_fixed, sure_and_then, sure_choose, sure_fixed, sure_noted, sure_only_if, sure_reading, sure_ret, sure_seq, sure_then}
use Rattle.cf_check_ways.proofs.StateSteps.{volatile_plain}
use Rattle.cf_check_ways.proofs.PushRepliesSure as push_replies_sure
use Rattle.cf_check_ways.proofs.SkipsSure as skips_sure

pub taken_sure : (x1 : Bool) → IsSure of_state (taken x1)
taken_sure done = sure_ret of_state false

pub turn_sure : (x1 : Arrow State Bool) → (IsSure of_state (x1)) → IsSure of_state (turn x1)
turn_sure steps steps_sure = sure_seq of_state steps taken steps_sure (taken_sure)

pub untarget_sure : (x1 : Item) → IsSure of_state (untarget x1)
untarget_sure i = sure_and_then of_state (only_if i.in_sync (try_change (change.Clear i.id))) (try_change (change.Rebase i.id (untargeted i.identity) (base_of i) no_usn)) (sure_only_if of_state i.in_sync (try_change (change.Clear i.id)) (skips_sure.try_change_sure (change.Clear i.id))) (skips_sure.try_change_sure (change.Rebase i.id (untargeted i.identity) (base_of i) no_usn))

pub remove_or_untarget_sure : (x1 : Item) → (x2 : Bool) → IsSure of_state (remove_or_untarget x1 x2)
remove_or_untarget_sure i true = skips_sure.try_change_sure (change.Remove i.id)
remove_or_untarget_sure i false = untarget_sure i

pub gone_unless_sure : (x1 : Item) → (x2 : Bool) → IsSure of_state (gone_unless x1 x2)
gone_unless_sure i true = sure_ret of_state true
gone_unless_sure i false = turn_sure (λ s. remove_or_untarget i (is_removable s i) s) (sure_fixed of_state (λ s. remove_or_untarget i (is_removable s i) s) (λ x. remove_or_untarget i (is_removable x i)) (λ s. refl) (λ x. remove_or_untarget_sure i (is_removable x i)))

pub gone_sure : (x1 : Item) → IsSure of_state (gone x1)
gone_sure i = sure_fixed of_state (gone i) (λ x. gone_unless i (in_use x i.id)) (λ s. refl) (λ x. gone_unless_sure i (in_use x i.id))

pub adopt_sure : (x1 : Entry) → (x2 : Item) → IsSure of_state (adopt x1 x2)
adopt_sure e i = sure_and_then of_state (only_if (not i.placeholder) (try_change (change.Convert i.id no_identity))) (and_then (try_change (change.Rebase i.id (entry_identity e) 0 no_usn)) (and_then (try_seen (seen_entry i.id e)) (try_mark_now i.id))) (sure_only_if of_state (not i.placeholder) (try_change (change.Convert i.id no_identity)) (skips_sure.try_change_sure (change.Convert i.id no_identity))) (sure_and_then of_state (try_change (change.Rebase i.id (entry_identity e) 0 no_usn)) (and_then (try_seen (seen_entry i.id e)) (try_mark_now i.id)) (skips_sure.try_change_sure (change.Rebase i.id (entry_identity e) 0 no_usn)) (sure_and_then of_state (try_seen (seen_entry i.id e)) (try_mark_now i.id) (skips_sure.try_seen_sure (seen_entry i.id e)) (skips_sure.try_mark_now_sure i.id)))

pub make_after_sure : (x1 : Entry) → (x2 : Item) → IsSure of_state (make_after x1 x2)
make_after_sure e p = sure_fixed of_state (make_after e p) (λ x. and_then (try_change (make_of x e p)) (and_then (try_seen (seen_entry x.filter.volume.next_item e)) (try_mark_now x.filter.volume.next_item))) (λ s. refl) (λ x. sure_and_then of_state (try_change (make_of x e p)) (and_then (try_seen (seen_entry x.filter.volume.next_item e)) (try_mark_now x.filter.volume.next_item)) (skips_sure.try_change_sure (make_of x e p)) (sure_and_then of_state (try_seen (seen_entry x.filter.volume.next_item e)) (try_mark_now x.filter.volume.next_item) (skips_sure.try_seen_sure (seen_entry x.filter.volume.next_item e)) (skips_sure.try_mark_now_sure x.filter.volume.next_item)))

pub make_entry_sure : (x1 : Entry) → (x2 : Item) → IsSure of_state (make_entry x1 x2)
make_entry_sure e p = sure_and_then of_state (try_clear_name p.id e.name no_item) (make_after e p) (skips_sure.try_clear_name_sure p.id e.name no_item) (make_after_sure e p)

pub new_over_sure : (x1 : Entry) → (x2 : Item) → (x3 : Option Item) → IsSure of_state (new_over x1 x2 x3)
new_over_sure e p None = make_entry_sure e p
new_over_sure e p (Some i) = sure_choose of_state (is_adoptable e i) (adopt e i) (make_entry e p) (adopt_sure e i) (make_entry_sure e p)

pub new_entry_sure : (x1 : Entry) → (x2 : Item) → IsSure of_state (new_entry x1 x2)
new_entry_sure e p = turn_sure (λ s. new_over e p (child_of (items_now s) p.id e.name) s) (sure_fixed of_state (λ s. new_over e p (child_of (items_now s) p.id e.name) s) (λ x. new_over e p (child_of (items_now x) p.id e.name)) (λ s. refl) (λ x. new_over_sure e p (child_of (items_now x) p.id e.name)))

pub free_parent_sure : (x1 : Item) → (x2 : Item) → IsSure of_state (free_parent x1 x2)
free_parent_sure i p = sure_fixed of_state (free_parent i p) (λ x. only_if (is_under (items_now x) p.id i.id) (try_change (change.Move p.id root_id (name_in_root (items_now x) p)))) (λ s. refl) (λ x. sure_only_if of_state (is_under (items_now x) p.id i.id) (try_change (change.Move p.id root_id (name_in_root (items_now x) p))) (skips_sure.try_change_sure (change.Move p.id root_id (name_in_root (items_now x) p))))

pub move_in_sure : (x1 : Entry) → (x2 : Item) → (x3 : Item) → IsSure of_state (move_in x1 x2 x3)
move_in_sure e i p = sure_fixed of_state (move_in e i p) (λ x. only_if (not (says (stands_in p e.name) (item_of (items_now x) i.id))) (try_change (change.Move i.id p.id e.name))) (λ s. refl) (λ x. sure_only_if of_state (not (says (stands_in p e.name) (item_of (items_now x) i.id))) (try_change (change.Move i.id p.id e.name)) (skips_sure.try_change_sure (change.Move i.id p.id e.name)))

pub move_entry_sure : (x1 : Entry) → (x2 : Item) → (x3 : Item) → IsSure of_state (move_entry x1 x2 x3)
move_entry_sure e i p = sure_and_then of_state (try_clear_name p.id e.name i.id) (and_then (free_parent i p) (and_then (move_in e i p) (try_seen (seen_entry i.id e)))) (skips_sure.try_clear_name_sure p.id e.name i.id) (sure_and_then of_state (free_parent i p) (and_then (move_in e i p) (try_seen (seen_entry i.id e))) (free_parent_sure i p) (sure_and_then of_state (move_in e i p) (try_seen (seen_entry i.id e)) (move_in_sure e i p) (skips_sure.try_seen_sure (seen_entry i.id e))))

pub copy_off_sure : (x1 : Item) → IsSure of_state (copy_off x1)
copy_off_sure i = sure_fixed of_state (copy_off i) (λ x. try_change (change.Copy x.filter.volume.next_item i.id i.parent (conflict_name (items_now x) i.parent i.name))) (λ s. refl) (λ x. skips_sure.try_change_sure (change.Copy x.filter.volume.next_item i.id i.parent (conflict_name (items_now x) i.parent i.name)))

pub take_over_sure : (x1 : Entry) → (x2 : Option Item) → IsSure of_state (take_over x1 x2)
take_over_sure e None = sure_ret of_state true
take_over_sure e (Some i) = sure_only_if of_state (is_newer i e) (and_then (only_if (is_dirty i) (copy_off i)) (try_change (change.Take i.id (entry_identity e) e.len))) (sure_and_then of_state (only_if (is_dirty i) (copy_off i)) (try_change (change.Take i.id (entry_identity e) e.len)) (sure_only_if of_state (is_dirty i) (copy_off i) (copy_off_sure i)) (skips_sure.try_change_sure (change.Take i.id (entry_identity e) e.len)))

pub take_entry_sure : (x1 : Entry) → (x2 : ItemId) → IsSure of_state (take_entry x1 x2)
take_entry_sure e id = sure_fixed of_state (take_entry e id) (λ x. take_over e (item_of (items_now x) id)) (λ s. refl) (λ x. take_over_sure e (item_of (items_now x) id))

pub changed_steps_sure : (x1 : Entry) → (x2 : Item) → (x3 : Item) → IsSure of_state (changed_steps x1 x2 x3)
changed_steps_sure e i p = sure_fixed of_state (changed_steps e i p) (λ x. and_then (only_if (not (is_seen_so x i e)) (move_entry e i p)) (and_then (take_entry e i.id) (try_mark_now i.id))) (λ s. refl) (λ x. sure_and_then of_state (only_if (not (is_seen_so x i e)) (move_entry e i p)) (and_then (take_entry e i.id) (try_mark_now i.id)) (sure_only_if of_state (not (is_seen_so x i e)) (move_entry e i p) (move_entry_sure e i p)) (sure_and_then of_state (take_entry e i.id) (try_mark_now i.id) (take_entry_sure e i.id) (skips_sure.try_mark_now_sure i.id)))

pub changed_unless_sure : (x1 : Entry) → (x2 : Item) → (x3 : Item) → (x4 : Bool) → IsSure of_state (changed_unless x1 x2 x3 x4)
changed_unless_sure e i p true = sure_ret of_state true
changed_unless_sure e i p false = turn_sure (changed_steps e i p) (changed_steps_sure e i p)

pub changed_entry_sure : (x1 : Entry) → (x2 : Item) → (x3 : Item) → IsSure of_state (changed_entry x1 x2 x3)
changed_entry_sure e i p = sure_fixed of_state (changed_entry e i p) (λ x. changed_unless e i p (is_newer i e && in_use x i.id)) (λ s. refl) (λ x. changed_unless_sure e i p (is_newer i e && in_use x i.id))

pub unknown_sure : (x1 : Bool) → (x2 : Entry) → (x3 : Option Item) → IsSure of_state (unknown x1 x2 x3)
unknown_sure true e (Some p) = new_entry_sure e p
unknown_sure true e None = sure_ret of_state false
unknown_sure false e p = sure_ret of_state false

pub known_sure : (x1 : Bool) → (x2 : Entry) → (x3 : Item) → (x4 : Option Item) → IsSure of_state (known x1 x2 x3 x4)
known_sure true e i (Some p) = changed_entry_sure e i p
known_sure true e i None = gone_sure i
known_sure false e i p = gone_sure i

pub turn_by_sure : (x1 : Entry) → (x2 : Option Item) → (x3 : Option Item) → IsSure of_state (turn_by x1 x2 x3)
turn_by_sure e None p = unknown_sure e.live e p
turn_by_sure e (Some i) p = known_sure e.live e i p

pub take_turn_sure : (x1 : Entry) → IsSure of_state (take_turn x1)
take_turn_sure e = sure_fixed of_state (take_turn e) (λ x. turn_by e (by_target (items_now x) e.rid) (parent_here x e)) (λ s. refl) (λ x. turn_by_sure e (by_target (items_now x) e.rid) (parent_here x e))

pub with_turn_sure : (x1 : Fed) → (x2 : Bool) → IsSure of_state (with_turn x1 x2)
with_turn_sure f postponed = sure_ret of_state (record f { postponed = f.postponed || postponed })

pub first_turn_by_sure : (x1 : Bool) → (x2 : Entry) → (x3 : Fed) → IsSure of_state (first_turn_by x1 x2 x3)
first_turn_by_sure true e f = sure_ret of_state (record f { later = f.later ++ e ∷ [] })
first_turn_by_sure false e f = sure_seq of_state (take_turn e) (with_turn f) (take_turn_sure e) (with_turn_sure f)

pub first_turn_sure : (x1 : Entry) → (x2 : Fed) → IsSure of_state (first_turn x1 x2)
first_turn_sure e f = sure_fixed of_state (first_turn e f) (λ x. first_turn_by (is_later x e) e f) (λ s. refl) (λ x. first_turn_by_sure (is_later x e) e f)

pub second_turn_sure : (x1 : Entry) → (x2 : Fed) → IsSure of_state (second_turn x1 x2)
second_turn_sure e f = sure_seq of_state (take_turn e) (with_turn f) (take_turn_sure e) (with_turn_sure f)

pub turns_sure : (x1 : (Entry → Fed → Arrow State Fed)) → ((z0_0 : Entry) → (z0_1 : Fed) → IsSure of_state (x1 z0_0 z0_1)) → (x2 : List Entry) → (x3 : Fed) → IsSure of_state (turns x1 x2 x3)
turns_sure f f_sure [] so_far = sure_ret of_state so_far
turns_sure f f_sure (e ∷ es) so_far = sure_seq of_state (f e so_far) (turns f es) (f_sure e so_far) (turns_sure f f_sure es)

pub second_turns_sure : (x1 : Fed) → IsSure of_state (second_turns x1)
second_turns_sure f = turns_sure second_turn (second_turn_sure) f.later f

pub all_turns_sure : (x1 : List Entry) → IsSure of_state (all_turns x1)
all_turns_sure es = sure_fixed of_state (all_turns es) (λ x. seq (turns first_turn (in_turn (items_now x) es) (record { postponed = false; later = [] })) second_turns) (λ s. refl) (λ x. sure_seq of_state (turns first_turn (in_turn (items_now x) es) (record { postponed = false; later = [] })) second_turns (turns_sure first_turn (first_turn_sure) (in_turn (items_now x) es) (record { postponed = false; later = [] })) (second_turns_sure))

pub cursor_if_sure : (x1 : ℕ) → (x2 : Bool) → IsSure of_state (cursor_if x1 x2)
cursor_if_sure clock false = sure_ret of_state unit
cursor_if_sure clock true = sure_seq of_state (try_cursor clock) whatever (skips_sure.try_cursor_sure clock) (push_replies_sure.whatever_sure)

pub end_feed_sure : (x1 : ℕ) → (x2 : ℕ) → (x3 : Fed) → IsSure of_state (end_feed x1 x2 x3)
end_feed_sure clock skips f = sure_then of_state (in_volatile all_released) (then_do (noted (with_clock_seen clock)) (reading (is_whole skips f) (cursor_if clock))) (sure_noted of_state (with_volatile all_released) (volatile_plain all_released)) (sure_then of_state (noted (with_clock_seen clock)) (reading (is_whole skips f) (cursor_if clock)) (sure_noted of_state (with_clock_seen clock) (plain_quiet of_state (with_clock_seen clock) (λ s. refl) (λ s. refl) (λ s. refl) (λ s. refl) (λ s. refl) (λ s. refl))) (sure_reading of_state (is_whole skips f) (cursor_if clock) (reads_fixed of_state (is_whole skips f) (λ s. refl)) (cursor_if_sure clock)))

pub apply_entries_sure : (x1 : ℕ) → (x2 : List Entry) → IsSure of_state (apply_entries x1 x2)
apply_entries_sure clock es = sure_fixed of_state (apply_entries clock es) (λ x. seq (all_turns es) (end_feed clock x.running.skips)) (λ s. refl) (λ x. sure_seq of_state (all_turns es) (end_feed clock x.running.skips) (all_turns_sure es) (end_feed_sure clock x.running.skips))

pub apply_feed_sure : (x1 : ℕ) → (x2 : List Entry) → IsSure of_state (apply_feed x1 x2)
apply_feed_sure clock es = sure_then of_state (in_volatile round_closed) (apply_entries clock es) (sure_noted of_state (with_volatile round_closed) (volatile_plain round_closed)) (apply_entries_sure clock es)
