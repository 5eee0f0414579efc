-- The parts of `Feeds` keep identities named.
use Rattle.std.proofs.Common.{◌≡◌, ◌+◌, inl, inr, refl, sym, ap, ◌∙◌}
use Rattle.std.specs.Prelude.{ℕ, Bool, true, false, not, List, [], Option, Some, None, ◌&&◌, ◌||◌, ◌∷◌, ◌++◌, cond, nat_lt}
use Rattle.cf_base.specs.declared.changes.Change.{Change}
use Rattle.cf_base.specs.declared.changes.Change.TheVariants as change
use Rattle.cf_base.specs.declared.codes.Code.{Code}
use Rattle.cf_base.specs.declared.ids.ItemId.{ItemId}
use Rattle.cf_base.specs.declared.items.Kind.TheVariants as kind
use Rattle.cf_base.specs.declared.messages.Entry.{Entry}
use Rattle.cf_base.specs.declared.policies.Policy.{Policy}
use Rattle.cf_model.specs.Arrows.{and_then, Arrow, choose, noted, only_if, Preserves, reading, then_do, unit, when_ok}
use Rattle.cf_model.specs.Changes.{change, next_number, put_with_book, same_book}
use Rattle.cf_model.specs.ConflictNames.{conflict_name}
use Rattle.cf_model.specs.Effects.{copies, is_directory, is_populated, untargeted}
use Rattle.cf_model.specs.Feeds.{adopt, all_released, all_turns, apply_entries, apply_feed, changed_entry, changed_steps, changed_unless, copy_off, cursor_if, end_feed, Fed, first_turn, first_turn_by, free_parent, gone, gone_unless, in_turn, is_adoptable, is_later, is_newer, is_removable, is_seen_so, is_under, is_whole, known, make_after, make_entry, make_of, move_entry, move_in, name_in_root, new_entry, new_over, parent_here, remove_or_untarget, second_turn, second_turns, seen_entry, stands_in, take_entry, take_over, take_turn, taken, turn, turn_by, turns, unknown, untarget, with_clock_seen, with_turn}
use Rattle.cf_model.specs.Identities.{base_version, by_target, entry_identity, is_untargeted, no_identity}
use Rattle.cf_model.specs.Items.{base_of, is_dirty, Item, item_of, pin_of}
use Rattle.cf_model.specs.LookUp.{child_of}
use Rattle.cf_model.specs.Numbers.{no_item, no_usn, root_id}
use Rattle.cf_model.specs.Plans.{placeholder_dir}
use Rattle.cf_model.specs.PushReplies.{round_closed, whatever}
use Rattle.cf_model.specs.Skips.{do_change, in_use, in_volatile, skip_line, skipped, try_change, try_clear_name, try_cursor, try_mark_now, try_seen, why_no_change, with_volatile}
use Rattle.cf_model.specs.State.{items_now, State, Volume, with_filter}
use Rattle.cf_model.specs.Trees.{Keeps}
use Rattle.cf_model.specs.Words.{says}
use Rattle.cf_model.proofs.ArrowLaws.{keeps_and_then, keeps_noted, keeps_only_if, keeps_reading, keeps_ret, keeps_seq, keeps_then}
use Rattle.cf_model.proofs.TreeLaws.{keeps_mapped}
use Rattle.cf_model_laws.proofs.FoundItems.{found_id}
use Rattle.cf_model_laws.proofs.RightItems.{no_way}
use Rattle.cf_model_laws.proofs.SoundSettles.{left_true, same_item}
use Rattle.cf_pair_identities.specs.Named.{GivesOver, IsNamedAs, Named, NamedVolume, StandsAs}
use Rattle.cf_pair_identities.proofs.NamedItems.{found_still, one_found}
use Rattle.cf_pair_identities.proofs.NamedKinds.{dir_filled, not_so}
use Rattle.cf_pair_identities.proofs.NamedSteps.{change_by, keeps_on, put_named}
use Rattle.cf_pair_identities.proofs.PushRepliesNamed as push_replies_named
use Rattle.cf_pair_identities.proofs.SkipsNamed as skips_named

pub taken_keeps : (full : Bool) → (x1 : Bool) → Preserves (Named full) (taken x1)
taken_keeps full done = keeps_ret (Named full) false

pub turn_keeps : (full : Bool) → (x1 : Arrow State Bool) → (Preserves (Named full) (x1)) → Preserves (Named full) (turn x1)
turn_keeps full steps steps_keeps = keeps_seq (Named full) steps taken steps_keeps (taken_keeps full)

pub untarget_keeps : (full : Bool) → (x1 : Item) → Preserves (Named full) (untarget x1)
untarget_keeps full i =
    keeps_and_then (Named full) (only_if i.in_sync (try_change (change.Clear i.id))) (try_change (change.Rebase i.id (untargeted i.identity) (base_of i) no_usn))
    (keeps_only_if (Named full) i.in_sync (try_change (change.Clear i.id)) (skips_named.try_change_keeps full (change.Clear i.id) tt))
    (skips_named.try_change_keeps full (change.Rebase i.id (untargeted i.identity) (base_of i) no_usn) (inl refl))

pub remove_or_untarget_keeps : (full : Bool) → (x1 : Item) → (x2 : Bool) → Preserves (Named full) (remove_or_untarget x1 x2)
remove_or_untarget_keeps full i true = skips_named.try_change_keeps full (change.Remove i.id) tt
remove_or_untarget_keeps full i false = untarget_keeps full i

pub gone_unless_keeps : (full : Bool) → (x1 : Item) → (x2 : Bool) → Preserves (Named full) (gone_unless x1 x2)
gone_unless_keeps full i true = keeps_ret (Named full) true
gone_unless_keeps full i false = turn_keeps full (λ s. remove_or_untarget i (is_removable s i) s) (record { keeps = λ s h. (remove_or_untarget_keeps full i (is_removable s i)).keeps s h })

pub gone_keeps : (full : Bool) → (x1 : Item) → Preserves (Named full) (gone x1)
gone_keeps full i = record { keeps = λ s h. (gone_unless_keeps full i (in_use s i.id)).keeps s h }

pub adopt_keeps : (full : Bool) → (x1 : Entry) → (x2 : Item) → x1.dir ≡ true → Preserves (Named full) (adopt x1 x2)
adopt_keeps full e i dir =
    keeps_and_then (Named full) (only_if (not i.placeholder) (try_change (change.Convert i.id no_identity))) (and_then (try_change (change.Rebase i.id (entry_identity e) 0 no_usn)) (and_then (try_seen (seen_entry i.id e)) (try_mark_now i.id)))
    (keeps_only_if (Named full) (not i.placeholder) (try_change (change.Convert i.id no_identity)) (skips_named.try_change_keeps full (change.Convert i.id no_identity) refl))
    (keeps_and_then (Named full) (try_change (change.Rebase i.id (entry_identity e) 0 no_usn)) (and_then (try_seen (seen_entry i.id e)) (try_mark_now i.id)) (skips_named.try_change_keeps full (change.Rebase i.id (entry_identity e) 0 no_usn) (inr (e.dir, e.rid, e.version, (λ d. dir), refl))) (keeps_and_then (Named full) (try_seen (seen_entry i.id e)) (try_mark_now i.id) (skips_named.try_seen_keeps full (seen_entry i.id e)) (skips_named.try_mark_now_keeps full i.id)))

make_gives : (full : Bool) (p : Policy) (e : Entry) → StandsAs full p.population → (dir : Bool) → e.dir ≡ dir → IsNamedAs (is_directory (cond dir (placeholder_dir p) kind.PlaceholderFile)) (entry_identity e)
    × (full ≡ false → is_directory (cond dir (placeholder_dir p) kind.PlaceholderFile) ≡ true → is_populated (cond dir (placeholder_dir p) kind.PlaceholderFile) ≡ true)
make_gives full p e stands false q = (inr (e.dir, e.rid, e.version, (λ d. no_way d), refl), λ _ d. no_way d)
make_gives full p e stands true q = (inr (e.dir, e.rid, e.version, (λ d. q), refl), dir_filled full p stands)

pub make_after_keeps : (full : Bool) → (x1 : Entry) → (x2 : Item) → Preserves (Named full) (make_after x1 x2)
make_after_keeps full e p = record {
  keeps = λ s h. (keeps_and_then (Named full) (try_change (make_of s e p)) (and_then (try_seen (seen_entry s.filter.volume.next_item e)) (try_mark_now s.filter.volume.next_item))
      (skips_named.try_change_keeps full (make_of s e p) (make_gives full s.filter.policy e h.0.1 e.dir refl))
      (keeps_and_then (Named full) (try_seen (seen_entry s.filter.volume.next_item e)) (try_mark_now s.filter.volume.next_item) (skips_named.try_seen_keeps full (seen_entry s.filter.volume.next_item e)) (skips_named.try_mark_now_keeps full s.filter.volume.next_item))).keeps s h;
}

pub make_entry_keeps : (full : Bool) → (x1 : Entry) → (x2 : Item) → Preserves (Named full) (make_entry x1 x2)
make_entry_keeps full e p = keeps_and_then (Named full) (try_clear_name p.id e.name no_item) (make_after e p) (skips_named.try_clear_name_keeps full p.id e.name no_item) (make_after_keeps full e p)

pub new_over_keeps : (full : Bool) → (x1 : Entry) → (x2 : Item) → (x3 : Option Item) → Preserves (Named full) (new_over x1 x2 x3)
new_over_keeps full e p None = make_entry_keeps full e p
new_over_keeps full e p (Some i) = by (is_adoptable e i) refl where
  by : (b : Bool) → is_adoptable e i ≡ b → Preserves (Named full) (choose b (adopt e i) (make_entry e p))
  by true q = adopt_keeps full e i (left_true e.dir i.directory (left_true (e.dir && i.directory) (is_untargeted i) q))
  by false q = make_entry_keeps full e p

pub new_entry_keeps : (full : Bool) → (x1 : Entry) → (x2 : Item) → Preserves (Named full) (new_entry x1 x2)
new_entry_keeps full e p = turn_keeps full (λ s. new_over e p (child_of (items_now s) p.id e.name) s) (record { keeps = λ s h. (new_over_keeps full e p (child_of (items_now s) p.id e.name)).keeps s h })

pub free_parent_keeps : (full : Bool) → (x1 : Item) → (x2 : Item) → Preserves (Named full) (free_parent x1 x2)
free_parent_keeps full i p = record { keeps = λ s h. (keeps_only_if (Named full) (is_under (items_now s) p.id i.id) (try_change (change.Move p.id root_id (name_in_root (items_now s) p))) (skips_named.try_change_keeps full (change.Move p.id root_id (name_in_root (items_now s) p)) tt)).keeps s h }

pub move_in_keeps : (full : Bool) → (x1 : Entry) → (x2 : Item) → (x3 : Item) → Preserves (Named full) (move_in x1 x2 x3)
move_in_keeps full e i p = record { keeps = λ s h. (keeps_only_if (Named full) (not (says (stands_in p e.name) (item_of (items_now s) i.id))) (try_change (change.Move i.id p.id e.name)) (skips_named.try_change_keeps full (change.Move i.id p.id e.name) tt)).keeps s h }

pub move_entry_keeps : (full : Bool) → (x1 : Entry) → (x2 : Item) → (x3 : Item) → Preserves (Named full) (move_entry x1 x2 x3)
move_entry_keeps full e i p =
    keeps_and_then (Named full) (try_clear_name p.id e.name i.id) (and_then (free_parent i p) (and_then (move_in e i p) (try_seen (seen_entry i.id e))))
    (skips_named.try_clear_name_keeps full p.id e.name i.id)
    (keeps_and_then (Named full) (free_parent i p) (and_then (move_in e i p) (try_seen (seen_entry i.id e))) (free_parent_keeps full i p) (keeps_and_then (Named full) (move_in e i p) (try_seen (seen_entry i.id e)) (move_in_keeps full e i p) (skips_named.try_seen_keeps full (seen_entry i.id e))))

-- the file stands there, while its writes go on in a copy
abbrev IsFile : Bool → ItemId → State → Type 0
IsFile full id s = Named full s × ((i : Item) × (item_of (items_now s) id ≡ Some i) × (i.directory ≡ false))

abbrev IsFileIn : Bool → ItemId → Volume → Type 0
IsFileIn full id v = NamedVolume full v × ((i : Item) × (item_of v.items id ≡ Some i) × (i.directory ≡ false))

copy_put : (full : Bool) (id new from parent : ItemId) (name : List ℕ) (v : Volume) → IsFileIn full id v → IsFileIn full id (put_with_book same_book (change.Copy new from parent name) v)
copy_put full id new from parent name v h =
    (put_named full same_book (change.Copy new from parent name) v tt h.0, (h.1.0, found_still v.items (copies new parent name (pin_of v.items parent) (next_number v) (item_of v.items from)) id h.1.0 h.1.1, h.1.2))

skips_file : (full : Bool) (id : ItemId) (c : Code) (s : State) → IsFile full id s → IsFile full id (skipped c s)
skips_file full id c s h = by s.running.shows_skips where
  by : (b : Bool) → IsFile full id (skip_line b c (record s { running = record s.running { skips = s.running.skips + 1 } }))
  by true = h
  by false = h

copy_off_at : (full : Bool) (i : Item) (s : State) → IsFile full i.id s → Keeps (IsFile full i.id) (copy_off i s)
copy_off_at full i s h =
    let c : Change = change.Copy s.filter.volume.next_item i.id i.parent (conflict_name (items_now s) i.parent i.name) in
    skips_named.tried_at (IsFile full i.id) (skips_file full i.id) (why_no_change c) (do_change c) s h
    (keeps_mapped (λ x. IsFileIn full i.id x.volume × StandsAs full x.policy.population) (IsFile full i.id) (λ x. with_filter x s) (change c s.filter) (λ x k. (((k.0.0, k.1), h.0.1), k.0.1))
    (change_by (IsFileIn full i.id) (IsFileIn full i.id) (λ p. StandsAs full p.population) same_book c (λ v k. (k, k)) (λ v k. k)
    (λ v k. copy_put full i.id s.filter.volume.next_item i.id i.parent (conflict_name (items_now s) i.parent i.name) v k) s.filter (h.0.0.0, h.1) h.0.0.1))

take_gives : (full : Bool) (e : Entry) (i : Item) (s : State) → IsFile full i.id s → GivesOver full (items_now s) (change.Take i.id (entry_identity e) e.len)
take_gives full e i s h = λ j there. inr (e.dir, e.rid, e.version, (λ d. no_way (sym h.1.2 ∙ ap (λ (k : Item). k.directory) (one_found (items_now s) i.id h.1.0 j h.1.1 there) ∙ d)), refl)

take_over_at : (full : Bool) (e : Entry) (i : Item) (s : State) → Named full s → item_of (items_now s) i.id ≡ Some i → Keeps (Named full) (take_over e (Some i) s)
take_over_at full e i s h there = by (is_newer i e) refl where
  copied : (b : Bool) → IsFile full i.id s → Keeps (IsFile full i.id) (only_if b (copy_off i) s)
  copied true k = copy_off_at full i s k
  copied false k = k

  taken_after : (done : Bool) (t : State) → IsFile full i.id t → Keeps (Named full) (when_ok false (try_change (change.Take i.id (entry_identity e) e.len)) done t)
  taken_after true t k = skips_named.try_change_over full (change.Take i.id (entry_identity e) e.len) t (take_gives full e i t k) k.0
  taken_after false t k = k.0

  is_file : is_newer i e ≡ true → i.directory ≡ false
  is_file q = not_so i.directory (left_true (not i.directory) (nat_lt (base_version i).0 e.version.0) q)

  by : (b : Bool) → is_newer i e ≡ b → Keeps (Named full) (only_if b (and_then (only_if (is_dirty i) (copy_off i)) (try_change (change.Take i.id (entry_identity e) e.len))) s)
  by true q =
      keeps_on (IsFile full i.id) (Named full) (only_if (is_dirty i) (copy_off i) s) (when_ok false (try_change (change.Take i.id (entry_identity e) e.len))) (λ t k. k.0) (copied (is_dirty i) (h, (i, there, is_file q))) taken_after
  by false q = h

pub take_entry_keeps : (full : Bool) → (x1 : Entry) → (x2 : ItemId) → Preserves (Named full) (take_entry x1 x2)
take_entry_keeps full e id = record { keeps = λ s h. by s h (item_of (items_now s) id) refl } where
  by : (s : State) → Named full s → (o : Option Item) → item_of (items_now s) id ≡ o → Keeps (Named full) (take_over e o s)
  by s h None q = h
  by s h (Some i) q = take_over_at full e i s h (ap (item_of (items_now s)) (same_item i.id id (found_id id (items_now s) i q)) ∙ q)

pub changed_steps_keeps : (full : Bool) → (x1 : Entry) → (x2 : Item) → (x3 : Item) → Preserves (Named full) (changed_steps x1 x2 x3)
changed_steps_keeps full e i p = record { keeps = λ s h. (keeps_and_then (Named full) (only_if (not (is_seen_so s i e)) (move_entry e i p)) (and_then (take_entry e i.id) (try_mark_now i.id)) (keeps_only_if (Named full) (not (is_seen_so s i e)) (move_entry e i p) (move_entry_keeps full e i p)) (keeps_and_then (Named full) (take_entry e i.id) (try_mark_now i.id) (take_entry_keeps full e i.id) (skips_named.try_mark_now_keeps full i.id))).keeps s h }

pub changed_unless_keeps : (full : Bool) → (x1 : Entry) → (x2 : Item) → (x3 : Item) → (x4 : Bool) → Preserves (Named full) (changed_unless x1 x2 x3 x4)
changed_unless_keeps full e i p true = keeps_ret (Named full) true
changed_unless_keeps full e i p false = turn_keeps full (changed_steps e i p) (changed_steps_keeps full e i p)

pub changed_entry_keeps : (full : Bool) → (x1 : Entry) → (x2 : Item) → (x3 : Item) → Preserves (Named full) (changed_entry x1 x2 x3)
changed_entry_keeps full e i p = record { keeps = λ s h. (changed_unless_keeps full e i p (is_newer i e && in_use s i.id)).keeps s h }

pub unknown_keeps : (full : Bool) → (x1 : Bool) → (x2 : Entry) → (x3 : Option Item) → Preserves (Named full) (unknown x1 x2 x3)
unknown_keeps full true e (Some p) = new_entry_keeps full e p
unknown_keeps full true e None = keeps_ret (Named full) false
unknown_keeps full false e p = keeps_ret (Named full) false

pub known_keeps : (full : Bool) → (x1 : Bool) → (x2 : Entry) → (x3 : Item) → (x4 : Option Item) → Preserves (Named full) (known x1 x2 x3 x4)
known_keeps full true e i (Some p) = changed_entry_keeps full e i p
known_keeps full true e i None = gone_keeps full i
known_keeps full false e i p = gone_keeps full i

pub turn_by_keeps : (full : Bool) → (x1 : Entry) → (x2 : Option Item) → (x3 : Option Item) → Preserves (Named full) (turn_by x1 x2 x3)
turn_by_keeps full e None p = unknown_keeps full e.live e p
turn_by_keeps full e (Some i) p = known_keeps full e.live e i p

pub take_turn_keeps : (full : Bool) → (x1 : Entry) → Preserves (Named full) (take_turn x1)
take_turn_keeps full e = record { keeps = λ s h. (turn_by_keeps full e (by_target (items_now s) e.rid) (parent_here s e)).keeps s h }

pub with_turn_keeps : (full : Bool) → (x1 : Fed) → (x2 : Bool) → Preserves (Named full) (with_turn x1 x2)
with_turn_keeps full f postponed = keeps_ret (Named full) (record f { postponed = f.postponed || postponed })

pub first_turn_by_keeps : (full : Bool) → (x1 : Bool) → (x2 : Entry) → (x3 : Fed) → Preserves (Named full) (first_turn_by x1 x2 x3)
first_turn_by_keeps full true e f = keeps_ret (Named full) (record f { later = f.later ++ e ∷ [] })
first_turn_by_keeps full false e f = keeps_seq (Named full) (take_turn e) (with_turn f) (take_turn_keeps full e) (with_turn_keeps full f)

pub first_turn_keeps : (full : Bool) → (x1 : Entry) → (x2 : Fed) → Preserves (Named full) (first_turn x1 x2)
first_turn_keeps full e f = record { keeps = λ s h. (first_turn_by_keeps full (is_later s e) e f).keeps s h }

pub second_turn_keeps : (full : Bool) → (x1 : Entry) → (x2 : Fed) → Preserves (Named full) (second_turn x1 x2)
second_turn_keeps full e f = keeps_seq (Named full) (take_turn e) (with_turn f) (take_turn_keeps full e) (with_turn_keeps full f)

pub turns_keeps : (full : Bool) → (x1 : (Entry → Fed → Arrow State Fed)) → ((z0_0 : Entry) → (z0_1 : Fed) → Preserves (Named full) (x1 z0_0 z0_1)) → (x2 : List Entry) → (x3 : Fed) → Preserves (Named full) (turns x1 x2 x3)
turns_keeps full f f_keeps [] so_far = keeps_ret (Named full) so_far
turns_keeps full f f_keeps (e ∷ es) so_far = keeps_seq (Named full) (f e so_far) (turns f es) (f_keeps e so_far) (turns_keeps full f f_keeps es)

pub second_turns_keeps : (full : Bool) → (x1 : Fed) → Preserves (Named full) (second_turns x1)
second_turns_keeps full f = turns_keeps full second_turn (second_turn_keeps full) f.later f

pub all_turns_keeps : (full : Bool) → (x1 : List Entry) → Preserves (Named full) (all_turns x1)
all_turns_keeps full es = record { keeps = λ s h. (keeps_seq (Named full) (turns first_turn (in_turn (items_now s) es) (record { postponed = false; later = [] })) second_turns (turns_keeps full first_turn (first_turn_keeps full) (in_turn (items_now s) es) (record { postponed = false; later = [] })) (second_turns_keeps full)).keeps s h }

pub cursor_if_keeps : (full : Bool) → (x1 : ℕ) → (x2 : Bool) → Preserves (Named full) (cursor_if x1 x2)
cursor_if_keeps full clock false = keeps_ret (Named full) unit
cursor_if_keeps full clock true = keeps_seq (Named full) (try_cursor clock) whatever (skips_named.try_cursor_keeps full clock) (push_replies_named.whatever_keeps full)

pub end_feed_keeps : (full : Bool) → (x1 : ℕ) → (x2 : ℕ) → (x3 : Fed) → Preserves (Named full) (end_feed x1 x2 x3)
end_feed_keeps full clock skips f =
    keeps_then (Named full) (in_volatile all_released) (then_do (noted (with_clock_seen clock)) (reading (is_whole skips f) (cursor_if clock)))
    (keeps_noted (Named full) (with_volatile all_released) (λ s h. h))
    (keeps_then (Named full) (noted (with_clock_seen clock)) (reading (is_whole skips f) (cursor_if clock)) (keeps_noted (Named full) (with_clock_seen clock) (λ s h. h)) (keeps_reading (Named full) (is_whole skips f) (cursor_if clock) (cursor_if_keeps full clock)))

pub apply_entries_keeps : (full : Bool) → (x1 : ℕ) → (x2 : List Entry) → Preserves (Named full) (apply_entries x1 x2)
apply_entries_keeps full clock es = record { keeps = λ s h. (keeps_seq (Named full) (all_turns es) (end_feed clock s.running.skips) (all_turns_keeps full es) (end_feed_keeps full clock s.running.skips)).keeps s h }

pub apply_feed_keeps : (full : Bool) → (x1 : ℕ) → (x2 : List Entry) → Preserves (Named full) (apply_feed x1 x2)
apply_feed_keeps full clock es = keeps_then (Named full) (in_volatile round_closed) (apply_entries clock es) (keeps_noted (Named full) (with_volatile round_closed) (λ s h. h)) (apply_entries_keeps full clock es)
