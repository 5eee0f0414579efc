-- The lines of a feed's turns only come.
use Rattle.std.proofs.Common.{Bool, true, false, List, [], ◌∷◌}
use Rattle.std.specs.Prelude.{Option, Some, None, not, ◌&&◌}
use Rattle.cf_base.specs.declared.changes.Change.TheVariants as change
use Rattle.cf_base.specs.declared.messages.Entry.{Entry}
use Rattle.cf_model.specs.Arrows.{Arrow, and_then, choose, only_if, seq}
use Rattle.cf_model.specs.Feeds.{Fed, adopt, changed_entry, changed_steps, changed_unless, first_turn, first_turn_by, free_parent, gone, gone_unless, is_adoptable, is_later, is_newer, is_removable, is_seen_so, known, make_after, make_entry, move_entry, move_in, new_entry, new_over, parent_here, remove_or_untarget, second_turn, second_turns, take_entry, take_turn, taken, turn, turn_by, turns, unknown, with_turn, seen_entry}
use Rattle.cf_model.specs.Effects.{untargeted}
use Rattle.cf_model.specs.Identities.{by_target, entry_identity, no_identity}
use Rattle.cf_model.specs.Items.{Item, base_of}
use Rattle.cf_model.specs.LookUp.{child_of}
use Rattle.cf_model.specs.Numbers.{no_item, no_usn}
use Rattle.cf_model.specs.Skips.{in_use, try_change, try_clear_name, try_mark_now, try_seen}
use Rattle.cf_model.specs.State.{State, items_now}
use Rattle.cf_model.proofs.TreeLaws.{keeps_bind}
use Rattle.cf_model_convergence.proofs.FeedTurns.{after_grows, place_grows, rebase_grows, taking_grows}
use Rattle.cf_model_convergence.proofs.TurnsGrow.{Grows, change_grows, free_grows, if_grows, names_grow, state_grows, then_grows}
use Rattle.cf_model_convergence.proofs.SinceGuarded.{Follows}

seq_grows : {A B : Type 0} (f : Arrow State A) (g : A → Arrow State B) → Grows f → ((a : A) → Grows (g a)) → Grows (seq f g)
seq_grows f g a b w = record { keeps = λ s h. keeps_bind (Follows w) (f s) g ((a w).keeps s h) (λ r t j. (b r w).keeps t j) }

turn_grows : (f : Arrow State Bool) → Grows f → Grows (turn f)
turn_grows f a = seq_grows f taken a (λ done w. record { keeps = λ s h. h })

choose_grows : {A : Type 0} (b : Bool) (f g : Arrow State A) → Grows f → Grows g → Grows (choose b f g)
choose_grows true f g a c = a
choose_grows false f g a c = c

-- new items

adopt_grows : (e : Entry) (i : Item) → Grows (adopt e i)
adopt_grows e i =
    then_grows (only_if (not i.placeholder) (try_change (change.Convert i.id no_identity))) (and_then (try_change (change.Rebase i.id (entry_identity e) 0 no_usn)) (and_then (try_seen (seen_entry i.id e)) (try_mark_now i.id)))
    (if_grows (not i.placeholder) (try_change (change.Convert i.id no_identity)) (change_grows (change.Convert i.id no_identity))) (rebase_grows e i)

make_grows : (e : Entry) (p : Item) → Grows (make_entry e p)
make_grows e p = then_grows (try_clear_name p.id e.name no_item) (make_after e p) (names_grow p.id e.name no_item) (after_grows e p)

over_grows : (e : Entry) (p : Item) (o : Option Item) → Grows (new_over e p o)
over_grows e p None = make_grows e p
over_grows e p (Some i) = choose_grows (is_adoptable e i) (adopt e i) (make_entry e p) (adopt_grows e i) (make_grows e p)

new_grows : (e : Entry) (p : Item) → Grows (new_entry e p)
new_grows e p = turn_grows (λ s. new_over e p (child_of (items_now s) p.id e.name) s) (state_grows (λ s. new_over e p (child_of (items_now s) p.id e.name)) (λ s. over_grows e p (child_of (items_now s) p.id e.name)))

unknown_grows : (b : Bool) (e : Entry) (o : Option Item) → Grows (unknown b e o)
unknown_grows true e (Some p) = new_grows e p
unknown_grows true e None = λ w. record { keeps = λ s h. h }
unknown_grows false e o = λ w. record { keeps = λ s h. h }

-- known items

leave_grows : (i : Item) (b : Bool) → Grows (remove_or_untarget i b)
leave_grows i true = change_grows (change.Remove i.id)
leave_grows i false =
    then_grows (only_if i.in_sync (try_change (change.Clear i.id))) (try_change (change.Rebase i.id (untargeted i.identity) (base_of i) no_usn))
    (if_grows i.in_sync (try_change (change.Clear i.id)) (change_grows (change.Clear i.id))) (change_grows (change.Rebase i.id (untargeted i.identity) (base_of i) no_usn))

gone_grows : (i : Item) → Grows (gone i)
gone_grows i = state_grows (λ s. gone_unless i (in_use s i.id)) (λ s. by (in_use s i.id)) where
  by : (b : Bool) → Grows (gone_unless i b)
  by true = λ w. record { keeps = λ s h. h }
  by false = turn_grows (λ s. remove_or_untarget i (is_removable s i) s) (state_grows (λ s. remove_or_untarget i (is_removable s i)) (λ s. leave_grows i (is_removable s i)))

move_all_grows : (e : Entry) (i p : Item) → Grows (move_entry e i p)
move_all_grows e i p =
    then_grows (try_clear_name p.id e.name i.id) (and_then (free_parent i p) (and_then (move_in e i p) (try_seen (seen_entry i.id e)))) (names_grow p.id e.name i.id)
    (then_grows (free_parent i p) (and_then (move_in e i p) (try_seen (seen_entry i.id e))) (free_grows i p) (place_grows e i p))

changed_grows : (e : Entry) (i p : Item) → Grows (changed_entry e i p)
changed_grows e i p = state_grows (λ s. changed_unless e i p (is_newer i e && in_use s i.id)) (λ s. by (is_newer i e && in_use s i.id)) where
  by : (b : Bool) → Grows (changed_unless e i p b)
  by true = λ w. record { keeps = λ s h. h }
  by false = turn_grows (changed_steps e i p)
      (state_grows (λ s. and_then (only_if (not (is_seen_so s i e)) (move_entry e i p)) (and_then (take_entry e i.id) (try_mark_now i.id)))
      (λ s. then_grows (only_if (not (is_seen_so s i e)) (move_entry e i p)) (and_then (take_entry e i.id) (try_mark_now i.id)) (if_grows (not (is_seen_so s i e)) (move_entry e i p) (move_all_grows e i p)) (taking_grows e i p)))

known_grows : (b : Bool) (e : Entry) (i : Item) (o : Option Item) → Grows (known b e i o)
known_grows true e i (Some p) = changed_grows e i p
known_grows true e i None = gone_grows i
known_grows false e i o = gone_grows i

by_grows : (e : Entry) (o p : Option Item) → Grows (turn_by e o p)
by_grows e None p = unknown_grows e.live e p
by_grows e (Some i) p = known_grows e.live e i p

turn_of_grows : (e : Entry) → Grows (take_turn e)
turn_of_grows e = state_grows (λ s. turn_by e (by_target (items_now s) e.rid) (parent_here s e)) (λ s. by_grows e (by_target (items_now s) e.rid) (parent_here s e))

-- all turns

pub second_grows : (e : Entry) (f : Fed) → Grows (second_turn e f)
second_grows e f = seq_grows (take_turn e) (with_turn f) (turn_of_grows e) (λ b w. record { keeps = λ s h. h })

pub first_grows : (e : Entry) (f : Fed) → Grows (first_turn e f)
first_grows e f = state_grows (λ s. first_turn_by (is_later s e) e f) (λ s. by (is_later s e)) where
  by : (b : Bool) → Grows (first_turn_by b e f)
  by true = λ w. record { keeps = λ s h. h }
  by false = second_grows e f

pub turns_grow : (f : Entry → Fed → Arrow State Fed) → ((e : Entry) (g : Fed) → Grows (f e g)) → (es : List Entry) (g : Fed) → Grows (turns f es g)
turns_grow f k [] g = λ w. record { keeps = λ s h. h }
turns_grow f k (e ∷ es) g = seq_grows (f e g) (turns f es) (k e g) (λ r. turns_grow f k es r)

pub seconds_grow : (f : Fed) → Grows (second_turns f)
seconds_grow f = turns_grow second_turn second_grows f.later f
