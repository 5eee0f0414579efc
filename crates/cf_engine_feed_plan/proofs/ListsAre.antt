-- The lists of steps of an entry that is gone or new do what the rules of feeds say.
use Rattle.std.proofs.Common.{◌≡◌, Bool, true, false, not, cond, List, [], ◌∷◌, sym, ◌∙◌, ap₂, ◌≤◌, ℕ, arith}
use Rattle.std.specs.Prelude.{Option, Some, None, option_map, max, ◌++◌}
use Rattle.cf_base.specs.declared.changes.Change.{Change}
use Rattle.cf_base.specs.declared.changes.Change.TheVariants as change
use Rattle.cf_base.specs.declared.ids.ItemId.{ItemId}
use Rattle.cf_base.specs.declared.messages.Entry.{Entry}
use Rattle.cf_base.specs.declared.policies.Policy.{Policy}
use Rattle.cf_model.specs.Arrows.{and_then, choose, only_if, when_ok}
use Rattle.cf_model.specs.ConflictNames.{conflict_name}
use Rattle.cf_model.specs.Effects.{untargeted}
use Rattle.cf_model.specs.Feeds.{adopt, is_adoptable, make_after, make_entry, remove_or_untarget, seen_entry, untarget}
use Rattle.cf_model.specs.Feeds as feeds
use Rattle.cf_model.specs.Identities.{entry_identity, no_identity}
use Rattle.cf_model.specs.Items.{Item, base_of}
use Rattle.cf_model.specs.Numbers.{no_item, no_usn}
use Rattle.cf_model.specs.Skips.{conflict_move, move_off, occupant, try_change, try_mark_now, try_seen}
use Rattle.cf_model.specs.State.{State, items_now}
use Rattle.cf_model.specs.Trees.{bind}
use Rattle.cf_model.specs.Words.{when}
use Rattle.cf_engine_feed_plan.specs.Lists.{adopt_steps, applied, gone_steps, is_removable, make_of, make_steps, new_over, untarget_steps}
use Rattle.cf_engine_feed_plan.specs.Turns.{do_steps}
use Rattle.cf_engine_feed_plan.specs.declared.entry_steps.Step.{Step}
use Rattle.cf_engine_feed_plan.specs.declared.entry_steps.Step.TheVariants.{Apply, Mark, Seen}
use Rattle.cf_engine_feed_plan.proofs.ChangesEnd.{IsAfter, change_ends}
use Rattle.cf_engine_feed_plan.proofs.TreesSame.{and_same, last_step, three_steps}
use Rattle.cf_tree.proofs.Walks.{same_item_id}

-- gone

abbrev rebase_off : Item → Change
rebase_off i = change.Rebase i.id (untargeted i.identity) (base_of i) no_usn

untarget_is : (i : Item) (s : State) → do_steps (untarget_steps i) s ≡ untarget i s
untarget_is i s = two i.in_sync where
  two : (b : Bool) → do_steps (when b (Apply (change.Clear i.id) ∷ []) ++ Apply (rebase_off i) ∷ []) s ≡ and_then (only_if b (try_change (change.Clear i.id))) (try_change (rebase_off i)) s
  two true = and_same (try_change (change.Clear i.id)) (do_steps (Apply (rebase_off i) ∷ [])) (try_change (rebase_off i)) s (λ t e. last_step (Apply (rebase_off i)) t)
  two false = last_step (Apply (rebase_off i)) s

pub gone_is : (items : List Item) (i : Item) (s : State) → do_steps (gone_steps items i) s ≡ remove_or_untarget i (is_removable items i) s
gone_is items i s = two (is_removable items i) where
  two : (b : Bool) → do_steps (cond b (Apply (change.Remove i.id) ∷ []) (untarget_steps i)) s ≡ remove_or_untarget i b s
  two true = last_step (Apply (change.Remove i.id)) s
  two false = untarget_is i s

-- new

abbrev rebase_on : Entry → Item → Change
rebase_on e i = change.Rebase i.id (entry_identity e) 0 no_usn

adopt_is : (e : Entry) (i : Item) (s : State) → do_steps (adopt_steps e i) s ≡ adopt e i s
adopt_is e i s = two (not i.placeholder) where
  two : (b : Bool) → do_steps (when b (Apply (change.Convert i.id no_identity) ∷ []) ++ Apply (rebase_on e i) ∷ Seen (seen_entry i.id e) ∷ Mark i.id ∷ []) s
      ≡ and_then (only_if b (try_change (change.Convert i.id no_identity))) (and_then (try_change (rebase_on e i)) (and_then (try_seen (seen_entry i.id e)) (try_mark_now i.id))) s
  two true = and_same (try_change (change.Convert i.id no_identity)) (do_steps (Apply (rebase_on e i) ∷ Seen (seen_entry i.id e) ∷ Mark i.id ∷ []))
      (and_then (try_change (rebase_on e i)) (and_then (try_seen (seen_entry i.id e)) (try_mark_now i.id))) s (λ t h. three_steps (Apply (rebase_on e i)) (Seen (seen_entry i.id e)) (Mark i.id) t)
  two false = three_steps (Apply (rebase_on e i)) (Seen (seen_entry i.id e)) (Mark i.id) s

abbrev made_steps : Policy → ItemId → Entry → ItemId → List Step
made_steps policy next e parent = Apply (make_of policy next e parent) ∷ Seen (seen_entry next e) ∷ Mark next ∷ []

made_now : (e : Entry) (p : Item) (s : State) → do_steps (made_steps s.filter.policy s.filter.volume.next_item e p.id) s ≡ make_after e p s
made_now e p s = three_steps (Apply (make_of s.filter.policy s.filter.volume.next_item e p.id)) (Seen (seen_entry s.filter.volume.next_item e)) (Mark s.filter.volume.next_item) s

-- a move leaves the next id
pub same_next : (item parent : ItemId) (name : List ℕ) (s t : State) → 2 ≤ s.filter.volume.next_item.0 → IsAfter (change.Move item parent name) s t → t.filter.volume.next_item ≡ s.filter.volume.next_item
same_next item parent name s t le h = h.next ∙ same_item_id (record { 0 = max s.filter.volume.next_item.0 2 }) s.filter.volume.next_item (omega arith)

make_is : (e : Entry) (p : Item) (s : State) → 2 ≤ s.filter.volume.next_item.0 → do_steps (make_steps s.filter.policy s.filter.volume.next_item (items_now s) e p.id) s ≡ make_entry e p s
make_is e p s le = cases (occupant p.id e.name no_item s) where
  cases : (o : Option Item) → do_steps (applied (option_map (conflict_move (items_now s)) o) ++ made_steps s.filter.policy s.filter.volume.next_item e p.id) s ≡ bind (move_off o s) (when_ok false (make_after e p))
  cases None = made_now e p s
  cases (Some o) = and_same (try_change (conflict_move (items_now s) o)) (do_steps (made_steps s.filter.policy s.filter.volume.next_item e p.id)) (make_after e p) s
      (λ t h. let a = change_ends (conflict_move (items_now s) o) s t h in
      ap₂ (λ (q : Policy) (n : ItemId). do_steps (made_steps q n e p.id) t) (sym a.policy) (sym (same_next o.id o.parent (conflict_name (items_now s) o.parent o.name) s t le a)) ∙ made_now e p t)

pub new_is : (e : Entry) (p : Item) (s : State) (o : Option Item) → 2 ≤ s.filter.volume.next_item.0 → do_steps (new_over s.filter.policy s.filter.volume.next_item (items_now s) e p.id o) s ≡ feeds.new_over e p o s
new_is e p s None le = make_is e p s le
new_is e p s (Some i) le = two (is_adoptable e i) where
  two : (b : Bool) → do_steps (cond b (adopt_steps e i) (make_steps s.filter.policy s.filter.volume.next_item (items_now s) e p.id)) s ≡ choose b (adopt e i) (make_entry e p) s
  two true = adopt_is e i s
  two false = make_is e p s le
