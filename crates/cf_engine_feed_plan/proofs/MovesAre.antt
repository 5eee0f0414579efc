-- The lists of steps of an entry that is known do what the rules of feeds say.
use Rattle.std.proofs.Common.{◌≡◌, ℕ, Bool, true, false, not, cond, List, [], ◌∷◌, refl, sym, ◌∙◌, ap, ap₂, subst, eqb, Some, None, Option, inl, inr}
use Rattle.std.specs.Prelude.{option_map, ◌++◌}
use Rattle.std.proofs.lemmas.Bool.{and_parts, eqb-false, eqb-true, ne_eqb}
use Rattle.cf_base.specs.declared.changes.Change.{Change}
use Rattle.cf_base.specs.declared.changes.Change.TheVariants as change
use Rattle.cf_base.specs.declared.ids.ItemId.{ItemId}
use Rattle.cf_base.specs.declared.ids.Usn.{Usn}
use Rattle.cf_base.specs.declared.items.Pin.{Pin}
use Rattle.cf_base.specs.declared.items.SeenPath.{SeenPath}
use Rattle.cf_base.specs.declared.messages.Entry.{Entry}
use Rattle.cf_model.specs.Arrows.{Arrow, and_then, only_if, when_ok}
use Rattle.cf_model.specs.Books.{seen_of}
use Rattle.cf_model.specs.Changes.{next_number}
use Rattle.cf_model.specs.ConflictNames.{conflict_name}
use Rattle.cf_model.specs.Effects.{moved}
use Rattle.cf_model.specs.Feeds.{changed_steps, copy_off, free_parent, is_newer, is_path_of, is_under, move_entry, move_in, name_in_root, seen_entry, stands_in, take_entry, take_over}
use Rattle.cf_model.specs.Identities.{entry_identity}
use Rattle.cf_model.specs.Items.{Item, is_dirty, item_of, pin_of}
use Rattle.cf_model.specs.LookUp.{child_of, is_child_named}
use Rattle.cf_model.specs.Numbers.{root_id}
use Rattle.cf_model.specs.Skips.{conflict_move, if_other, move_off, occupant, try_change, try_clear_name, try_mark_now, try_seen}
use Rattle.cf_model.specs.State.{State, book_now, items_now}
use Rattle.cf_model.specs.Trees.{Asked, Ends, Fork, Ret, Step, Tree, bind}
use Rattle.cf_model.specs.Words.{is_empty, part, same, says, when}
use Rattle.cf_engine_feed_plan.specs.Lists as lists
use Rattle.cf_engine_feed_plan.specs.Lists.{applied, enter, lift, move_steps, off, take_steps}
use Rattle.cf_engine_feed_plan.specs.Turns.{copy_if, copy_now, do_steps}
use Rattle.cf_engine_feed_plan.specs.declared.entry_steps.Step as step
use Rattle.cf_engine_feed_plan.specs.declared.entry_steps.Step.TheVariants.{Apply, CopyOff, Mark, Seen}
use Rattle.cf_engine_feed_plan.proofs.ChangesEnd.{IsAfter, change_ends, seen_ends}
use Rattle.cf_engine_feed_plan.proofs.MovedItems.{found_changed, other_stays, root_name_stays, under_stays}
use Rattle.cf_engine_feed_plan.proofs.TreesSame.{and_and, and_same, last_step, steps_append}
use Rattle.cf_tree.proofs.Depths.{only}
use Rattle.cf_tree.proofs.Walks.{by_own_id, found_passes}
use Rattle.cf_tree.specs.Trees.{RiseFrom}

-- the item is there, with its bytes and its identity, wherever it stands

pub record Still (i : Item) (t : State) : Type 0 where
  pub item : Item
  pub there : item_of (items_now t) i.id ≡ Some item
  pub id : item.id ≡ i.id
  pub directory : item.directory ≡ i.directory
  pub identity : item.identity ≡ i.identity
  pub writes : item.writes ≡ i.writes

-- the newer version

newer_same : (e : Entry) (i j : Item) → j.directory ≡ i.directory → j.identity ≡ i.identity → is_newer j e ≡ is_newer i e
newer_same e i j d n = λ k. is_newer (record j { directory = d k; identity = n k }) e

abbrev taken_from : Entry → Item → Change
taken_from e i = change.Take i.id (entry_identity e) e.len

copies_now : (i : Item) (t : State) (s : Still i t) → copy_now i.id t ≡ copy_off s.item t
copies_now i t s = ap (λ (o : Option Item). copy_if o t) s.there

take_is : (e : Entry) (i : Item) (t : State) → Still i t → do_steps (take_steps e i ++ Mark i.id ∷ []) t ≡ and_then (take_entry e i.id) (try_mark_now i.id) t
take_is e i t s =
    two (is_newer i e) (is_dirty i)
    ∙ sym (ap₂ (λ (b d : Bool). bind (only_if b (and_then (only_if d (copy_off s.item)) (try_change (change.Take s.item.id (entry_identity e) e.len))) t) (when_ok false (try_mark_now i.id)))
    (newer_same e i s.item s.directory s.identity) (ap (λ (ws : List _). not (is_empty ws)) s.writes)
    ∙ ap (λ (v : ItemId). bind (only_if (is_newer i e) (and_then (only_if (is_dirty i) (copy_off s.item)) (try_change (change.Take v (entry_identity e) e.len))) t) (when_ok false (try_mark_now i.id))) s.id)
    ∙ sym (ap (λ (o : Option Item). bind (take_over e o t) (when_ok false (try_mark_now i.id))) s.there) where
      last : (u : State) → do_steps (Apply (taken_from e i) ∷ Mark i.id ∷ []) u ≡ and_then (try_change (taken_from e i)) (try_mark_now i.id) u
      last u = and_same (try_change (taken_from e i)) (do_steps (Mark i.id ∷ [])) (try_mark_now i.id) u (λ v h. last_step (Mark i.id) v)

      two : (b d : Bool) → do_steps (when b (when d (CopyOff i.id ∷ []) ++ Apply (taken_from e i) ∷ []) ++ Mark i.id ∷ []) t
          ≡ bind (only_if b (and_then (only_if d (copy_off s.item)) (try_change (taken_from e i))) t) (when_ok false (try_mark_now i.id))
      two false d = last_step (Mark i.id) t
      two true false = last t
      two true true =
          and_same (copy_now i.id) (do_steps (Apply (taken_from e i) ∷ Mark i.id ∷ [])) (and_then (try_change (taken_from e i)) (try_mark_now i.id)) t (λ u h. last u)
          ∙ ap (λ (p : Tree State Bool). bind p (when_ok false (and_then (try_change (taken_from e i)) (try_mark_now i.id)))) (copies_now i t s)
          ∙ sym (and_and (copy_off s.item) (try_change (taken_from e i)) (try_mark_now i.id) t)

-- the move: what is foreseen of the state in which the parent is looked at

pub record Foreseen (items : List Item) (i p : Item) (t : State) : Type 0 where
  pub under : is_under (items_now t) p.id i.id ≡ is_under items p.id i.id
  pub name : is_under items p.id i.id ≡ true → name_in_root (items_now t) p ≡ name_in_root items p
  pub here : item_of (items_now t) i.id ≡ Some i

enter_is : (e : Entry) (i p : Item) (u : State) → item_of (items_now u) i.id ≡ Some i → do_steps (applied (enter e i p) ++ Seen (seen_entry i.id e) ∷ []) u ≡ and_then (move_in e i p) (try_seen (seen_entry i.id e)) u
enter_is e i p u here =
    two (stands_in p e.name i) ∙ sym (ap (λ (o : Option Item). bind (only_if (not (says (stands_in p e.name) o)) (try_change (change.Move i.id p.id e.name)) u) (when_ok false (try_seen (seen_entry i.id e)))) here) where
      two : (c : Bool) → do_steps (applied (cond c None (Some (change.Move i.id p.id e.name))) ++ Seen (seen_entry i.id e) ∷ []) u ≡ bind (only_if (not c) (try_change (change.Move i.id p.id e.name)) u) (when_ok false (try_seen (seen_entry i.id e)))
      two true = last_step (Seen (seen_entry i.id e)) u
      two false = and_same (try_change (change.Move i.id p.id e.name)) (do_steps (Seen (seen_entry i.id e) ∷ [])) (try_seen (seen_entry i.id e)) u (λ v h. last_step (Seen (seen_entry i.id e)) v)

abbrev lifted_up : List Item → Item → Change
lifted_up items p = change.Move p.id root_id (name_in_root items p)

abbrev rest_of : Entry → Item → Item → Arrow State Bool
rest_of e i p = and_then (move_in e i p) (try_seen (seen_entry i.id e))

-- another item moved
other_there : (item parent : ItemId) (name : List ℕ) (i : Item) (s t : State) → eqb i.id.0 item.0 ≡ false → IsAfter (change.Move item parent name) s t → item_of (items_now s) i.id ≡ Some i → item_of (items_now t) i.id ≡ Some i
other_there item parent name i s t apart a h =
    ap (λ (l : List Item). item_of l i.id) a.items ∙ other_stays item (moved parent name (pin_of (items_now s) parent) (next_number s.filter.volume)) (λ j. refl) (items_now s) i apart h

rest_is : (e : Entry) (i p : Item) (items : List Item) (t : State) → eqb i.id.0 p.id.0 ≡ false → Foreseen items i p t →
    do_steps (applied (lift items i p) ++ applied (enter e i p) ++ Seen (seen_entry i.id e) ∷ []) t ≡ and_then (free_parent i p) (rest_of e i p) t
rest_is e i p items t apart f = two (is_under items p.id i.id) refl where
  two : (b : Bool) → is_under items p.id i.id ≡ b → do_steps (applied (cond b (Some (lifted_up items p)) None) ++ applied (enter e i p) ++ Seen (seen_entry i.id e) ∷ []) t
      ≡ bind (only_if (is_under (items_now t) p.id i.id) (try_change (lifted_up (items_now t) p)) t) (when_ok false (rest_of e i p))
  two true h =
      and_same (try_change (lifted_up items p)) (do_steps (applied (enter e i p) ++ Seen (seen_entry i.id e) ∷ [])) (rest_of e i p) t
      (λ u k. enter_is e i p u (other_there p.id root_id (name_in_root items p) i t u apart (change_ends (lifted_up items p) t u k) f.here))
      ∙ sym (ap (λ (c : Bool). bind (only_if c (try_change (lifted_up (items_now t) p)) t) (when_ok false (rest_of e i p))) (f.under ∙ h)
      ∙ ap (λ (n : List ℕ). bind (try_change (change.Move p.id root_id n) t) (when_ok false (rest_of e i p))) (f.name h))
  two false h =
      enter_is e i p t f.here ∙ sym (ap (λ (c : Bool). bind (only_if c (try_change (lifted_up (items_now t) p)) t) (when_ok false (rest_of e i p))) (f.under ∙ h))

-- who stands at the name

pub flipped : (m n : ℕ) → eqb n m ≡ false → eqb m n ≡ false
flipped m n h = ne_eqb m n (λ e. eqb-false n m h (sym e))

pub record IsOccupant (items : List Item) (i p o : Item) : Type 0 where
  pub there : item_of items o.id ≡ Some o
  pub apart : eqb i.id.0 o.id.0 ≡ false
  pub parent : o.parent.0 ≡ p.id.0

occupies : (items : List Item) (i p o : Item) (name : List ℕ) → RiseFrom 1 items → part (if_other i.id) None (child_of items p.id name) ≡ Some o → IsOccupant items i p o
occupies items i p o name rises e = cases (child_of items p.id name) refl e where
  two : (q : Item) → child_of items p.id name ≡ Some q → (b : Bool) → eqb q.id.0 i.id.0 ≡ b → elim b as (λ _. Option Item) [ true ↦ None | false ↦ Some q ] ≡ Some o → IsOccupant items i p o
  two q f true h g = let z : ◌≡◌ {A = Option Item} None (Some o) = g in absurd cc
  two q f false h g =
      let one : q ≡ o = only q o g in
      let found : child_of items p.id name ≡ Some o = f ∙ g in
      record {
        there = by_own_id 1 (is_child_named p.id name) items o rises found;
        apart = flipped i.id.0 o.id.0 (ap (λ (v : Item). eqb v.id.0 i.id.0) (sym one) ∙ h);
        parent = eqb-true o.parent.0 p.id.0 (and_parts (eqb o.parent.0 p.id.0) (same o.name name) (found_passes (is_child_named p.id name) items o found)).0;
      }

  cases : (v : Option Item) → child_of items p.id name ≡ v → part (if_other i.id) None v ≡ Some o → IsOccupant items i p o
  cases None f g = let z : ◌≡◌ {A = Option Item} None (Some o) = g in absurd cc
  cases (Some q) f g = two q f (eqb q.id.0 i.id.0) refl g

-- what the move of an entry needs of the items
pub record MayMove (items : List Item) (i p : Item) : Type 0 where
  pub rises : RiseFrom 1 items
  pub here : item_of items i.id ≡ Some i
  pub apart : eqb i.id.0 p.id.0 ≡ false
  -- the root is under no item
  pub away : is_under items p.id i.id ≡ true → eqb p.id.0 1 ≡ false

abbrev off_name : List Item → Item → List ℕ
off_name items o = conflict_name items o.parent o.name

abbrev off_pin : List Item → Item → Pin
off_pin items o = pin_of items o.parent

abbrev off_number : State → Usn
off_number s = next_number s.filter.volume

off_then : (i p o : Item) (s t : State) → MayMove (items_now s) i p → IsOccupant (items_now s) i p o → IsAfter (conflict_move (items_now s) o) s t → Foreseen (items_now s) i p t
off_then i p o s t m q a = record {
  under = ap (λ (l : List Item). is_under l p.id i.id) a.items ∙ under_stays (items_now s) o (off_name (items_now s) o) (off_pin (items_now s) o) (off_number s) p.id i.id q.there;
  name = λ h. ap (λ (l : List Item). name_in_root l p) a.items ∙ root_name_stays (items_now s) o p (off_name (items_now s) o) (off_pin (items_now s) o) (off_number s) m.rises q.there (ap (λ (v : ℕ). eqb v 1) q.parent ∙ m.away h);
  here = ap (λ (l : List Item). item_of l i.id) a.items ∙ other_stays o.id (moved o.parent (off_name (items_now s) o) (off_pin (items_now s) o) (off_number s)) (λ j. refl) (items_now s) i q.apart m.here;
}

move_is : (e : Entry) (i p : Item) (s : State) → MayMove (items_now s) i p → do_steps (move_steps (items_now s) e i p) s ≡ move_entry e i p s
move_is e i p s m = cases (occupant p.id e.name i.id s) refl where
  cases : (o : Option Item) → occupant p.id e.name i.id s ≡ o →
      do_steps (applied (option_map (conflict_move (items_now s)) o) ++ applied (lift (items_now s) i p) ++ applied (enter e i p) ++ Seen (seen_entry i.id e) ∷ []) s ≡ bind (move_off o s) (when_ok false (and_then (free_parent i p) (rest_of e i p)))
  cases None h = rest_is e i p (items_now s) s m.apart (record { under = refl; name = λ k. refl; here = m.here })
  cases (Some o) h = and_same (try_change (conflict_move (items_now s) o)) (do_steps (applied (lift (items_now s) i p) ++ applied (enter e i p) ++ Seen (seen_entry i.id e) ∷ [])) (and_then (free_parent i p) (rest_of e i p)) s
      (λ t k. rest_is e i p (items_now s) t m.apart (off_then i p o s t m (occupies (items_now s) i p o e.name m.rises h) (change_ends (conflict_move (items_now s) o) s t k)))

-- the item is still there after the moves

ends_split : {S A B : Type 0} (p : Tree S A) (g : A → S → Tree S B) (b : B) (t : S) → Ends (bind p g) b t → (a : A) × (m : S) × Ends p a m × Ends (g a m) b t
ends_split (Ret a s) g b t h = (a, s, (refl, refl), h)
ends_split (Step s p) g b t h = ends_split p g b t h
ends_split (Fork p q) g b t (inl h) = let x = ends_split p g b t h in (x.0, x.1, inl x.2, x.3)
ends_split (Fork p q) g b t (inr h) = let x = ends_split q g b t h in (x.0, x.1, inr x.2, x.3)
ends_split (Asked f) g b t h = let x = ends_split (f h.0) g b t h.1 in (x.0, x.1, (h.0, x.2), x.3)

abbrev Leaves : Item → Arrow State Bool → Type 0
Leaves i f = (s t : State) → Still i s → Ends (f s) true t → Still i t

and_leaves : (i : Item) (f g : Arrow State Bool) → Leaves i f → Leaves i g → Leaves i (and_then f g)
and_leaves i f g h k s t st e = let x = ends_split (f s) (when_ok false g) true t e in two x.0 x.1 x.2 x.3 where
  two : (a : Bool) (m : State) → Ends (f s) a m → Ends (when_ok false g a m) true t → Still i t
  two true m d c = k m t (h s m st d) c
  two false m d c = let z : true ≡ false = c.0 in absurd cc

same_state : (i : Item) (s t : State) → t ≡ s → Still i s → Still i t
same_state i s t e h = subst (λ (v : State). Still i v) (sym e) h

move_leaves : (i : Item) (item parent : ItemId) (name : List ℕ) → Leaves i (try_change (change.Move item parent name))
move_leaves i item parent name s t st e =
    let a = change_ends (change.Move item parent name) s t e in
    let found : item_of (items_now t) i.id ≡ Some (cond (eqb st.item.id.0 item.0) (moved parent name (pin_of (items_now s) parent) (next_number s.filter.volume) st.item) st.item) =
    ap (λ (l : List Item). item_of l i.id) a.items ∙ found_changed item i.id (moved parent name (pin_of (items_now s) parent) (next_number s.filter.volume)) (λ j. refl) (items_now s)
    ∙ ap (λ (o : Option Item). option_map (λ j. cond (eqb j.id.0 item.0) (moved parent name (pin_of (items_now s) parent) (next_number s.filter.volume) j) j) o) st.there in
    two (eqb st.item.id.0 item.0) found where
      two : (b : Bool) → item_of (items_now t) i.id ≡ Some (cond b (moved parent name (pin_of (items_now s) parent) (next_number s.filter.volume) st.item) st.item) → Still i t
      two true h = record { item = moved parent name (pin_of (items_now s) parent) (next_number s.filter.volume) st.item; there = h; id = st.id; directory = st.directory; identity = st.identity; writes = st.writes }
      two false h = record { item = st.item; there = h; id = st.id; directory = st.directory; identity = st.identity; writes = st.writes }

seen_leaves : (i : Item) (p : SeenPath) → Leaves i (try_seen p)
seen_leaves i p s t st e = record { item = st.item; there = ap (λ (l : List Item). item_of l i.id) (seen_ends p s t e) ∙ st.there; id = st.id; directory = st.directory; identity = st.identity; writes = st.writes }

if_leaves : (i : Item) (b : Bool) (f : Arrow State Bool) (s t : State) → Still i s → ((u : State) → Ends (f s) true u → Still i u) → Ends (only_if b f s) true t → Still i t
if_leaves i true f s t st h e = h t e
if_leaves i false f s t st h e = same_state i s t e.1 st

off_leaves : (i : Item) (o : Option Item) (s t : State) → Still i s → Ends (move_off o s) true t → Still i t
off_leaves i None s t st e = same_state i s t e.1 st
off_leaves i (Some o) s t st e = move_leaves i o.id o.parent (conflict_name (items_now s) o.parent o.name) s t st e

entry_leaves : (e : Entry) (i p : Item) → Leaves i (move_entry e i p)
entry_leaves e i p =
    and_leaves i (try_clear_name p.id e.name i.id) (and_then (free_parent i p) (rest_of e i p)) (λ s t st h. off_leaves i (occupant p.id e.name i.id s) s t st h)
    (and_leaves i (free_parent i p) (rest_of e i p)
    (λ s t st h. if_leaves i (is_under (items_now s) p.id i.id) (try_change (lifted_up (items_now s) p)) s t st (λ u k. move_leaves i p.id root_id (name_in_root (items_now s) p) s u st k) h)
    (and_leaves i (move_in e i p) (try_seen (seen_entry i.id e))
    (λ s t st h. if_leaves i (not (says (stands_in p e.name) (item_of (items_now s) i.id))) (try_change (change.Move i.id p.id e.name)) s t st (λ u k. move_leaves i i.id p.id e.name s u st k) h)
    (seen_leaves i (seen_entry i.id e))))

-- all steps

grouped : {A : Type 0} (xs ys zs : List A) → (xs ++ ys) ++ zs ≡ xs ++ (ys ++ zs)
grouped [] ys zs = refl
grouped (x ∷ xs) ys zs = λ k. x ∷ grouped xs ys zs k

pub changed_is : (e : Entry) (i p : Item) (seen : Option SeenPath) (s : State) → seen ≡ seen_of (book_now s) i.id → MayMove (items_now s) i p → do_steps (lists.changed_steps (items_now s) seen e i p) s ≡ changed_steps e i p s
changed_is e i p seen s at m =
    two (says (is_path_of e) seen)
    ∙ ap (λ (o : Option SeenPath). bind (only_if (not (says (is_path_of e) o)) (move_entry e i p) s) (when_ok false (and_then (take_entry e i.id) (try_mark_now i.id)))) at where
      now : Still i s
      now = record { item = i; there = m.here; id = refl; directory = refl; identity = refl; writes = refl }

      two : (b : Bool) → do_steps (when (not b) (move_steps (items_now s) e i p) ++ take_steps e i ++ Mark i.id ∷ []) s ≡ bind (only_if (not b) (move_entry e i p) s) (when_ok false (and_then (take_entry e i.id) (try_mark_now i.id)))
      two true = take_is e i s now
      two false =
          ap (λ (l : List step.Step). do_steps l s) (grouped (move_steps (items_now s) e i p) (take_steps e i) (Mark i.id ∷ []))
          ∙ steps_append (move_steps (items_now s) e i p) (take_steps e i ++ Mark i.id ∷ []) s
          ∙ ap (λ (q : Tree State Bool). bind q (when_ok false (do_steps (take_steps e i ++ Mark i.id ∷ [])))) (move_is e i p s m)
          ∙ and_same (move_entry e i p) (do_steps (take_steps e i ++ Mark i.id ∷ [])) (and_then (take_entry e i.id) (try_mark_now i.id)) s (λ t h. take_is e i t (entry_leaves e i p s t now h))
