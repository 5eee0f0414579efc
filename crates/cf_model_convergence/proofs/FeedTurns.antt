-- An entry of a feed at its turn: it is reported, or it is postponed, of no case, or taken in.
use Rattle.std.proofs.Common.{◌≡◌, ◌⊎◌, ◌+◌, Bool, true, false, refl, sym, ◌∙◌, ap, subst, inl, inr, eq-eqb}
use Rattle.std.specs.Prelude.{Option, Some, None, is_some, not, ◌&&◌, ◌==◌}
use Rattle.cf_base.specs.declared.changes.Change.{Change}
use Rattle.cf_base.specs.declared.changes.Change.TheVariants as change
use Rattle.cf_base.specs.declared.codes.Code.{Code}
use Rattle.cf_base.specs.declared.ids.ItemId.{ItemId}
use Rattle.cf_base.specs.declared.items.SeenPath.{SeenPath}
use Rattle.cf_base.specs.declared.messages.Entry.{Entry}
use Rattle.cf_model.specs.Arrows.{Arrow, and_then, choose, only_if, unless_done, when_ok}
use Rattle.cf_model.specs.Books.{with_seen}
use Rattle.cf_model.specs.ConflictNames.{conflict_name}
use Rattle.cf_model.specs.Feeds.{adopt, changed_entry, changed_steps, changed_unless, copy_off, free_parent, gone, gone_unless, is_adoptable, is_newer, is_path_of, is_removable, is_seen_so, is_under, known, make_after, make_entry, make_of, move_entry, move_in, name_in_root, new_entry, new_over, parent_here, remove_or_untarget, seen_entry, stands_in, take_entry, take_over, take_turn, taken, turn_by, unknown}
use Rattle.cf_model.specs.Effects.{untargeted}
use Rattle.cf_model.specs.Identities.{by_target, entry_identity, has_target, no_identity}
use Rattle.cf_model.specs.Items.{Item, base_of, is_dirty, item_of}
use Rattle.cf_model.specs.LookUp.{child_of}
use Rattle.cf_model.specs.Numbers.{no_item, no_usn, root_id}
use Rattle.cf_model.specs.Skips.{in_book, in_use, is_there, left_out, try_book, try_change, try_clear_name, try_mark_now, try_seen, why_no_record, with_book}
use Rattle.cf_model.specs.State.{State, book_now, items_now}
use Rattle.cf_model.specs.Trees.{bind, Ends}
use Rattle.cf_model.specs.Words.{same, says}
use Rattle.cf_model_laws.specs.Invariant.{Invariant}
use Rattle.cf_model_laws.specs.Premises.{IsFair}
use Rattle.cf_model_laws.proofs.FoundItems.{found_again, same_self}
use Rattle.cf_model_laws.proofs.RightItems.{no_way}
use Rattle.cf_model_laws.proofs.SeenPaths.{seen_put}
use Rattle.cf_model_convergence.specs.Telling.{IsListening, IsTold}
use Rattle.cf_model_convergence.specs.Turns.{IsTakenIn, IsTurnOf, SeesOnly}
use Rattle.cf_model_convergence.proofs.PushesTold.{skip_told}
use Rattle.cf_model_convergence.proofs.TurnsGrow.{Clean, Grows, Same, change_grows, change_told, free_grows, if_grows, if_same, mark_grows, mark_same, move_grows, names_same, seen_grows, state_grows, then_clean, then_grows, told_on}
use Rattle.cf_model_convergence.proofs.TurnsTold.{ends_bind}

-- steps that begin with a change are reported

first_told : (c : Change) (g : Arrow State Bool) → Grows g → (s : State) (done : Bool) (t : State) → IsListening s → Ends (and_then (try_change c) g s) done t → IsTold s t
first_told c g grows s done t listening ends = by x.0 x.1 x.3 (change_told c s x.0 x.1 listening x.2) where
  x : (a : Bool) × (m : State) × Ends (try_change c s) a m × Ends (when_ok false g a m) done t
  x = ends_bind (try_change c s) (when_ok false g) done t ends

  by : (a : Bool) (m : State) → Ends (when_ok false g a m) done t → IsTold s m → IsTold s t
  by true m e z = told_on g grows s m done t z e
  by false m e z = subst (IsTold s) (sym e.1) z

pub seen_mark_grows : (p : SeenPath) (item : ItemId) → Grows (and_then (try_seen p) (try_mark_now item))
seen_mark_grows p item = then_grows (try_seen p) (try_mark_now item) (seen_grows p) (mark_grows item)

pub rebase_grows : (e : Entry) (i : Item) → Grows (and_then (try_change (change.Rebase i.id (entry_identity e) 0 no_usn)) (and_then (try_seen (seen_entry i.id e)) (try_mark_now i.id)))
rebase_grows e i = then_grows (try_change (change.Rebase i.id (entry_identity e) 0 no_usn)) (and_then (try_seen (seen_entry i.id e)) (try_mark_now i.id)) (change_grows (change.Rebase i.id (entry_identity e) 0 no_usn)) (seen_mark_grows (seen_entry i.id e) i.id)

adopt_told : (e : Entry) (i : Item) (s : State) (done : Bool) (t : State) → IsListening s → Ends (adopt e i s) done t → IsTold s t
adopt_told e i s done t listening ends = by (not i.placeholder) ends where
  by : (b : Bool) → Ends (and_then (only_if b (try_change (change.Convert i.id no_identity))) (and_then (try_change (change.Rebase i.id (entry_identity e) 0 no_usn)) (and_then (try_seen (seen_entry i.id e)) (try_mark_now i.id))) s) done t → IsTold s t
  by true z = first_told (change.Convert i.id no_identity) (and_then (try_change (change.Rebase i.id (entry_identity e) 0 no_usn)) (and_then (try_seen (seen_entry i.id e)) (try_mark_now i.id))) (rebase_grows e i) s done t listening z
  by false z = first_told (change.Rebase i.id (entry_identity e) 0 no_usn) (and_then (try_seen (seen_entry i.id e)) (try_mark_now i.id)) (seen_mark_grows (seen_entry i.id e) i.id) s done t listening z

pub after_grows : (e : Entry) (p : Item) → Grows (make_after e p)
after_grows e p = state_grows (λ s. and_then (try_change (make_of s e p)) (and_then (try_seen (seen_entry s.filter.volume.next_item e)) (try_mark_now s.filter.volume.next_item)))
    (λ s. then_grows (try_change (make_of s e p)) (and_then (try_seen (seen_entry s.filter.volume.next_item e)) (try_mark_now s.filter.volume.next_item)) (change_grows (make_of s e p)) (seen_mark_grows (seen_entry s.filter.volume.next_item e) s.filter.volume.next_item))

told_only : (s t : State) (done : Bool) → IsTold s t ⊎ ((done ≡ true) × ⊥) → IsTold s t
told_only s t done (inl z) = z
told_only s t done (inr z) = absurd z.1

make_told : (e : Entry) (p : Item) (s : State) (done : Bool) (t : State) → IsListening s → Ends (make_entry e p s) done t → IsTold s t
make_told e p s done t listening ends =
    told_only s t done
    (then_clean (try_clear_name p.id e.name no_item) (make_after e p) Same (λ a b. ⊥) (names_same p.id e.name no_item) (after_grows e p) after s done t listening ends) where
      after : (a m : State) → Same a m → IsListening a → (d : Bool) (u : State) → Ends (make_after e p m) d u → IsTold a u ⊎ ((d ≡ true) × ⊥)
      after a m same l d u z =
          inl (first_told (make_of a e p) (and_then (try_seen (seen_entry a.filter.volume.next_item e)) (try_mark_now a.filter.volume.next_item)) (seen_mark_grows (seen_entry a.filter.volume.next_item e) a.filter.volume.next_item) a d u l
          (subst (λ (y : State). Ends (make_after e p y) d u) same z))

-- a turn gives its postponement, whatever its steps gave
turned : (f : Arrow State Bool) (s : State) (postponed : Bool) (t : State) → Ends (bind (f s) taken) postponed t → (done : Bool) × Ends (f s) done t × (postponed ≡ false)
turned f s postponed t e = let x = ends_bind (f s) taken postponed t e in (x.0, subst (λ (y : State). Ends (f s) x.0 y) (sym x.3.1) x.2, x.3.0)

new_told : (e : Entry) (p : Item) (s : State) (postponed : Bool) (t : State) → IsListening s → Ends (new_entry e p s) postponed t → IsTold s t
new_told e p s postponed t listening ends = by (child_of (items_now s) p.id e.name) x.1 where
  x : (done : Bool) × Ends (new_over e p (child_of (items_now s) p.id e.name) s) done t × (postponed ≡ false)
  x = turned (new_over e p (child_of (items_now s) p.id e.name)) s postponed t ends

  choice : (i : Item) (b : Bool) → Ends (choose b (adopt e i) (make_entry e p) s) x.0 t → IsTold s t
  choice i true z = adopt_told e i s x.0 t listening z
  choice i false z = make_told e p s x.0 t listening z

  by : (o : Option Item) → Ends (new_over e p o s) x.0 t → IsTold s t
  by None z = make_told e p s x.0 t listening z
  by (Some i) z = choice i (is_adoptable e i) z

gone_told : (i : Item) (s : State) (postponed : Bool) (t : State) → IsListening s → Ends (gone i s) postponed t → IsTold s t ⊎ ((postponed ≡ true) × (t ≡ s) × (in_use s i.id ≡ true))
gone_told i s postponed t listening ends = by (in_use s i.id) refl ends where
  clear : (b : Bool) (done : Bool) → Ends (and_then (only_if b (try_change (change.Clear i.id))) (try_change (change.Rebase i.id (untargeted i.identity) (base_of i) no_usn)) s) done t → IsTold s t
  clear true done z = first_told (change.Clear i.id) (try_change (change.Rebase i.id (untargeted i.identity) (base_of i) no_usn)) (change_grows (change.Rebase i.id (untargeted i.identity) (base_of i) no_usn)) s done t listening z
  clear false done z = change_told (change.Rebase i.id (untargeted i.identity) (base_of i) no_usn) s done t listening z

  steps : (b : Bool) (done : Bool) → Ends (remove_or_untarget i b s) done t → IsTold s t
  steps true done z = change_told (change.Remove i.id) s done t listening z
  steps false done z = clear i.in_sync done z

  by : (b : Bool) → in_use s i.id ≡ b → Ends (gone_unless i b s) postponed t → IsTold s t ⊎ ((postponed ≡ true) × (t ≡ s) × (in_use s i.id ≡ true))
  by true q z = inr (z.0, z.1, q)
  by false q z = let x = turned (λ y. remove_or_untarget i (is_removable y i) y) s postponed t z in inl (steps (is_removable s i) x.0 x.1)

-- an item that is known

-- the path is seen where the item is there
abbrev SeesAt : Entry → Item → State → State → Type 0
SeesAt e i s t = ((is_there i.id s ≡ true) × (t ≡ with_book (with_seen (seen_entry i.id e)) s)) ⊎ ((is_there i.id s ≡ false) × (t ≡ s))

seen_step : (e : Entry) (i : Item) (s m : State) → Same s m → IsListening s → (done : Bool) (t : State) → Ends (try_seen (seen_entry i.id e) m) done t → IsTold s t ⊎ ((done ≡ true) × SeesAt e i s t)
seen_step e i s m same_state listening done t z = by (is_there i.id s) refl (subst (λ (y : State). Ends (try_seen (seen_entry i.id e) y) done t) same_state z) where
  stored : is_there i.id s ≡ true → (o : Option Code) → Ends (bind (unless_done (in_book (with_seen (seen_entry i.id e))) o s) left_out) done t → IsTold s t ⊎ ((done ≡ true) × SeesAt e i s t)
  stored q None w = inr (w.0, inl (q, w.1))
  stored q (Some c) w = inl (subst (IsTold s) (sym w.1) (skip_told s.running.shows_skips c s (record s { running = record s.running { skips = s.running.skips + 1 } }) listening.shows refl))

  by : (b : Bool) → is_there i.id s ≡ b → Ends (only_if b (try_book (with_seen (seen_entry i.id e))) s) done t → IsTold s t ⊎ ((done ≡ true) × SeesAt e i s t)
  by true q w = stored q (why_no_record (with_seen (seen_entry i.id e)) s) w
  by false q w = inr (w.0, inr (q, w.1))

only_same : {s t : State} {done b : Bool} → IsTold s t ⊎ ((done ≡ true) × ((t ≡ s) × (b ≡ false))) → IsTold s t ⊎ ((done ≡ true) × Same s t)
only_same (inl z) = inl z
only_same (inr z) = inr (z.0, z.1.0)

move_same : (e : Entry) (i p : Item) → Clean (move_in e i p) Same
move_same e i p s done t listening z = only_same (if_same (not (says (stands_in p e.name) (item_of (items_now s) i.id))) (change.Move i.id p.id e.name) s done t listening z)

free_same : (i p : Item) → Clean (free_parent i p) Same
free_same i p s done t listening z = only_same (if_same (is_under (items_now s) p.id i.id) (change.Move p.id root_id (name_in_root (items_now s) p)) s done t listening z)

module _ (e : Entry) (i p : Item) where
  abbrev In_place : Arrow State Bool
  In_place = and_then (move_in e i p) (try_seen (seen_entry i.id e))

  abbrev Freed : Arrow State Bool
  Freed = and_then (free_parent i p) (and_then (move_in e i p) (try_seen (seen_entry i.id e)))

  abbrev Sees : State → State → Type 0
  Sees s t = SeesAt e i s t

  pub place_grows : Grows In_place
  place_grows = then_grows (move_in e i p) (try_seen (seen_entry i.id e)) (move_grows e i p) (seen_grows (seen_entry i.id e))

  place_clean : Clean In_place Sees
  place_clean = then_clean (move_in e i p) (try_seen (seen_entry i.id e)) Same Sees (move_same e i p) (seen_grows (seen_entry i.id e)) (seen_step e i)

  freed_clean : Clean Freed Sees
  freed_clean =
      then_clean (free_parent i p) In_place Same Sees (free_same i p) place_grows
      (λ s m same_state listening done t z. place_clean s done t listening (subst (λ (y : State). Ends (In_place y) done t) same_state z))

  move_clean : Clean (move_entry e i p) Sees
  move_clean =
      then_clean (try_clear_name p.id e.name i.id) Freed Same Sees (names_same p.id e.name i.id) (then_grows (free_parent i p) In_place (free_grows i p) place_grows)
      (λ s m same_state listening done t z. freed_clean s done t listening (subst (λ (y : State). Ends (Freed y) done t) same_state z))

  -- the newer version, and the mark

  abbrev NotNewer : State → State → Type 0
  NotNewer s t = (t ≡ s) × (item_of (items_now s) i.id ≡ Some i → is_newer i e ≡ false)

  take_clean : Clean (take_entry e i.id) NotNewer
  take_clean s done t listening ends = by (item_of (items_now s) i.id) refl ends where
    some : (a b : Item) → ◌≡◌ {A = Option Item} (Some a) (Some b) → a ≡ b
    some a b z = cc

    none : (j : Item) → ◌≡◌ {A = Option Item} None (Some j) → ⊥
    none j z = cc

    copied : (j : Item) (b : Bool) → Ends (and_then (only_if b (copy_off j)) (try_change (change.Take j.id (entry_identity e) e.len)) s) done t → IsTold s t
    copied j true z =
        first_told (change.Copy s.filter.volume.next_item j.id j.parent (conflict_name (items_now s) j.parent j.name)) (try_change (change.Take j.id (entry_identity e) e.len)) (change_grows (change.Take j.id (entry_identity e) e.len)) s done t listening z
    copied j false z = change_told (change.Take j.id (entry_identity e) e.len) s done t listening z

    newer : (j : Item) → item_of (items_now s) i.id ≡ Some j → (b : Bool) → is_newer j e ≡ b → Ends (only_if b (and_then (only_if (is_dirty j) (copy_off j)) (try_change (change.Take j.id (entry_identity e) e.len))) s) done t → IsTold s t ⊎ ((done ≡ true) × NotNewer s t)
    newer j f true q z = inl (copied j (is_dirty j) z)
    newer j f false q z = inr (z.0, (z.1, λ there. subst (λ (k : Item). is_newer k e ≡ false) (some j i (sym f ∙ there)) q))

    by : (o : Option Item) → item_of (items_now s) i.id ≡ o → Ends (take_over e o s) done t → IsTold s t ⊎ ((done ≡ true) × NotNewer s t)
    by None f z = inr (z.0, (z.1, λ there. absurd (none i (sym f ∙ there))))
    by (Some j) f z = newer j f (is_newer j e) refl z

  abbrev Taking : Arrow State Bool
  Taking = and_then (take_entry e i.id) (try_mark_now i.id)

  taking_clean : Clean Taking NotNewer
  taking_clean =
      then_clean (take_entry e i.id) (try_mark_now i.id) NotNewer NotNewer take_clean (mark_grows i.id)
      (λ s m r listening done t z. marked s m r listening done t (mark_same i.id s done t listening (subst (λ (y : State). Ends (try_mark_now i.id y) done t) r.0 z))) where
        marked : (s m : State) → NotNewer s m → IsListening s → (done : Bool) (t : State) → IsTold s t ⊎ ((done ≡ true) × Same s t) → IsTold s t ⊎ ((done ≡ true) × NotNewer s t)
        marked s m r listening done t (inl z) = inl z
        marked s m r listening done t (inr z) = inr (z.0, (z.1, r.1))

  take_grows : Grows (take_entry e i.id)
  take_grows w = record { keeps = λ s h. (over (item_of (items_now s) i.id) w).keeps s h } where
    copy_grows : (j : Item) → Grows (copy_off j)
    copy_grows j = state_grows (λ s. try_change (change.Copy s.filter.volume.next_item j.id j.parent (conflict_name (items_now s) j.parent j.name))) (λ s. change_grows (change.Copy s.filter.volume.next_item j.id j.parent (conflict_name (items_now s) j.parent j.name)))

    over : (o : Option Item) → Grows (take_over e o)
    over None w = record { keeps = λ s h. h }
    over (Some j) w =
        (if_grows (is_newer j e) (and_then (only_if (is_dirty j) (copy_off j)) (try_change (change.Take j.id (entry_identity e) e.len)))
        (then_grows (only_if (is_dirty j) (copy_off j)) (try_change (change.Take j.id (entry_identity e) e.len)) (if_grows (is_dirty j) (copy_off j) (copy_grows j)) (change_grows (change.Take j.id (entry_identity e) e.len)))) w

  pub taking_grows : Grows Taking
  taking_grows = then_grows (take_entry e i.id) (try_mark_now i.id) take_grows (mark_grows i.id)

  pub path_seen : (s : State) → is_seen_so (with_book (with_seen (seen_entry i.id e)) s) i e ≡ true
  path_seen s = ap (λ (o : Option SeenPath). says (is_path_of e) o) (seen_put (seen_entry i.id e) (book_now s)) ∙ both (e.parent.0 == e.parent.0) (same e.name e.name) (eq-eqb e.parent.0 e.parent.0 refl) (same_self e.name) where
    both : (a b : Bool) → a ≡ true → b ≡ true → (a && b) ≡ true
    both true b x z = z
    both false b x z = no_way x

  abbrev Ended : State → State → Type 0
  Ended a u = item_of (items_now a) i.id ≡ Some i → IsTakenIn e i a u × SeesOnly e i a u

  steps_told : (s : State) (done : Bool) (t : State) → item_of (items_now s) i.id ≡ Some i → IsListening s → Ends (changed_steps e i p s) done t → IsTold s t ⊎ (IsTakenIn e i s t × SeesOnly e i s t)
  steps_told s done t there listening ends = by (is_seen_so s i e) refl ends where
    so : is_seen_so s i e ≡ true → IsTold s t ⊎ ((done ≡ true) × NotNewer s t) → IsTold s t ⊎ (IsTakenIn e i s t × SeesOnly e i s t)
    so q (inl z) = inl z
    so q (inr z) = inr (record { items = ap items_now z.1.0; seen = subst (λ (y : State). is_seen_so y i e ≡ true) (sym z.1.0) q; version = z.1.1 there }, inl z.1.0)

    absent : (a : State) → is_there i.id a ≡ false → item_of (items_now a) i.id ≡ Some i → ⊥
    absent a q f = no_way (sym q ∙ ap (λ (o : Option Item). is_some o) f)

    later : (a m : State) → Sees a m → IsListening a → (d : Bool) (u : State) → Ends (Taking m) d u → IsTold a u ⊎ ((d ≡ true) × Ended a u)
    later a m (inl sees) l d u z = joined (taking_clean n d u (record { inline = l.inline; shows = l.shows }) (subst (λ (y : State). Ends (Taking y) d u) sees.1 z)) where
      n : State
      n = with_book (with_seen (seen_entry i.id e)) a

      joined : IsTold n u ⊎ ((d ≡ true) × NotNewer n u) → IsTold a u ⊎ ((d ≡ true) × Ended a u)
      joined (inl k) = inl (record { lines = k.lines; noted = k.noted; loud = k.loud })
      joined (inr k) = inr (k.0, λ f. (record { items = ap items_now k.1.0; seen = subst (λ (y : State). is_seen_so y i e ≡ true) (sym k.1.0) (path_seen a); version = k.1.1 f }, inr k.1.0))
    later a m (inr sees) l d u z = away (taking_clean a d u l (subst (λ (y : State). Ends (Taking y) d u) sees.1 z)) where
      away : IsTold a u ⊎ ((d ≡ true) × NotNewer a u) → IsTold a u ⊎ ((d ≡ true) × Ended a u)
      away (inl k) = inl k
      away (inr k) = inr (k.0, λ f. absurd (absent a sees.0 f))

    last : IsTold s t ⊎ ((done ≡ true) × Ended s t) → IsTold s t ⊎ (IsTakenIn e i s t × SeesOnly e i s t)
    last (inl z) = inl z
    last (inr z) = inr (z.1 there)

    by : (b : Bool) → is_seen_so s i e ≡ b → Ends (and_then (only_if (not b) (move_entry e i p)) Taking s) done t → IsTold s t ⊎ (IsTakenIn e i s t × SeesOnly e i s t)
    by true q z = so q (taking_clean s done t listening z)
    by false q z = last (then_clean (move_entry e i p) Taking Sees Ended move_clean taking_grows later s done t listening z)

-- the cases of an entry

changed_told : (e : Entry) (i p : Item) (s : State) (postponed : Bool) (t : State) → item_of (items_now s) i.id ≡ Some i → IsListening s → Ends (changed_entry e i p s) postponed t
    → IsTold s t ⊎ ((postponed ≡ true) × (t ≡ s) × (in_use s i.id ≡ true)) ⊎ ((postponed ≡ false) × IsTakenIn e i s t × SeesOnly e i s t)
changed_told e i p s postponed t there listening ends = by (is_newer i e && in_use s i.id) refl ends where
  used : (a b : Bool) → (a && b) ≡ true → b ≡ true
  used true b e = e
  used false b e = no_way e

  by : (b : Bool) → (is_newer i e && in_use s i.id) ≡ b → Ends (changed_unless e i p b s) postponed t → IsTold s t ⊎ ((postponed ≡ true) × (t ≡ s) × (in_use s i.id ≡ true)) ⊎ ((postponed ≡ false) × IsTakenIn e i s t × SeesOnly e i s t)
  by true q z = inr (inl (z.0, z.1, used (is_newer i e) (in_use s i.id) q))
  by false q z = done (turned (changed_steps e i p) s postponed t z) where
    done : ((d : Bool) × Ends (changed_steps e i p s) d t × (postponed ≡ false)) → IsTold s t ⊎ ((postponed ≡ true) × (t ≡ s) × (in_use s i.id ≡ true)) ⊎ ((postponed ≡ false) × IsTakenIn e i s t × SeesOnly e i s t)
    done x = also (steps_told e i p s x.0 t there listening x.1) where
      also : IsTold s t ⊎ (IsTakenIn e i s t × SeesOnly e i s t) → IsTold s t ⊎ ((postponed ≡ true) × (t ≡ s) × (in_use s i.id ≡ true)) ⊎ ((postponed ≡ false) × IsTakenIn e i s t × SeesOnly e i s t)
      also (inl k) = inl k
      also (inr k) = inr (inr (x.2, k.0, k.1))

pub turn_told : (e : Entry) (s : State) (postponed : Bool) (t : State) → Invariant s → IsFair s.link → IsListening s → Ends (take_turn e s) postponed t → IsTold s t ⊎ IsTurnOf e s postponed t
turn_told e s postponed t h fair listening ends = by (by_target (items_now s) e.rid) (parent_here s e) refl refl ends where
  fresh : by_target (items_now s) e.rid ≡ None → (b : Bool) (o : Option Item) → e.live ≡ b → parent_here s e ≡ o → Ends (unknown b e o s) postponed t → IsTold s t ⊎ IsTurnOf e s postponed t
  fresh f true (Some p) live up z = inl (new_told e p s postponed t listening z)
  fresh f true None live up z = inr (inr (inl (z.0, z.1, f, inr up)))
  fresh f false o live up z = inr (inr (inl (z.0, z.1, f, inl live)))

  there : (i : Item) → by_target (items_now s) e.rid ≡ Some i → item_of (items_now s) i.id ≡ Some i
  there i f = found_again (λ x. has_target x e.rid) 0 s.filter.volume.next_item.0 (items_now s) i (h.1 fair).now.order f

  went : (i : Item) → by_target (items_now s) e.rid ≡ Some i → IsTold s t ⊎ ((postponed ≡ true) × (t ≡ s) × (in_use s i.id ≡ true)) → IsTold s t ⊎ IsTurnOf e s postponed t
  went i f (inl k) = inl k
  went i f (inr k) = inr (inl (k.0, k.1, i, f, k.2))

  changed : (i : Item) → by_target (items_now s) e.rid ≡ Some i → e.live ≡ true → IsTold s t ⊎ ((postponed ≡ true) × (t ≡ s) × (in_use s i.id ≡ true)) ⊎ ((postponed ≡ false) × IsTakenIn e i s t × SeesOnly e i s t) → IsTold s t ⊎ IsTurnOf e s postponed t
  changed i f live (inl k) = inl k
  changed i f live (inr (inl k)) = inr (inl (k.0, k.1, i, f, k.2))
  changed i f live (inr (inr k)) = inr (inr (inr (k.0, live, i, f, k.1, k.2)))

  old : (i : Item) → by_target (items_now s) e.rid ≡ Some i → (b : Bool) (o : Option Item) → e.live ≡ b → Ends (known b e i o s) postponed t → IsTold s t ⊎ IsTurnOf e s postponed t
  old i f true (Some p) live z = changed i f live (changed_told e i p s postponed t (there i f) listening z)
  old i f true None live z = went i f (gone_told i s postponed t listening z)
  old i f false o live z = went i f (gone_told i s postponed t listening z)

  by : (o p : Option Item) → by_target (items_now s) e.rid ≡ o → parent_here s e ≡ p → Ends (turn_by e o p s) postponed t → IsTold s t ⊎ IsTurnOf e s postponed t
  by None p f up z = fresh f e.live p refl up z
  by (Some i) p f up z = old i f e.live p refl z
