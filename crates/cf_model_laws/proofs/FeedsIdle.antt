-- A feed leaves what is in use, and takes over and removes nothing of it.
use Rattle.std.proofs.Common.{◌≡◌, ◌⊎◌, ◌<◌, ◌≤◌, ◌+◌, ℕ, Bool, true, false, List, [], ◌∷◌, ◌++◌, refl, sym, ◌∙◌, ap, subst, inl, inr, arith, length, max}
use Rattle.std.specs.Prelude.{Option, Some, None, not, drop, ◌&&◌, ◌||◌, ◌==◌}
use Rattle.std.specs.List.{list_any}
use Rattle.std.proofs.lemmas.List.{append-nil, append_assoc}
use Rattle.cf_base.specs.declared.answers.Answer.{Answer}
use Rattle.cf_base.specs.declared.changes.Change.{Change}
use Rattle.cf_base.specs.declared.changes.Change.TheVariants as change
use Rattle.cf_base.specs.declared.codes.Code.{Code}
use Rattle.cf_base.specs.declared.events.Event.{Event}
use Rattle.cf_base.specs.declared.ids.ItemId.{ItemId}
use Rattle.cf_base.specs.declared.ids.Usn.{Usn}
use Rattle.cf_base.specs.declared.items.SeenPath.{SeenPath}
use Rattle.cf_base.specs.declared.messages.Entry.{Entry}
use Rattle.cf_base.specs.declared.notices.Notice.TheVariants as notice
use Rattle.cf_base.specs.declared.policies.Mode.TheVariants as mode
use Rattle.cf_model.specs.Arrows.{Arrow, Preserves, and_then, choose, noted, only_if, reading, then_do, unit, unless_done, when_ok}
use Rattle.cf_model.specs.Books.{Book, with_cursor, with_seen}
use Rattle.cf_model.specs.Changes.{change as put, next_number, put_with_book, same_book}
use Rattle.cf_model.specs.ConflictNames.{conflict_name}
use Rattle.cf_model.specs.Dehydration.{in_use as is_used}
use Rattle.cf_model.specs.Effects.{changed, copies, effect, untargeted}
use Rattle.cf_model.specs.Events.{begun, is_of, tree_of}
use Rattle.cf_model.specs.Feeds.{Fed, adopt, all_released, all_turns, apply_entries, apply_feed, changed_steps, changed_unless, copy_off, cursor_if, end_feed, first_turn, first_turn_by, free_parent, gone, gone_unless, in_turn, is_adoptable, is_later, is_newer, is_removable, is_seen_so, is_under, is_whole, known, make_after, make_entry, make_of, move_entry, move_in, name_in_root, new_entry, new_over, parent_here, remove_or_untarget, second_turn, second_turns, seen_entry, stands_in, take_entry, take_over, take_turn, turn_by, turns, unknown, untarget, with_clock_seen, with_turn}
use Rattle.cf_model.specs.Identities.{by_target, entry_identity, has_target, no_identity}
use Rattle.cf_model.specs.Items.{Item, base_of, is_dirty, item_of, pin_of}
use Rattle.cf_model.specs.Lawful.{Runs}
use Rattle.cf_model.specs.Logs.{next_by}
use Rattle.cf_model.specs.LookUp.{child_of}
use Rattle.cf_model.specs.Numbers.{no_item, no_key, no_usn, root_id}
use Rattle.cf_model.specs.Points.{with_point_begun, with_room_point}
use Rattle.cf_model.specs.PushReplies.{round_closed, whatever}
use Rattle.cf_model.specs.Requests.{Waiting, is_busy_beside}
use Rattle.cf_model.specs.Skips.{do_change, in_book, in_use, in_volatile, is_cursor, is_there, is_markable, left_out, move_off, not_done, number_of_item, occupant, skip, skip_line, skipped, tried, try_book, try_change, try_clear_name, try_cursor, try_mark_now, try_seen, why_no_change, why_no_record, with_book, with_volatile}
use Rattle.cf_model.specs.Soundness.{Each}
use Rattle.cf_model.specs.State.{Open, State, Volume, items_now, start, with_filter, with_notes, with_volume}
use Rattle.cf_model.specs.Store.{Held}
use Rattle.cf_model.specs.Trees.{Keeps, Ret, bind}
use Rattle.cf_model.specs.Words.{says}
use Rattle.cf_model.proofs.ArrowLaws.{keeps_noted, keeps_reading, keeps_ret, keeps_seq, keeps_then}
use Rattle.cf_model.proofs.TreeLaws.{keeps_bind, keeps_mapped}
use Rattle.cf_model_laws.specs.Invariant.{All, InOrder, Invariant}
use Rattle.cf_model_laws.specs.Premises.{IsFair, IsFresh}
use Rattle.cf_model_laws.specs.Uses.{AreIdsRising, AreReplacedIdle, Replaces}
use Rattle.cf_model_laws.proofs.ContentLaws.{keeps_weaker, run_sound, sound_whole}
use Rattle.cf_model_laws.proofs.EventsGuarded.{event_now_keeps}
use Rattle.cf_model_laws.proofs.FeedEntriesGuarded.{turn_at}
use Rattle.cf_model_laws.proofs.MoveChanges.{Alike, alike_moved}
use Rattle.cf_model_laws.proofs.FeedsGuarded.{and_false_right, newer_alike}
use Rattle.cf_model_laws.proofs.FitItems.{order_append, order_changed, order_filter}
use Rattle.cf_model_laws.proofs.FoundItems.{found_again, found_id}
use Rattle.cf_model_laws.proofs.Gathered.{all_append}
use Rattle.cf_model_laws.proofs.Leading.{kept_leads}
use Rattle.cf_model_laws.proofs.PushRepliesGuarded.{each_at}
use Rattle.cf_model_laws.proofs.SkipsGuarded.{and_then_keeps, keeps_into, only_if_at}
use Rattle.cf_model_laws.proofs.SoundFilters.{change_leads}
use Rattle.cf_model_laws.proofs.SoundSettles.{each_found, same_item}

-- what a change replaces is not in use where the feed begins
abbrev Idle : State → Change → Type 0
Idle w c = (id : ItemId) → Replaces c id → is_used id w.filter ≡ false

-- In a feed that began in the first state: nothing was opened, closed, begun or ended since, the changes since replaced nothing
-- in use, the ids rise, and of the items one fact is kept.
pub record Calm (w : State) (G : List Item → Type 0) (t : State) : Type 0 where
  pub handles : t.filter.handles ≡ w.filter.handles
  pub waiting : t.filter.waiting ≡ w.filter.waiting
  pub changes : List (Usn × Change)
  pub longer : t.filter.volume.log ≡ w.filter.volume.log ++ changes
  pub idle : All (λ c. Idle w c.1) changes
  pub order : InOrder 0 t.filter.volume.next_item.0 (items_now t)
  pub items : G (items_now t)

abbrev Whatever : List Item → Type 0
Whatever items = Unit {0}

abbrev Rises : ℕ → Change → Type 0
Rises next c = (items : List Item) (n : Usn) → InOrder 0 next items → InOrder 0 (max next (next_by c)) (effect items c n)

abbrev Stays : (List Item → Type 0) → Change → Type 0
Stays G c = (items : List Item) (n : Usn) → G items → G (effect items c n)

-- single steps

same_calm : (w : State) (G : List Item → Type 0) (s : State) (v : Volume) → v.log ≡ s.filter.volume.log → v.items ≡ items_now s → v.next_item ≡ s.filter.volume.next_item → Calm w G s → Calm w G (with_filter (with_volume v s.filter) s)
same_calm w G s v log items next h = record {
  handles = h.handles;
  waiting = h.waiting;
  changes = h.changes;
  longer = log ∙ h.longer;
  idle = h.idle;
  order = subst (λ (i : ItemId). InOrder 0 i.0 v.items) (sym next) (subst (InOrder 0 s.filter.volume.next_item.0) (sym items) h.order);
  items = subst G (sym items) h.items;
}

calm_change : (w : State) (G : List Item → Type 0) (c : Change) (s : State) → Idle w c → Rises s.filter.volume.next_item.0 c → Stays G c → Calm w G s → Keeps (Calm w G) (do_change c s)
calm_change w G c s idle rises stays h =
    keeps_mapped (λ x. Calm w G (with_filter x s)) (Calm w G) (λ x. with_filter x s) (put c s.filter) (λ x j. j)
    (kept_leads (λ x. Calm w G (with_filter x s)) (put c s.filter)
    (change_leads (λ x. Calm w G (with_filter x s)) (λ x. Calm w G (with_filter x s)) same_book c s.filter h (same_calm w G s (with_point_begun s.filter.volume) refl refl refl h) (same_calm w G s (with_room_point s.filter.volume) refl refl refl h)
    (λ v is. by v is))) where
      after : Calm w G (with_filter (with_notes (notice.Change (next_number s.filter.volume) c ∷ []) (with_volume (put_with_book same_book c s.filter.volume) s.filter)) s)
      after = record {
        handles = h.handles;
        waiting = h.waiting;
        changes = h.changes ++ (next_number s.filter.volume, c) ∷ [];
        longer = ap (λ (cs : List (Usn × Change)). cs ++ (next_number s.filter.volume, c) ∷ []) h.longer ∙ append_assoc w.filter.volume.log h.changes ((next_number s.filter.volume, c) ∷ []);
        idle = all_append (λ d. Idle w d.1) h.changes ((next_number s.filter.volume, c) ∷ []) h.idle (idle, tt);
        order = rises (items_now s) (next_number s.filter.volume) h.order;
        items = stays (items_now s) (next_number s.filter.volume) h.items;
      }

      by : (v : Volume) → (v ≡ s.filter.volume) ⊎ (v ≡ with_room_point s.filter.volume) → Calm w G (with_filter (with_notes (notice.Change (next_number v) c ∷ []) (with_volume (put_with_book same_book c v) s.filter)) s)
      by v (inl e) = subst (λ (u : Volume). Calm w G (with_filter (with_notes (notice.Change (next_number u) c ∷ []) (with_volume (put_with_book same_book c u) s.filter)) s)) (sym e) after
      by v (inr e) =
          subst (λ (u : Volume). Calm w G (with_filter (with_notes (notice.Change (next_number u) c ∷ []) (with_volume (put_with_book same_book c u) s.filter)) s)) (sym e)
          (record { handles = after.handles; waiting = after.waiting; changes = after.changes; longer = after.longer; idle = after.idle; order = after.order; items = after.items })

calm_book : (w : State) (G : List Item → Type 0) (f : Book → Book) (s : State) → Calm w G s → Calm w G (with_book f s)
calm_book w G f s h = same_calm w G s (record s.filter.volume { book = f s.filter.volume.book }) refl refl refl h

calm_skip : (w : State) (G : List Item → Type 0) (c : Code) (s : State) → Calm w G s → Calm w G (skipped c s)
calm_skip w G c s h = by s.running.shows_skips where
  by : (b : Bool) → Calm w G (skip_line b c (record s { running = record s.running { skips = s.running.skips + 1 } }))
  by true = record { handles = h.handles; waiting = h.waiting; changes = h.changes; longer = h.longer; idle = h.idle; order = h.order; items = h.items }
  by false = record { handles = h.handles; waiting = h.waiting; changes = h.changes; longer = h.longer; idle = h.idle; order = h.order; items = h.items }

calm_left_out : (w : State) (G : List Item → Type 0) (o : Option Code) → Preserves (Calm w G) (left_out o)
calm_left_out w G None = keeps_ret (Calm w G) true
calm_left_out w G (Some c) = keeps_seq (Calm w G) (skip c) not_done (keeps_noted (Calm w G) (skipped c) (calm_skip w G c)) (λ u. keeps_ret (Calm w G) false)

calm_tried : (w : State) (G : List Item → Type 0) (why : State → Option Code) (f : Arrow State (Unit {0})) (s : State) → Calm w G s → Keeps (Calm w G) (f s) → Keeps (Calm w G) (tried why f s)
calm_tried w G why f s h k = by (why s) where
  by : (o : Option Code) → Keeps (Calm w G) (bind (unless_done f o s) left_out)
  by None = keeps_bind (Calm w G) (bind (f s) (λ _ t. Ret None t)) left_out (keeps_bind (Calm w G) (f s) (λ _ t. Ret None t) k (λ a t j. j)) (λ o t j. (calm_left_out w G o).keeps t j)
  by (Some c) = (calm_left_out w G (Some c)).keeps s h

calm_try : (w : State) (G : List Item → Type 0) (c : Change) (s : State) → Idle w c → Rises s.filter.volume.next_item.0 c → Stays G c → Calm w G s → Keeps (Calm w G) (try_change c s)
calm_try w G c s idle rises stays h = calm_tried w G (why_no_change c) (do_change c) s h (calm_change w G c s idle rises stays h)

calm_record : (w : State) (G : List Item → Type 0) (f : Book → Book) → Preserves (Calm w G) (try_book f)
calm_record w G f = record { keeps = λ s h. calm_tried w G (why_no_record f) (in_book f) s h (h, calm_book w G f s h) }

calm_seen : (w : State) (G : List Item → Type 0) (p : SeenPath) (s : State) → Calm w G s → Keeps (Calm w G) (try_seen p s)
calm_seen w G p s h = only_if_at (Calm w G) (is_there p.item s) (try_book (with_seen p)) s h (λ _. (calm_record w G (with_seen p)).keeps s h)

-- the ids of the items that stay, and of a new one

order_more : (low next more : ℕ) (items : List Item) → next ≤ more → InOrder low next items → InOrder low more items
order_more low next more [] e h = let z : low < next = h in let y : low < more = omega (arith, e, z) in y
order_more low next more (i ∷ is) e h = (h.0, order_more i.id.0 next more is e h.1)

no_less : (n m : ℕ) → n ≤ max n m
no_less n m = omega arith

one_more : (n : ℕ) → max n (n + 1) ≡ n + 1
one_more n = omega arith

in_place : (id : ItemId) (f : Item → Item) → ((i : Item) → (f i).id ≡ i.id) → (next : ℕ) (items : List Item) → InOrder 0 next items → InOrder 0 (max next 2) (changed id f items)
in_place id f same next items h = order_more 0 next (max next 2) _ (no_less next 2) (order_changed id f same 0 next items h)

-- a change that replaces nothing, in place
calm_plain : (w : State) (G : List Item → Type 0) (c : Change) → ((id : ItemId) → Replaces c id → ⊥) → ((next : ℕ) → Rises next c) → Stays G c → Preserves (Calm w G) (try_change c)
calm_plain w G c none rises stays = record { keeps = λ s h. calm_try w G c s (λ id z. absurd (none id z)) (rises s.filter.volume.next_item.0) stays h }

calm_move : (w : State) (G : List Item → Type 0) → ((item parent : ItemId) (name : List ℕ) → Stays G (change.Move item parent name)) → (item parent : ItemId) (name : List ℕ) → Preserves (Calm w G) (try_change (change.Move item parent name))
calm_move w G stays item parent name = calm_plain w G (change.Move item parent name) (λ id z. z) (λ next items n h. in_place item _ (λ i. refl) next items h) (stays item parent name)

calm_rebase : (w : State) (item : ItemId) (identity : List ℕ) (len : ℕ) (at : Usn) → Preserves (Calm w Whatever) (try_change (change.Rebase item identity len at))
calm_rebase w item identity len at = calm_plain w Whatever (change.Rebase item identity len at) (λ id z. z) (λ next items n h. in_place item _ (λ i. refl) next items h) (λ items n g. tt)

calm_mark : (w : State) (item : ItemId) (s : State) → Calm w Whatever s → Keeps (Calm w Whatever) (try_mark_now item s)
calm_mark w item s h =
    only_if_at (Calm w Whatever) (is_markable item (number_of_item item s) s) (try_change (change.Mark item (number_of_item item s))) s h
    (λ _. (calm_plain w Whatever (change.Mark item (number_of_item item s)) (λ id z. z) (λ next items n h. in_place item _ (λ i. refl) next items h) (λ items n g. tt)).keeps s h)

calm_seen_marked : (w : State) (p : SeenPath) (s : State) → Calm w Whatever s → Keeps (Calm w Whatever) (and_then (try_seen p) (try_mark_now p.item) s)
calm_seen_marked w p s h = and_then_keeps (Calm w Whatever) (try_seen p) (try_mark_now p.item) s (calm_seen w Whatever p s h) (λ t j. calm_mark w p.item t j)

calm_clear_name : (w : State) (G : List Item → Type 0) → ((item parent : ItemId) (name : List ℕ) → Stays G (change.Move item parent name)) → (parent : ItemId) (name : List ℕ) (but : ItemId) (s : State) → Calm w G s → Keeps (Calm w G) (try_clear_name parent name but s)
calm_clear_name w G stays parent name but s h = by (occupant parent name but s) where
  by : (o : Option Item) → Keeps (Calm w G) (move_off o s)
  by None = h
  by (Some i) = (calm_move w G stays i.id i.parent (conflict_name (items_now s) i.parent i.name)).keeps s h

-- Gone

used_alike : (w : State) (G : List Item → Type 0) (t : State) → Calm w G t → (id : ItemId) → is_used id t.filter ≡ is_used id w.filter
used_alike w G t h id =
    ap (λ (hs : List Open). list_any (λ o. o.item.0 == id.0) hs || is_busy_beside id (record { 0 = no_key }) t.filter.waiting) h.handles
    ∙ ap (λ (v : Waiting). list_any (λ o. o.item.0 == id.0) w.filter.handles || is_busy_beside id (record { 0 = no_key }) v) h.waiting

-- the item alone is replaced, and it is not in use now
idle_now : (w : State) (G : List Item → Type 0) (t : State) (item id : ItemId) → Calm w G t → in_use t item ≡ false → item.0 ≡ id.0 → is_used id w.filter ≡ false
idle_now w G t item id h idle e = subst (λ (x : ItemId). is_used x w.filter ≡ false) (same_item item id e) (sym (used_alike w G t h item) ∙ idle)

calm_untarget : (w : State) (i : Item) (s : State) → Calm w Whatever s → Keeps (Calm w Whatever) (untarget i s)
calm_untarget w i s h =
    and_then_keeps (Calm w Whatever) (only_if i.in_sync (try_change (change.Clear i.id))) (try_change (change.Rebase i.id (untargeted i.identity) (base_of i) no_usn)) s
    (only_if_at (Calm w Whatever) i.in_sync (try_change (change.Clear i.id)) s h (λ _. (calm_plain w Whatever (change.Clear i.id) (λ id z. z) (λ next items n h. in_place i.id _ (λ j. refl) next items h) (λ items n g. tt)).keeps s h))
    (λ t j. (calm_rebase w i.id (untargeted i.identity) (base_of i) no_usn).keeps t j)

calm_gone : (w : State) (i : Item) → Preserves (Calm w Whatever) (gone i)
calm_gone w i = record { keeps = λ s h. by s h (in_use s i.id) refl } where
  steps : (s : State) → Calm w Whatever s → (b : Bool) → in_use s i.id ≡ false → Keeps (Calm w Whatever) (remove_or_untarget i b s)
  steps s h true idle =
      calm_try w Whatever (change.Remove i.id) s (λ id e. idle_now w Whatever s i.id id h idle e)
      (λ items n k. order_more 0 s.filter.volume.next_item.0 (max s.filter.volume.next_item.0 2) _ (no_less s.filter.volume.next_item.0 2) (order_filter _ 0 s.filter.volume.next_item.0 items k)) (λ items n g. tt) h
  steps s h false idle = calm_untarget w i s h

  by : (s : State) → Calm w Whatever s → (b : Bool) → in_use s i.id ≡ b → Keeps (Calm w Whatever) (gone_unless i b s)
  by s h true q = h
  by s h false q = turn_at (Calm w Whatever) (λ t. remove_or_untarget i (is_removable t i) t) s (steps s h (is_removable s i) q)

-- New

calm_adopt : (w : State) (e : Entry) (i : Item) (s : State) → Calm w Whatever s → Keeps (Calm w Whatever) (adopt e i s)
calm_adopt w e i s h =
    and_then_keeps (Calm w Whatever) (only_if (not i.placeholder) (try_change (change.Convert i.id no_identity))) (and_then (try_change (change.Rebase i.id (entry_identity e) 0 no_usn)) (and_then (try_seen (seen_entry i.id e)) (try_mark_now i.id))) s
    (only_if_at (Calm w Whatever) (not i.placeholder) (try_change (change.Convert i.id no_identity)) s h
    (λ _. (calm_plain w Whatever (change.Convert i.id no_identity) (λ id z. z) (λ next items n h. in_place i.id _ (λ j. refl) next items h) (λ items n g. tt)).keeps s h))
    (λ t j. and_then_keeps (Calm w Whatever) (try_change (change.Rebase i.id (entry_identity e) 0 no_usn)) (and_then (try_seen (seen_entry i.id e)) (try_mark_now i.id)) t ((calm_rebase w i.id (entry_identity e) 0 no_usn).keeps t j)
    (λ u k. calm_seen_marked w (seen_entry i.id e) u k))

new_order : (next : ℕ) (items : List Item) (x : Item) → x.id.0 ≡ next → InOrder 0 next items → InOrder 0 (max next (next + 1)) (items ++ x ∷ [])
new_order next items x e h = subst (λ (m : ℕ). InOrder 0 m (items ++ x ∷ [])) (sym (one_more next)) (order_append 0 next items x e h)

calm_make : (w : State) (e : Entry) (p : Item) (s : State) → Calm w Whatever s → Keeps (Calm w Whatever) (make_entry e p s)
calm_make w e p s h =
    and_then_keeps (Calm w Whatever) (try_clear_name p.id e.name no_item) (make_after e p) s (calm_clear_name w Whatever (λ item parent name items n g. tt) p.id e.name no_item s h)
    (λ t j. and_then_keeps (Calm w Whatever) (try_change (make_of t e p)) (and_then (try_seen (seen_entry t.filter.volume.next_item e)) (try_mark_now t.filter.volume.next_item)) t
    (calm_try w Whatever (make_of t e p) t (λ id z. absurd z) (λ items n k. new_order t.filter.volume.next_item.0 items _ refl k) (λ items n g. tt) j)
    (λ u k. calm_seen_marked w (seen_entry t.filter.volume.next_item e) u k))

calm_new : (w : State) (e : Entry) (p : Item) → Preserves (Calm w Whatever) (new_entry e p)
calm_new w e p = record { keeps = λ s h. turn_at (Calm w Whatever) (λ t. new_over e p (child_of (items_now t) p.id e.name) t) s (by s h (child_of (items_now s) p.id e.name)) } where
  choice : (s : State) → Calm w Whatever s → (i : Item) (b : Bool) → Keeps (Calm w Whatever) (choose b (adopt e i) (make_entry e p) s)
  choice s h i true = calm_adopt w e i s h
  choice s h i false = calm_make w e p s h

  by : (s : State) → Calm w Whatever s → (o : Option Item) → Keeps (Calm w Whatever) (new_over e p o s)
  by s h None = calm_make w e p s h
  by s h (Some i) = choice s h i (is_adoptable e i)

-- Changed

calm_moves : (w : State) (G : List Item → Type 0) → ((item parent : ItemId) (name : List ℕ) → Stays G (change.Move item parent name)) → (e : Entry) (i p : Item) (s : State) → Calm w G s → Keeps (Calm w G) (move_entry e i p s)
calm_moves w G stays e i p s h =
    and_then_keeps (Calm w G) (try_clear_name p.id e.name i.id) (and_then (free_parent i p) (and_then (move_in e i p) (try_seen (seen_entry i.id e)))) s (calm_clear_name w G stays p.id e.name i.id s h)
    (λ t j. and_then_keeps (Calm w G) (free_parent i p) (and_then (move_in e i p) (try_seen (seen_entry i.id e))) t
    (only_if_at (Calm w G) (is_under (items_now t) p.id i.id) (try_change (change.Move p.id root_id (name_in_root (items_now t) p))) t j (λ _. (calm_move w G stays p.id root_id (name_in_root (items_now t) p)).keeps t j))
    (λ u k. and_then_keeps (Calm w G) (move_in e i p) (try_seen (seen_entry i.id e)) u
    (only_if_at (Calm w G) (not (says (stands_in p e.name) (item_of (items_now u) i.id))) (try_change (change.Move i.id p.id e.name)) u k (λ _. (calm_move w G stays i.id p.id e.name).keeps u k))
    (λ v m. calm_seen w G (seen_entry i.id e) v m)))

with_items : (w : State) (G F : List Item → Type 0) (s : State) → F (items_now s) → Calm w G s → Calm w F s
with_items w G F s f h = record { handles = h.handles; waiting = h.waiting; changes = h.changes; longer = h.longer; idle = h.idle; order = h.order; items = f }

calm_copy : (w : State) (i : Item) (s : State) → Calm w Whatever s → Keeps (Calm w Whatever) (copy_off i s)
calm_copy w i s h = calm_try w Whatever (change.Copy s.filter.volume.next_item i.id i.parent (conflict_name (items_now s) i.parent i.name)) s (λ id z. absurd z) (λ items n k. by items n k (item_of items i.id)) (λ items n g. tt) h where
  by : (items : List Item) (n : Usn) → InOrder 0 s.filter.volume.next_item.0 items → (o : Option Item)
      → InOrder 0 (max s.filter.volume.next_item.0 (s.filter.volume.next_item.0 + 1)) (items ++ copies s.filter.volume.next_item i.parent (conflict_name (items_now s) i.parent i.name) (pin_of items i.parent) n o)
  by items n k None = subst (λ (is : List Item). InOrder 0 (max s.filter.volume.next_item.0 (s.filter.volume.next_item.0 + 1)) is) (sym (append-nil items)) (order_more 0 s.filter.volume.next_item.0 (max s.filter.volume.next_item.0 (s.filter.volume.next_item.0 + 1)) items (no_less s.filter.volume.next_item.0 (s.filter.volume.next_item.0 + 1)) k)
  by items n k (Some j) = new_order s.filter.volume.next_item.0 items _ refl k

calm_take : (w : State) (e : Entry) (k : Item) (s : State) → (is_newer k e ≡ true → is_used k.id w.filter ≡ false) → Calm w Whatever s → Keeps (Calm w Whatever) (take_over e (Some k) s)
calm_take w e k s idle h =
    only_if_at (Calm w Whatever) (is_newer k e) (and_then (only_if (is_dirty k) (copy_off k)) (try_change (change.Take k.id (entry_identity e) e.len))) s h
    (λ q. and_then_keeps (Calm w Whatever) (only_if (is_dirty k) (copy_off k)) (try_change (change.Take k.id (entry_identity e) e.len)) s (only_if_at (Calm w Whatever) (is_dirty k) (copy_off k) s h (λ _. calm_copy w k s h))
    (λ t j. calm_try w Whatever (change.Take k.id (entry_identity e) e.len) t (λ id z. subst (λ (x : ItemId). is_used x w.filter ≡ false) (same_item k.id id z) (idle q)) (λ items n m. in_place k.id _ (λ i. refl) t.filter.volume.next_item.0 items m) (λ items n g. tt) j))

calm_changed : (w : State) (e : Entry) (i p : Item) (s : State) → (is_newer i e && in_use s i.id) ≡ false → item_of (items_now s) i.id ≡ Some i → Calm w Whatever s → Keeps (Calm w Whatever) (changed_steps e i p s)
calm_changed w e i p s idle there h =
    keeps_into (Calm w Whatever) (Calm w (Each i.id (Alike i))) (λ t j. with_items w (Each i.id (Alike i)) Whatever t tt j) (only_if (not (is_seen_so s i e)) (move_entry e i p) s) (when_ok false (and_then (take_entry e i.id) (try_mark_now i.id)))
    (only_if_at (Calm w (Each i.id (Alike i))) (not (is_seen_so s i e)) (move_entry e i p) s first (λ _. calm_moves w (Each i.id (Alike i)) (λ item parent name items n g. alike_moved i i.id (change.Move item parent name) n items tt g) e i p s first))
    (λ done t j. rest done t j) where
      first : Calm w (Each i.id (Alike i)) s
      first = with_items w Whatever (Each i.id (Alike i)) s (each_found i.id (Alike i) 0 s.filter.volume.next_item.0 (items_now s) i h.order there (refl, refl, refl, refl)) h

      free : (t : State) → Calm w (Each i.id (Alike i)) t → (k : Item) → item_of (items_now t) i.id ≡ Some k → is_newer k e ≡ true → is_used k.id w.filter ≡ false
      free t j k f q = idle_now w Whatever s i.id k.id h (and_false_right (is_newer i e) (in_use s i.id) idle (newer_alike i k e (each_at i.id (Alike i) (items_now t) k f j.items) q)) (sym (found_id i.id (items_now t) k f))

      taken_at : (t : State) → Calm w (Each i.id (Alike i)) t → (o : Option Item) → item_of (items_now t) i.id ≡ o → Keeps (Calm w Whatever) (take_over e o t)
      taken_at t j None f = with_items w (Each i.id (Alike i)) Whatever t tt j
      taken_at t j (Some k) f = calm_take w e k t (free t j k f) (with_items w (Each i.id (Alike i)) Whatever t tt j)

      rest : (done : Bool) (t : State) → Calm w (Each i.id (Alike i)) t → Keeps (Calm w Whatever) (when_ok false (and_then (take_entry e i.id) (try_mark_now i.id)) done t)
      rest true t j = and_then_keeps (Calm w Whatever) (take_entry e i.id) (try_mark_now i.id) t (taken_at t j (item_of (items_now t) i.id) refl) (λ u k. calm_mark w i.id u k)
      rest false t j = with_items w (Each i.id (Alike i)) Whatever t tt j

-- all entries

calm_turn : (w : State) (e : Entry) → Preserves (Calm w Whatever) (take_turn e)
calm_turn w e = record { keeps = λ s h. by s h (by_target (items_now s) e.rid) (parent_here s e) refl } where
  fresh : (s : State) → Calm w Whatever s → (live : Bool) (p : Option Item) → Keeps (Calm w Whatever) (unknown live e p s)
  fresh s h true (Some p) = (calm_new w e p).keeps s h
  fresh s h true None = h
  fresh s h false p = h

  newer : (s : State) → Calm w Whatever s → (i p : Item) → item_of (items_now s) i.id ≡ Some i → (b : Bool) → (is_newer i e && in_use s i.id) ≡ b → Keeps (Calm w Whatever) (changed_unless e i p b s)
  newer s h i p there true q = h
  newer s h i p there false q = turn_at (Calm w Whatever) (changed_steps e i p) s (calm_changed w e i p s q there h)

  old : (s : State) → Calm w Whatever s → (i : Item) → by_target (items_now s) e.rid ≡ Some i → (live : Bool) (p : Option Item) → Keeps (Calm w Whatever) (known live e i p s)
  old s h i f true (Some p) = newer s h i p (found_again (λ x. has_target x e.rid) 0 s.filter.volume.next_item.0 (items_now s) i h.order f) (is_newer i e && in_use s i.id) refl
  old s h i f true None = (calm_gone w i).keeps s h
  old s h i f false p = (calm_gone w i).keeps s h

  by : (s : State) → Calm w Whatever s → (o p : Option Item) → by_target (items_now s) e.rid ≡ o → Keeps (Calm w Whatever) (turn_by e o p s)
  by s h None p f = fresh s h e.live p
  by s h (Some i) p f = old s h i f e.live p

calm_second : (w : State) (e : Entry) (f : Fed) → Preserves (Calm w Whatever) (second_turn e f)
calm_second w e f = keeps_seq (Calm w Whatever) (take_turn e) (with_turn f) (calm_turn w e) (λ b. record { keeps = λ s h. h })

calm_first : (w : State) (e : Entry) (f : Fed) → Preserves (Calm w Whatever) (first_turn e f)
calm_first w e f = record { keeps = λ s h. by s h (is_later s e) } where
  by : (s : State) → Calm w Whatever s → (b : Bool) → Keeps (Calm w Whatever) (first_turn_by b e f s)
  by s h true = h
  by s h false = (calm_second w e f).keeps s h

calm_turns : (w : State) (f : Entry → Fed → Arrow State Fed) → ((e : Entry) (g : Fed) → Preserves (Calm w Whatever) (f e g)) → (list : List Entry) (g : Fed) → Preserves (Calm w Whatever) (turns f list g)
calm_turns w f k [] g = keeps_ret (Calm w Whatever) g
calm_turns w f k (e ∷ list) g = keeps_seq (Calm w Whatever) (f e g) (turns f list) (k e g) (calm_turns w f k list)

calm_all : (w : State) (list : List Entry) (s : State) → Calm w Whatever s → Keeps (Calm w Whatever) (all_turns list s)
calm_all w list s h =
    (keeps_seq (Calm w Whatever) (turns first_turn (in_turn (items_now s) list) (record { postponed = false; later = [] })) second_turns (calm_turns w first_turn (calm_first w) (in_turn (items_now s) list) (record { postponed = false; later = [] }))
    (λ f. calm_turns w second_turn (calm_second w) f.later f)).keeps s h

calm_cursor : (w : State) (clock : ℕ) (b : Bool) → Preserves (Calm w Whatever) (cursor_if clock b)
calm_cursor w clock false = keeps_ret (Calm w Whatever) unit
calm_cursor w clock true =
    keeps_seq (Calm w Whatever) (try_cursor clock) whatever (record { keeps = λ s h. only_if_at (Calm w Whatever) (not (is_cursor clock s)) (try_book (with_cursor clock)) s h (λ _. (calm_record w Whatever (with_cursor clock)).keeps s h) }) (λ b. keeps_ret (Calm w Whatever) unit)

calm_end : (w : State) (clock skips : ℕ) (f : Fed) → Preserves (Calm w Whatever) (end_feed clock skips f)
calm_end w clock skips f =
    keeps_then (Calm w Whatever) (in_volatile all_released) (then_do (noted (with_clock_seen clock)) (reading (is_whole skips f) (cursor_if clock)))
    (keeps_noted (Calm w Whatever) (with_volatile all_released) (λ s h. record { handles = h.handles; waiting = h.waiting; changes = h.changes; longer = h.longer; idle = h.idle; order = h.order; items = h.items }))
    (keeps_then (Calm w Whatever) (noted (with_clock_seen clock)) (reading (is_whole skips f) (cursor_if clock))
    (keeps_noted (Calm w Whatever) (with_clock_seen clock) (λ s h. record { handles = h.handles; waiting = h.waiting; changes = h.changes; longer = h.longer; idle = h.idle; order = h.order; items = h.items }))
    (keeps_reading (Calm w Whatever) (is_whole skips f) (cursor_if clock) (calm_cursor w clock)))

-- the law

since_front : {A : Type 0} (front more all : List A) → all ≡ front ++ more → drop (length front) all ≡ more
since_front front more all e = ap (λ (l : List _). drop (length front) l) e ∙ behind front where
  behind : (xs : List _) → drop (length xs) (xs ++ more) ≡ more
  behind [] = refl
  behind (x ∷ xs) = behind xs

calm_idle : (s t : State) → Calm s Whatever t → AreReplacedIdle s t
calm_idle s t h =
    let e : drop (length s.filter.volume.log) t.filter.volume.log ≡ h.changes = since_front s.filter.volume.log h.changes t.filter.volume.log h.longer in
    record {
      alike = used_alike s Whatever t h;
      longer = ap (λ (cs : List (Usn × Change)). s.filter.volume.log ++ cs) e ∙ sym h.longer;
      idle = subst (All (λ c. Idle s c.1)) (sym e) h.idle;
    }

feed_calm : (w : State) (clock : ℕ) (entries : List Entry) (s : State) → Calm w Whatever s → Keeps (Calm w Whatever) (apply_entries clock entries s)
feed_calm w clock entries s h =
    keeps_bind (Calm w Whatever) (all_turns entries s) (end_feed clock s.running.skips) (calm_all w entries s h) (λ f t j. (calm_end w clock s.running.skips f).keeps t j)

pub feed_idle : (clock : ℕ) (entries : List Entry) (s : State) → AreIdsRising s → Keeps (AreReplacedIdle s) (apply_feed clock entries s)
feed_idle clock entries s rising =
    keeps_weaker (Calm s Whatever) (AreReplacedIdle s) (calm_idle s) (apply_feed clock entries s)
    (feed_calm s clock entries (with_volatile round_closed s) (record { handles = refl; waiting = refl; changes = []; longer = sym (append-nil s.filter.volume.log); idle = tt; order = rising; items = tt }))

pub ids_rise : (remote : Held) (clusters : ℕ) (trace : List (Event × Answer)) (s : State) (e : Event)
    → Runs mode.Replay (start mode.Replay remote clusters) trace s → IsFresh remote → is_of mode.Replay e ≡ true → Keeps (λ t. IsFair t.link → AreIdsRising t) (tree_of e s)
ids_rise remote clusters trace s e runs fresh is =
    keeps_weaker Invariant (λ t. IsFair t.link → AreIdsRising t) (λ t h fair. (h.1 fair).now.order) (tree_of e s) ((event_now_keeps Invariant sound_whole e is).keeps (begun s) (sound_whole.begins s (run_sound remote clusters trace s runs fresh)))
