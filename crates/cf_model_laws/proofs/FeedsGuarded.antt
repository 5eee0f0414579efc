-- What a feed keeps in `replay`.
use Rattle.std.proofs.Common.{◌≤◌, ◌≡◌, ℕ, Bool, true, false, List, [], ◌∷◌, refl, sym, ◌∙◌, ap, subst, inl, arith, eq-eqb, inr}
use Rattle.std.specs.Prelude.{Option, Some, None, cond, not, filter, find, nat_lt, take, ◌&&◌, ◌||◌, ◌==◌}
use Rattle.std.specs.List.{list_any}
use Rattle.std.proofs.lemmas.Bool.{eqb-true}
use Rattle.std.proofs.lemmas.Bool.Decides.{nat_tests}
use Rattle.cf_base.specs.declared.ids.ItemId.{ItemId}
use Rattle.cf_base.specs.declared.ids.Usn.{Usn}
use Rattle.cf_base.specs.declared.messages.Entry.{Entry}
use Rattle.cf_model.specs.Arrows.{Arrow, Preserves, and_then, only_if, seq, when_ok}
use Rattle.cf_model.specs.Books.{QueueEntry, with_cursor}
use Rattle.cf_model.specs.Changes.{next_number}
use Rattle.cf_model.specs.Dehydration.{in_use as is_used}
use Rattle.cf_model.specs.Feeds.{Fed, depth_of_entry, all_released, all_turns, apply_feed, changed_entry, changed_steps, changed_unless, cursor_if, end_feed, first_turn, first_turn_by, in_turn, is_later, is_newer, is_parent, is_seen_so, is_whole, known, move_entry, parent_here, second_turn, second_turns, take_entry, take_over, take_turn, turn_by, turns, unknown, with_clock_seen, with_turn}
use Rattle.cf_model.specs.Identities.{by_target, has_target, target_of}
use Rattle.cf_model.specs.Items.{Item, item_of}
use Rattle.cf_model.specs.Missing.{Wait}
use Rattle.cf_model.specs.Numbers.{no_key, no_rid, root_rid, same_key}
use Rattle.cf_model.specs.PushReplies.{round_closed, whatever}
use Rattle.cf_model.specs.Requests.{Waiting, is_busy_beside}
use Rattle.cf_model.specs.Skips.{in_book, in_use, is_cursor, try_book, try_cursor, try_mark_now, why_no_record, with_volatile}
use Rattle.cf_model.specs.State.{Filter, Link, State, book_now, items_now}
use Rattle.cf_model.specs.Store.{Held}
use Rattle.cf_model.specs.Trees.{Asked, Ends, Fork, Keeps, Ret, Step, Tree, bind}
use Rattle.cf_model.specs.Words.{number_of, part, sorted}
use Rattle.cf_model.proofs.TreeLaws.{keeps_bind}
use Rattle.cf_model_laws.specs.Invariant.{All, IsRight, version_in, waits_on}
use Rattle.cf_model_laws.specs.Premises.{IsFair}
use Rattle.cf_model_laws.proofs.FoundItems.{found_again, found_id}
use Rattle.cf_model_laws.proofs.Gathered.{all_any, all_append, all_filter, all_found, all_sorted, each_weaker}
use Rattle.cf_model_laws.proofs.Guarded.{Guarded, IsFedTo}
use Rattle.cf_model_laws.proofs.Leading.{Leads, kept_leads, leads_bind, leads_kept, leads_weaker}
use Rattle.cf_model_laws.proofs.PushRepliesGuarded.{each_at}
use Rattle.cf_model_laws.proofs.RightItems.{no_way, no_way_back}
use Rattle.cf_model_laws.proofs.SkipsGuarded.{Skipping, Unnamed, and_then_keeps, both_frames, fewer_changes, framed, guarded_skipping, heard_skipping, keeps_first, leaves_early, only_if_at, tried_at, try_mark_now_at}
use Rattle.cf_model_laws.proofs.SoundSettles.{each_found, left_true, right_true, same_item}
use Rattle.cf_model_laws.proofs.FeedMovesGuarded.{here_ready, move_entry_at}
use Rattle.cf_model_laws.proofs.FeedFrames.{Feeding, feeding, Feeds, IsTold, fair_now, unmoved, moves_named}
use Rattle.cf_model_laws.proofs.FeedEntriesGuarded.{turn_at, gone_at, new_at, newer_file, idle_first, take_at}
use Rattle.cf_model_laws.proofs.MoveChanges.{IsMove, Alike, AlikeAt, SeatAt, alike_frame, seat_frame}
use Rattle.cf_model_laws.specs.Seats.{IsSeated}
use Rattle.cf_model_laws.specs.Invariant.{InOrder}
use Rattle.cf_model_laws.proofs.AimedTargets.{unaimed_unfound}
use Rattle.cf_base.specs.declared.ids.Round.{Round}
use Rattle.cf_base.specs.declared.messages.Request.{Request}
use Rattle.cf_base.specs.declared.messages.Reply.TheVariants as reply
use Rattle.cf_model.specs.Messages.{is_stale}
use Rattle.cf_model_laws.proofs.TombstonesGuarded.{IsShut, shut_frame}
use Rattle.cf_model_laws.specs.Taken.{Heard, IsNamedBy, IsPosted, LosesTold, Since, ToldAt}

-- an item that is not in use is not waited for
pub not_waited : (item : ItemId) (ws : List Wait) → All (λ v. same_key v.id.0 no_key ≡ false) ws → list_any (λ v. (v.item.0 == item.0) && not (same_key v.id.0 no_key)) ws ≡ false → waits_on item ws ≡ false
not_waited item [] k h = h
not_waited item (v ∷ ws) k h = by (v.item.0 == item.0) (same_key v.id.0 no_key) k.0 h (not_waited item ws k.1) where
  by : (a b : Bool) → b ≡ false → ((a && not b) || list_any (λ v. (v.item.0 == item.0) && not (same_key v.id.0 no_key)) ws) ≡ false
      → (list_any (λ v. (v.item.0 == item.0) && not (same_key v.id.0 no_key)) ws ≡ false → waits_on item ws ≡ false) → (a || waits_on item ws) ≡ false
  by true true q e g = no_way_back q
  by true false q e g = no_way_back e
  by false b q e g = g e

pub or_right_false : (a b : Bool) → (a || b) ≡ false → b ≡ false
or_right_false true b e = no_way_back e
or_right_false false b e = e

pub and_false_right : (a b : Bool) → (a && b) ≡ false → a ≡ true → b ≡ false
and_false_right true b e q = e
and_false_right false b e q = no_way q

-- a file of the remote is a placeholder
targeted_placed : (r : Held) (n : Usn) (i : Item) (e : Entry) → IsRight r n i → has_target i e.rid ≡ true → i.directory ≡ false → i.placeholder ≡ true
targeted_placed r n i e right target file = by i.placeholder refl where
  positive : nat_lt 0 e.rid.0 ≡ true
  positive = left_true (nat_lt 0 e.rid.0) ((target_of i).0 == e.rid.0) target

  same_rid : (target_of i).0 ≡ e.rid.0
  same_rid = eqb-true (target_of i).0 e.rid.0 (right_true (nat_lt 0 e.rid.0) ((target_of i).0 == e.rid.0) target)

  no_root : (i.id.0 == 1) ≡ false
  no_root = one (i.id.0 == 1) refl where
    one : (b : Bool) → (i.id.0 == 1) ≡ b → b ≡ false
    one true q = no_way (sym file ∙ right.top (eqb-true i.id.0 1 q))
    one false q = refl

  zero : (t k : ℕ) → t ≡ k → t ≡ 0 → nat_lt 0 k ≡ true → ⊥
  zero t k a b c = grind (arith, nat_tests, a, b, c)

  by : (b : Bool) → i.placeholder ≡ b → b ≡ true
  by true q = refl
  by false q = absurd (zero (target_of i).0 e.rid.0 same_rid (ap (λ (c : Bool). (cond c root_rid (record { 0 = number_of (take 8 i.identity) })).0) no_root ∙ (right.plain file q).1) positive)

pub first_led : {S A : Type 0} (P F : S → Type 0) (p : Tree S A) → Keeps (λ s. P s × F s) p → Leads P (λ a s. P s × F s) p
first_led P F (Ret a s) h = h
first_led P F (Step s p) h = (h.0.0, first_led P F p h.1)
first_led P F (Fork p q) h = (first_led P F p h.0, first_led P F q h.1)
first_led P F (Asked g) h = λ x. first_led P F (g x) (h x)

pub newer_alike : (i k : Item) (e : Entry) → Alike i k → is_newer k e ≡ true → is_newer i e ≡ true
newer_alike i k e a q = subst (λ (n : ℕ). (not i.directory && nat_lt n e.version.0) ≡ true) a.0 (subst (λ (d : Bool). (not d && nat_lt (version_in k.identity).0 e.version.0) ≡ true) a.1 q)

-- where the item is found again it is alike, and so may be taken over
again_at : {On : Entry → Type 0} (l : Link) (w : Filter) (es : List QueueEntry) (P : State → Type 0) → Feeds On l w es P → (e : Entry) (i : Item) (s t : State) → IsTold On l e → (is_newer i e && in_use s i.id) ≡ false → has_target i e.rid ≡ true → (IsFair s.link → item_of (items_now s) i.id ≡ Some i)
    → P s → P t → AlikeAt i i.id t → Keeps P (take_entry e i.id t)
again_at l w es P feeds e i s t told idle target there h j alike = by (item_of (items_now t) i.id) refl where
  fair_of : (u : State) → P u → IsFair l → IsFair u.link
  fair_of u k fair = subst IsFair (sym (feeds.fed u k).link) fair

  idle_then : (k : Item) → item_of (items_now t) i.id ≡ Some k → is_newer k e ≡ true → IsFair t.link → in_use s i.id ≡ false
  idle_then k f q fair = and_false_right (is_newer i e) (in_use s i.id) idle (newer_alike i k e (each_at i.id (Alike i) (items_now t) k f (alike fair)) q)

  free : (k : Item) → item_of (items_now t) i.id ≡ Some k → is_newer k e ≡ true → IsFair l → waits_on k.id w.waiting.waits ≡ false
  free k f q fair =
      let still : in_use s i.id ≡ false = idle_then k f q (fair_of t j fair) in
      let busy : is_busy_beside i.id (record { 0 = no_key }) s.filter.waiting ≡ false = or_right_false (list_any (λ o. o.item.0 == i.id.0) s.filter.handles) (is_busy_beside i.id (record { 0 = no_key }) s.filter.waiting) still in
      subst (λ (x : ItemId). waits_on x w.waiting.waits ≡ false) (sym (same_item k.id i.id (found_id i.id (items_now t) k f)))
      (subst (λ (v : Waiting). waits_on i.id v.waits ≡ false) (feeds.fed s h).waiting (not_waited i.id s.filter.waiting.waits (feeds.steps.sound s h (fair_of s h fair)).numbered busy))

  idle_at : (k : Item) → item_of (items_now t) i.id ≡ Some k → is_newer k e ≡ true → IsFair l → is_used k.id w ≡ false
  idle_at k f q fair =
      subst (λ (x : ItemId). is_used x w ≡ false) (sym (same_item k.id i.id (found_id i.id (items_now t) k f))) (idle_first l w es i.id s (feeds.fed s h) (idle_then k f q (fair_of t j fair)))

  placed : (k : Item) → item_of (items_now t) i.id ≡ Some k → IsFair t.link → is_newer k e ≡ true → k.placeholder ≡ true
  placed k f fair q =
      let a : Alike i k = each_at i.id (Alike i) (items_now t) k f (alike fair) in
      let fair_s : IsFair s.link = fair_of s h (fair_now l w es t (feeds.fed t j) fair) in
      let right : IsRight s.link.remote (next_number s.filter.volume) i = (all_found (IsRight s.link.remote (next_number s.filter.volume)) (λ x. x.id.0 == i.id.0) (items_now s) i (there fair_s) (feeds.steps.sound s h fair_s).now.right).0 in
      a.2 ∙ targeted_placed s.link.remote (next_number s.filter.volume) i e right target (newer_file e i (newer_alike i k e a q))

  by : (o : Option Item) → item_of (items_now t) i.id ≡ o → Keeps P (take_over e o t)
  by None f = j
  by (Some k) f =
      take_at l w es P feeds e k t told (free k f) (idle_at k f) (placed k f)
      (λ fair. (each_at i.id (Alike i) (items_now t) k f (alike fair)).3 ∙ eqb-true (target_of i).0 e.rid.0 (right_true (nat_lt 0 e.rid.0) ((target_of i).0 == e.rid.0) target)) (λ fair. subst (λ (x : ItemId). item_of (items_now t) x ≡ Some k) (sym (same_item k.id i.id (found_id i.id (items_now t) k f))) f) j

parent_target_of : (e : Entry) (p : Item) (items : List Item) → find (is_parent e) items ≡ Some p → has_target p e.parent ≡ true
parent_target_of e p items up =
    left_true (has_target p e.parent) p.directory (left_true (has_target p e.parent && p.directory) p.populated (all_found (λ x. Unit {0}) (is_parent e) items p up (all_any (λ x. Unit {0}) (λ x. tt) items)).1)

-- the item of an entry is not the root, nor its parent
target_low : (e : Entry) (i : Item) → (e.rid.0 ≡ 1 → ⊥) → has_target i e.rid ≡ true → i.id.0 ≡ 1 → ⊥
target_low e i low target top = low (sym (eqb-true (target_of i).0 e.rid.0 (right_true (nat_lt 0 e.rid.0) ((target_of i).0 == e.rid.0) target)) ∙ ap (λ (b : Bool). (cond b root_rid (record { 0 = number_of (take 8 i.identity) })).0) (eq-eqb i.id.0 1 top))

apart_from : (e : Entry) (i p : Item) (items : List Item) → (e.rid.0 ≡ e.parent.0 → ⊥) → has_target i e.rid ≡ true → has_target p e.parent ≡ true → item_of items i.id ≡ Some i → item_of items p.id ≡ Some p → p.id.0 ≡ i.id.0 → ⊥
apart_from e i p items apart a b own up z =
    apart (sym (eqb-true (target_of i).0 e.rid.0 (right_true (nat_lt 0 e.rid.0) ((target_of i).0 == e.rid.0) a)) ∙ ap (λ (x : Item). (target_of x).0) (same (sym own ∙ ap (λ (x : ItemId). item_of items x) (sym (same_item p.id i.id z)) ∙ up))
    ∙ eqb-true (target_of p).0 e.parent.0 (right_true (nat_lt 0 e.parent.0) ((target_of p).0 == e.parent.0) b)) where
      same : ◌≡◌ {A = Option Item} (Some i) (Some p) → i ≡ p
      same e = cc

parent_seated : (e : Entry) (p : Item) (items : List Item) (next : ℕ) → InOrder 0 next items → find (is_parent e) items ≡ Some p → IsSeated items p.id true
parent_seated e p items next order up =
    inl (p, found_again (is_parent e) 0 next items p order up, right_true (has_target p e.parent) p.directory (left_true (has_target p e.parent && p.directory) p.populated (all_found (λ x. Unit {0}) (is_parent e) items p up (all_any (λ x. Unit {0}) (λ x. tt) items)).1))

changed_at : {On : Entry → Type 0} (l : Link) (w : Filter) (es : List QueueEntry) (P : State → Type 0) → Feeds On l w es P → (e : Entry) (i p : Item) (s : State) → IsTold On l e → (is_newer i e && in_use s i.id) ≡ false → has_target i e.rid ≡ true → (IsFair s.link → item_of (items_now s) i.id ≡ Some i) → parent_here s e ≡ Some p → P s
    → Keeps P (changed_steps e i p s)
changed_at l w es P feeds e i p s told idle target there up h =
    kept_leads P (changed_steps e i p s)
    (leads_bind P (λ a t. P t × AlikeAt i i.id t) (λ b t. P t) (only_if (not (is_seen_so s i e)) (move_entry e i p) s) (when_ok false (and_then (take_entry e i.id) (try_mark_now i.id)))
    (first_led P (AlikeAt i i.id) (only_if (not (is_seen_so s i e)) (move_entry e i p) s)
    (only_if_at (λ t. P t × AlikeAt i i.id t) (not (is_seen_so s i e)) (move_entry e i p) s first
    (λ _. keeps_first (λ t. P t × AlikeAt i i.id t) (SeatAt p.id) (move_entry e i p s)
    (move_entry_at IsMove (λ t. (P t × AlikeAt i i.id t) × SeatAt p.id t) (framed IsMove (λ t. P t × AlikeAt i i.id t) (SeatAt p.id) (framed IsMove P (AlikeAt i i.id) (fewer_changes P (IsNamedBy _ _) IsMove (moves_named _) feeds.steps) (alike_frame i i.id)) (seat_frame p.id)) (λ a b c. tt) e i p s
    (target_low e i told.low target) (λ t k fair. apart_now (subst IsFair (sym (feeds.fed s h).link) (fair_now l w es t (feeds.fed t k.0.0) fair))) (λ t k. k.1) (λ t k fair. (e, told.on, each_weaker i.id (Alike i) (λ j. (j.id.0 ≡ 1 → ⊥) → (target_of j).0 ≡ e.rid.0) (λ j a _. a.3 ∙ eqb-true (target_of i).0 e.rid.0 (right_true (nat_lt 0 e.rid.0) ((target_of i).0 == e.rid.0) target)) (items_now t) (k.0.1 fair), refl, refl))
    (here_ready e i p s (λ fair. found_again (is_parent e) 0 s.filter.volume.next_item.0 (items_now s) p (feeds.steps.sound s h fair).now.order up) (parent_target_of e p (items_now s) up)) (first, λ fair. parent_seated e p (items_now s) s.filter.volume.next_item.0 (feeds.steps.sound s h fair).now.order up)))))
    (λ done t j. leads_kept P (when_ok false (and_then (take_entry e i.id) (try_mark_now i.id)) done t) (rest done t j.0 j.1))) where
      apart_now : IsFair s.link → p.id.0 ≡ i.id.0 → ⊥
      apart_now fair =
          apart_from e i p (items_now s) told.apart target (parent_target_of e p (items_now s) up) (there fair) (found_again (is_parent e) 0 s.filter.volume.next_item.0 (items_now s) p (feeds.steps.sound s h fair).now.order up)

      first : P s × AlikeAt i i.id s
      first = (h, λ fair. each_found i.id (Alike i) 0 s.filter.volume.next_item.0 (items_now s) i (feeds.steps.sound s h fair).now.order (there fair) (refl, refl, refl, refl))

      rest : (done : Bool) (t : State) → P t → AlikeAt i i.id t → Keeps P (when_ok false (and_then (take_entry e i.id) (try_mark_now i.id)) done t)
      rest true t j a = and_then_keeps P (take_entry e i.id) (try_mark_now i.id) t (again_at l w es P feeds e i s t told idle target there h j a) (λ u k. try_mark_now_at (IsNamedBy _ _) P feeds.steps i.id u (λ n. tt) (unmoved l w es P feeds i.id u k) k)
      rest false t j a = j

changed_turn : {On : Entry → Type 0} (l : Link) (w : Filter) (es : List QueueEntry) (P : State → Type 0) → Feeds On l w es P → (e : Entry) (i p : Item) (s : State) → IsTold On l e → has_target i e.rid ≡ true → (IsFair s.link → item_of (items_now s) i.id ≡ Some i) → parent_here s e ≡ Some p → P s → Keeps P (changed_entry e i p s)
changed_turn l w es P feeds e i p s told target there up h = by (is_newer i e && in_use s i.id) refl where
  by : (b : Bool) → (is_newer i e && in_use s i.id) ≡ b → Keeps P (changed_unless e i p b s)
  by true q = h
  by false q = turn_at P (changed_steps e i p) s (changed_at l w es P feeds e i p s told q target there up h)

-- all entries

pub take_turn_keeps : {On : Entry → Type 0} (l : Link) (w : Filter) (es : List QueueEntry) (P : State → Type 0) → Feeds On l w es P → (e : Entry) → IsTold On l e → Preserves P (take_turn e)
take_turn_keeps {On} l w es P feeds e told = record { keeps = λ s h. by s h (by_target (items_now s) e.rid) (parent_here s e) refl refl } where
  fresh : (s : State) → P s → by_target (items_now s) e.rid ≡ None → (b : Bool) (p : Option Item) → parent_here s e ≡ p → Keeps P (unknown b e p s)
  fresh s h f true (Some p) up =
      let target : has_target p e.parent ≡ true = parent_target_of e p (items_now s) up in
      new_at l w es P feeds e p s told (left_true (nat_lt 0 e.parent.0) ((target_of p).0 == e.parent.0) target)
      (λ fair. ap (λ (o : Option Item). (part target_of no_rid o).0) (found_again (is_parent e) 0 s.filter.volume.next_item.0 (items_now s) p (feeds.steps.sound s h fair).now.order up)
      ∙ eqb-true (target_of p).0 e.parent.0 (right_true (nat_lt 0 e.parent.0) ((target_of p).0 == e.parent.0) target)) (λ fair. unaimed_unfound (items_now s) e.rid f)
      (λ fair. parent_seated e p (items_now s) s.filter.volume.next_item.0 (feeds.steps.sound s h fair).now.order up) h
  fresh s h f true None up = h
  fresh s h f false p up = h

  lost : (s : State) (i : Item) → by_target (items_now s) e.rid ≡ Some i → LosesTold On i
  lost s i f = inr (e, told.on, eqb-true (target_of i).0 e.rid.0 (right_true (nat_lt 0 e.rid.0) ((target_of i).0 == e.rid.0) (all_found (λ x. Unit {0}) (λ x. has_target x e.rid) (items_now s) i f (all_any (λ x. Unit {0}) (λ x. tt) (items_now s))).1))

  old : (s : State) → P s → (i : Item) → by_target (items_now s) e.rid ≡ Some i → (b : Bool) (p : Option Item) → parent_here s e ≡ p → Keeps P (known b e i p s)
  old s h i f true (Some p) up = changed_turn l w es P feeds e i p s told (all_found (λ x. Unit {0}) (λ x. has_target x e.rid) (items_now s) i f (all_any (λ x. Unit {0}) (λ x. tt) (items_now s))).1 (λ fair. found_again (λ x. has_target x e.rid) 0 s.filter.volume.next_item.0 (items_now s) i (feeds.steps.sound s h fair).now.order f) up h
  old s h i f true None up = gone_at l w es P feeds i s (target_low e i told.low (all_found (λ x. Unit {0}) (λ x. has_target x e.rid) (items_now s) i f (all_any (λ x. Unit {0}) (λ x. tt) (items_now s))).1) (lost s i f) h (λ fair. found_again (λ x. has_target x e.rid) 0 s.filter.volume.next_item.0 (items_now s) i (feeds.steps.sound s h fair).now.order f)
  old s h i f false p up = gone_at l w es P feeds i s (target_low e i told.low (all_found (λ x. Unit {0}) (λ x. has_target x e.rid) (items_now s) i f (all_any (λ x. Unit {0}) (λ x. tt) (items_now s))).1) (lost s i f) h (λ fair. found_again (λ x. has_target x e.rid) 0 s.filter.volume.next_item.0 (items_now s) i (feeds.steps.sound s h fair).now.order f)

  by : (s : State) → P s → (o p : Option Item) → by_target (items_now s) e.rid ≡ o → parent_here s e ≡ p → Keeps P (turn_by e o p s)
  by s h None p f up = fresh s h f e.live p up
  by s h (Some i) p f up = old s h i f e.live p up

-- the turns, and the entries that come again

abbrev Turned : (Entry → Type 0) → Link → (State → Type 0) → Fed → State → Type 0
Turned On l P f s = P s × All (IsTold On l) f.later

take_turn_led : {On : Entry → Type 0} (l : Link) (w : Filter) (es : List QueueEntry) (P : State → Type 0) → Feeds On l w es P → (e : Entry) (f : Fed) (s : State) → IsTold On l e → All (IsTold On l) f.later → P s → Leads P (Turned On l P) (seq (take_turn e) (with_turn f) s)
take_turn_led {On} l w es P feeds e f s told all h =
    leads_bind P (λ b t. P t) (Turned On l P) (take_turn e s) (with_turn f) (leads_kept P (take_turn e s) ((take_turn_keeps l w es P feeds e told).keeps s h)) (λ b t j. (j, all))

first_turn_led : {On : Entry → Type 0} (l : Link) (w : Filter) (es : List QueueEntry) (P : State → Type 0) → Feeds On l w es P → (e : Entry) (f : Fed) (s : State) → IsTold On l e → All (IsTold On l) f.later → P s → Leads P (Turned On l P) (first_turn e f s)
first_turn_led {On} l w es P feeds e f s told all h = by (is_later s e) where
  by : (b : Bool) → Leads P (Turned On l P) (first_turn_by b e f s)
  by true = (h, all_append (IsTold On l) f.later (e ∷ []) all (told, tt))
  by false = take_turn_led l w es P feeds e f s told all h

turns_led : {On : Entry → Type 0} (l : Link) (P : State → Type 0) (f : Entry → Fed → Arrow State Fed) → ((e : Entry) (g : Fed) (s : State) → IsTold On l e → All (IsTold On l) g.later → P s → Leads P (Turned On l P) (f e g s)) → (list : List Entry) (g : Fed) (s : State) → All (IsTold On l) list → All (IsTold On l) g.later → P s
    → Leads P (Turned On l P) (turns f list g s)
turns_led {On} l P f k [] g s told all h = (h, all)
turns_led {On} l P f k (e ∷ list) g s told all h = leads_bind P (Turned On l P) (Turned On l P) (f e g s) (turns f list) (k e g s told.0 all h) (λ g2 t j. turns_led l P f k list g2 t told.1 j.1 j.0)

all_turns_keep : {On : Entry → Type 0} (l : Link) (w : Filter) (es : List QueueEntry) (P : State → Type 0) → Feeds On l w es P → (list : List Entry) → All (IsTold On l) list → Preserves P (all_turns list)
all_turns_keep {On} l w es P feeds list told = record {
  keeps = λ s h.
      kept_leads P (all_turns list s)
      (leads_bind P (Turned On l P) (λ f t. P t) (turns first_turn (in_turn (items_now s) list) (record { postponed = false; later = [] }) s) second_turns
      (turns_led l P first_turn (first_turn_led l w es P feeds) (in_turn (items_now s) list) (record { postponed = false; later = [] }) s (in_turn_told s) tt h)
      (λ f t j. leads_weaker P (Turned On l P) (λ g u. P u) (turns second_turn f.later f t) (λ g u k. k.0) (turns_led l P second_turn (take_turn_led l w es P feeds) f.later f t j.1 j.1 j.0)));
}
  where
    in_turn_told : (s : State) → All (IsTold On l) (in_turn (items_now s) list)
    in_turn_told s =
        all_append (IsTold On l) (sorted (λ d e. nat_lt (depth_of_entry (items_now s) e) (depth_of_entry (items_now s) d)) (filter (λ e. not e.live) list)) (filter (λ e. e.live) list)
        (all_sorted (IsTold On l) (λ d e. nat_lt (depth_of_entry (items_now s) e) (depth_of_entry (items_now s) d)) (filter (λ e. not e.live) list) (all_filter (IsTold On l) (λ e. not e.live) list told)) (all_filter (IsTold On l) (λ e. e.live) list told)

-- the feed that counted is done
cursor_if_at : (P : State → Type 0) → Guarded P → (clock : ℕ) (b : Bool) (s : State) → (IsFair s.link → clock ≤ s.link.remote.clock) → (b ≡ true → IsFair s.link → IsFedTo P clock s) → P s → Keeps P (cursor_if clock b s)
cursor_if_at P closed clock false s early fed h = h
cursor_if_at P closed clock true s early fed h =
    keeps_bind P (try_cursor clock s) whatever
    (only_if_at P (not (is_cursor clock s)) (try_book (with_cursor clock)) s h
    (λ _. tried_at Unnamed P (guarded_skipping P closed) (why_no_record (with_cursor clock)) (in_book (with_cursor clock)) s h
    (h, closed.books (with_cursor clock) s (λ b. refl) (λ fair. leaves_early (with_cursor clock) s (λ b. refl) (inr (early fair))) (λ fair. inr (inr (inr (clock, (λ b. refl), fed refl fair)))) h))) (λ b t j. j)

end_feed_at : (P : State → Type 0) → Guarded P → (clock skips : ℕ) (f : Fed) (s : State) → (IsFair s.link → clock ≤ s.link.remote.clock)
    → (is_whole skips f (with_clock_seen clock (with_volatile all_released s)) ≡ true → IsFair s.link → IsFedTo P clock (with_clock_seen clock (with_volatile all_released s))) → P s → Keeps P (end_feed clock skips f s)
end_feed_at P closed clock skips f s early fed h =
    let t : State = with_clock_seen clock (with_volatile all_released s) in
    cursor_if_at P closed clock (is_whole skips f t) t early fed (closed.keeps_with_clock_seen clock (with_volatile all_released s) (closed.keeps_volatile_all_released s h))

-- what is kept of the first part, which ends so, is more
keeps_ends : {S A B : Type 0} (P Q : S → Type 0) → ((s : S) → Q s → P s) → (p : Tree S A) (g : A → S → Tree S B) → Keeps Q p → ((a : A) (s : S) → Q s → Ends p a s → Keeps P (g a s)) → Keeps P (bind p g)
keeps_ends P Q less (Ret a s) g h k = k a s h (refl, refl)
keeps_ends P Q less (Step s p) g h k = (less s h.0, keeps_ends P Q less p g h.1 k)
keeps_ends P Q less (Fork p q) g h k = (keeps_ends P Q less p g h.0 (λ a s j e. k a s j (inl e)), keeps_ends P Q less q g h.1 (λ a s j e. k a s j (inr e)))
keeps_ends P Q less (Asked f) g h k = λ x. keeps_ends P Q less (f x) g (h x) (λ a s j e. k a s j (x, e))

-- A feed that counts, while no upload is on its way. Its round is closed first.
pub apply_feed_at : (P : State → Type 0) → Guarded P → (m : ℕ) (q : Request) (round : Round) (clock : ℕ) (list : List Entry) (s : State) → is_stale q (reply.Feed round clock list) s ≡ false → (IsFair s.link → ToldAt s m q (reply.Feed round clock list))
    → IsPosted s m (reply.Feed round clock list) → (IsFair s.link → (book_now s).entries ≡ []) → (IsFair s.link → clock ≤ s.link.remote.clock) → All (IsTold (Heard true s) s.link) list → P s → Keeps P (apply_feed clock list s)
apply_feed_at P closed m q round clock list s counts heard posted none early told h =
    keeps_ends P Fed_ (λ t k. k.0) (all_turns list first) (end_feed clock first.running.skips)
    ((all_turns_keep s.link s.filter (book_now s).entries Fed_ (record { steps = steps; fed = λ t k. k.1.0; none = none }) list told).keeps first (closed.keeps_volatile_round_closed s h, (record { link = refl; waiting = refl; handles = refl; entries = refl; cursor = refl }, refl)))
    (λ f t j e. end_feed_at P closed clock first.running.skips f t (subst (λ (l : Link). IsFair l → clock ≤ l.remote.clock) (sym j.1.0.link) early) (done f t j e) j.0) where
      first : State
      first = with_volatile round_closed s

      Fed_ : State → Type 0
      Fed_ t = P t × (Feeding s.link s.filter (book_now s).entries t × IsShut t)

      known : (t : State) → P t → Feeding s.link s.filter (book_now s).entries t × IsShut t → (e : Entry) → Heard true s e → Since P t.link true (book_now t).cursor e
      known t j k e on = (s, h, on, k.0.link, k.0.cursor)

      steps : Skipping (Heard true s) (IsNamedBy (Heard true s) (Heard true s)) Fed_
      steps = heard_skipping P (λ t. Feeding s.link s.filter (book_now s).entries t × IsShut t) (Heard true s) closed (both_frames (Feeding s.link s.filter (book_now s).entries) IsShut (feeding s.link s.filter (book_now s).entries) shut_frame) known (λ t k. k.1)

      done : (f : Fed) (t : State) → Fed_ t → Ends (all_turns list first) f t → is_whole first.running.skips f (with_clock_seen clock (with_volatile all_released t)) ≡ true → IsFair t.link → IsFedTo P clock (with_clock_seen clock (with_volatile all_released t))
      done f t j e whole fair = record {
        first = s;
        kept = h;
        message = m;
        request = q;
        round = round;
        entries = list;
        counts = counts;
        told = heard;
        posted = posted;
        link = j.1.0.link;
        cursor = j.1.0.cursor;
        none = j.1.0.entries ∙ none (subst IsFair j.1.0.link fair);
        closed = j.1.1;
        turned = t;
        fed = f;
        ends = e;
        same = refl;
        whole = whole;
      }
