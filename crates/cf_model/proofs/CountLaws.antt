-- Counts of numbers that are given once never fall, whatever a run does.
use Rattle.std.proofs.Common.{◌≡◌, ℕ, ◌+◌, ◌<◌, ◌≤◌, ◌⊎◌, cond, Bool, true, false, List, [], ◌∷◌, ◌++◌, refl, sym, ◌∙◌, subst, inl, inr, arith, length, nat_lt, if◌then◌else◌}
use Rattle.std.specs.Prelude.{Some, None}
use Rattle.cf_base.specs.declared.answers.Answer.{Answer}
use Rattle.cf_base.specs.declared.changes.Change.{Change}
use Rattle.cf_base.specs.declared.events.Event.{Event}
use Rattle.cf_base.specs.declared.ids.ItemId.{ItemId}
use Rattle.cf_base.specs.declared.ids.WaitId.{WaitId}
use Rattle.cf_base.specs.declared.policies.Mode.{Mode}
use Rattle.cf_base.specs.declared.answers.Shown.TheVariants as shown
use Rattle.cf_base.specs.declared.codes.Code.{Code}
use Rattle.cf_base.specs.declared.codes.Code.TheVariants as code
use Rattle.cf_base.specs.declared.waits.Cause.{Cause}
use Rattle.cf_base.specs.declared.waits.Cause.TheVariants as cause
use Rattle.cf_base.specs.declared.waits.End.{End}
use Rattle.cf_model.specs.Arrows.{Preserves, choose, each, noted, reading, ret, then_do}
use Rattle.cf_model.specs.Books.{Book}
use Rattle.cf_model.specs.Changes.{apply, change_with, may_need_room, put_after_room, put_now, put_with_book, tell_change}
use Rattle.cf_model.specs.Given.{NotFewer, Rises}
use Rattle.cf_model.specs.Lawful.{Runs}
use Rattle.cf_model.specs.Missing.{Wait}
use Rattle.cf_model.specs.Points.{commit_for_room}
use Rattle.cf_model.specs.Requests.{Deed, Told, Waiting}
use Rattle.cf_model.specs.Restarts.{epoch_after, resumed, with_opened}
use Rattle.cf_model.specs.Settling.{accessed, end_of, end_wait, is_access, is_own, settle, tell, tell_end, told_at, with_asks_told, with_ended, with_waiting}
use Rattle.cf_model.specs.State.{Filter, Point, State, Volatile, Volume, in_volume, with_filter, with_volume}
use Rattle.cf_model.specs.Trees.{Keeps, Ret}
use Rattle.cf_model.specs.Waits.{Need, accessed_now, all_down, begin_now, begun, own_id, with_own}
use Rattle.cf_model.proofs.ArrowLaws.{keeps_each, keeps_either, keeps_lifted, keeps_one, keeps_reading, keeps_seq, keeps_then}
use Rattle.cf_model.proofs.Closed.{Closed, ClosedFilter, ClosedToPeers}
use Rattle.cf_model.proofs.TreeLaws.{keeps_bind}
use Rattle.cf_model.specs.Books.{QueueEntry}
use Rattle.cf_model.specs.Calls.{with_handle}
use Rattle.cf_model.specs.Feeds.{all_released}
use Rattle.cf_model.specs.Messages.{with_lost, with_message}
use Rattle.cf_model.specs.Passes.{with_round}
use Rattle.cf_model.specs.Peers.{with_token_used}
use Rattle.cf_model.specs.PushReplies.{held_and_closed, held_back, is_removal, not_in_row, round_closed, taken_from_row, with_not_empty, with_taken_name, without_item, without_number}
use Rattle.cf_model.specs.Pushes.{with_token}
use Rattle.cf_model.specs.Numbers.{most}
use Rattle.cf_model.specs.Skips.{skip_line, with_volatile}
use Rattle.cf_model.proofs.MessagesKeep.{asked_keeps}
use Rattle.cf_model.proofs.MachineLaws.{runs_keep}

-- the state with another filter has given no fewer numbers
abbrev After : State → State → Filter → Type 0
After s0 s x = Rises s0 (with_filter x s)

same : (a : ℕ) → a ≤ a
same a = omega arith

more : (a n : ℕ) → a ≤ a + n
more a n = omega arith

le_trans : (a b c : ℕ) → a ≤ b → b ≤ c → a ≤ c
le_trans a b c h k = omega (arith, h, k)

longer : {A : Type 0} (xs : List A) (x : A) → length xs ≤ length (xs ++ x ∷ [])
longer [] x = omega arith
longer (y ∷ ys) x = let h : length ys ≤ length (ys ++ x ∷ []) = longer ys x in omega (arith, h)

still_fewer : (a b c : ℕ) → a < b → c ≡ b → a < c
still_fewer a b c h e = subst (λ (x : ℕ). a < x) (sym e) h

-- one more step by which no count falls
rises : (s0 s t : State) → Rises s0 s → NotFewer s t → length s.link.messages ≤ length t.link.messages → s.peer_tokens ≤ t.peer_tokens → Rises s0 t
rises s0 s t h k m p = (by h.0, le_trans _ _ _ h.1 m, le_trans _ _ _ h.2 p) where
  by : ((s0.filter.volume.epoch < s.filter.volume.epoch) ⊎ NotFewer s0 s) → (s0.filter.volume.epoch < t.filter.volume.epoch) ⊎ NotFewer s0 t
  by (inl e) = inl (still_fewer s0.filter.volume.epoch s.filter.volume.epoch t.filter.volume.epoch e k.0)
  by (inr n) = inr (k.0 ∙ n.0, le_trans _ _ _ n.1 k.1, le_trans _ _ _ n.2 k.2, le_trans _ _ _ n.3 k.3, le_trans _ _ _ n.4 k.4, le_trans _ _ _ n.5 k.5, le_trans _ _ _ n.6 k.6)

-- the filter

abbrev InVolume : State → State → Filter → Volume → Type 0
InVolume s0 s x v = After s0 s (with_volume v x)

put_rises : (s0 s : State) (x : Filter) (f : Book → Book) (c : Change) (v : Volume) → InVolume s0 s x v → InVolume s0 s x (put_with_book f c v)
put_rises s0 s x f c v h =
    rises s0 (with_filter (with_volume v x) s) (with_filter (with_volume (put_with_book f c v) x) s) h (refl, more _ 1, same _, same _, same _, same _, same _) (same _) (same _)

put_keeps : (s0 s : State) (x : Filter) (f : Book → Book) (c : Change) → Preserves (InVolume s0 s x) (put_now f c)
put_keeps s0 s x f c = record { keeps = λ v h. (h, put_rises s0 s x f c v h) }

after_room_keeps : (s0 s : State) (x : Filter) (f : Book → Book) (c : Change) (room : Bool) → Preserves (InVolume s0 s x) (put_after_room f c room)
after_room_keeps s0 s x f c false = put_keeps s0 s x f c
after_room_keeps s0 s x f c true =
    keeps_either (InVolume s0 s x) (put_now f c) (then_do commit_for_room (put_now f c)) (put_keeps s0 s x f c)
    (keeps_then (InVolume s0 s x) commit_for_room (put_now f c) (record { keeps = λ v h. (h, h) }) (put_keeps s0 s x f c))

change_keeps : (s0 s : State) (f : Book → Book) (c : Change) → Preserves (After s0 s) (change_with f c)
change_keeps s0 s f c =
    keeps_seq (After s0 s) (in_volume (apply f c)) (tell_change c)
    (keeps_lifted (After s0 s) (λ x. x.volume) with_volume (apply f c) (λ x h. h)
    (λ x h. keeps_reading (InVolume s0 s x) (may_need_room c) (put_after_room f c) (after_room_keeps s0 s x f c)))
    (λ n. record { keeps = λ x h. h })

-- the waits and asks after a step have no fewer numbers
abbrev Counts : Waiting → Waiting → Type 0
Counts w v = (w.key_count ≤ v.key_count) × (w.wait_count ≤ v.wait_count)

tell_end_keeps : (s0 s : State) (id : WaitId) (e : End) (own : Bool) (x : Filter) → After s0 s x → After s0 s (tell_end id e own x)
tell_end_keeps s0 s id e true x h = h
tell_end_keeps s0 s id e false x h = h

access_keeps : (s0 s : State) (item : ItemId) (is : Bool) (x : Filter) → After s0 s x → After s0 s (if is then accessed item x else x)
access_keeps s0 s item true x h = h
access_keeps s0 s item false x h = h

ended_keeps : (s0 s : State) (e : Wait × Cause) (x : Filter) → After s0 s x → After s0 s (with_ended e x)
ended_keeps s0 s e x h =
    access_keeps s0 s e.0.item (is_access e.0.kind e.1) (tell_end e.0.id (end_of x.volume.items e.0 e.1) (is_own e.0.id x) x)
    (tell_end_keeps s0 s e.0.id (end_of x.volume.items e.0 e.1) (is_own e.0.id x) x h)

tell_rest_keeps : (s0 s : State) (t : Told) → Preserves (After s0 s) (then_do (each end_wait t.ended) (noted (with_asks_told t)))
tell_rest_keeps s0 s t =
    keeps_then (After s0 s) (each end_wait t.ended) (noted (with_asks_told t))
    (keeps_each (After s0 s) end_wait t.ended (λ e. keeps_one (After s0 s) (with_ended e) (ended_keeps s0 s e))) (record { keeps = λ x h. h })

waiting_rises : (s0 s : State) (x : Filter) (w : Waiting) → Counts x.waiting w → After s0 s x → After s0 s (with_waiting w x)
waiting_rises s0 s x w k h = rises s0 (with_filter x s) (with_filter (with_waiting w x) s) h (refl, same _, k.0, k.1, same _, same _, same _) (same _) (same _)

told_keeps : (s0 s : State) (x : Filter) (r : Told × Waiting) → Counts x.waiting r.1 → After s0 s x → Keeps (After s0 s) (tell r x)
told_keeps s0 s x r k h = (tell_rest_keeps s0 s r.0).keeps (with_waiting r.1 x) (waiting_rises s0 s x r.1 k h)

settle_keeps : (s0 s : State) (item : ItemId) (d : Deed) → Preserves (After s0 s) (settle item d)
settle_keeps s0 s item d = record { keeps = λ x h. told_keeps s0 s x (told_at item d x) (more _ _, same _) h }

begins_keeps : (s0 s : State) (n : Need) → Preserves (After s0 s) (reading (begun n) (begin_now n))
begins_keeps s0 s n = record {
  keeps = λ x h.
      keeps_bind (After s0 s) (tell (begun n x) (with_own n x)) (λ _ t. Ret (shown.Pending (own_id n x)) t)
      (told_keeps s0 s (with_own n x) (begun n x) (more _ _, more _ _) h) (λ a t j. j);
}

downs_keeps : (s0 s : State) → Preserves (After s0 s) (reading all_down tell)
downs_keeps s0 s = record { keeps = λ x h. told_keeps s0 s x (all_down x) (same _, same _) h }

access_now_keeps : (s0 s : State) (n : Need) (x : Filter) → After s0 s x → After s0 s (accessed_now n x)
access_now_keeps s0 s n x h = access_keeps s0 s n.item (is_access n.kind cause.Met) x h

filter_closed : (s0 s : State) → ClosedFilter (After s0 s)
filter_closed s0 s = record {
  change = change_keeps s0 s;
  commits = record { keeps = λ x h. (h, h) };
  settled = settle_keeps s0 s;
  begins = begins_keeps s0 s;
  downs = downs_keeps s0 s;
  keeps_begin_call = λ x h. h;
  keeps_with_handle = λ item x h. rises s0 (with_filter x s) (with_filter (with_handle item x) s) h (refl, same _, same _, same _, more _ 1, same _, same _) (same _) (same _);
  keeps_with_policy = λ p x h. h;
  keeps_as_it_is = λ x h. h;
  keeps_accessed = λ item x h. h;
  keeps_accessed_now = access_now_keeps s0 s;
  keeps_connected_again = λ x h. h;
  keeps_disconnected = λ x h. h;
  keeps_with_time = λ n x h. h;
  keeps_without_handle = λ handle x h. h;
}

-- the whole

later : (e k : ℕ) → e < e + 1 + k
later e k = omega arith

opened_rises : (s0 s : State) (p : Point) (skipped : ℕ) → Rises s0 s → Rises s0 (with_opened p (epoch_after skipped s) s)
opened_rises s0 s p skipped h = (inl (by h.0), h.1, h.2) where
  first : (a b k : ℕ) → a < b → a < b + 1 + k
  first a b k h = omega (arith, h)

  by : ((s0.filter.volume.epoch < s.filter.volume.epoch) ⊎ NotFewer s0 s) → s0.filter.volume.epoch < s.filter.volume.epoch + 1 + skipped
  by (inl e) = first s0.filter.volume.epoch s.filter.volume.epoch skipped e
  by (inr n) = subst (λ (x : ℕ). s0.filter.volume.epoch < x + 1 + skipped) (sym n.0) (later s0.filter.volume.epoch skipped)

open_in_keeps : (s0 s : State) (p : Point) (skipped : ℕ) → Rises s0 s → (none : Bool)
    → Keeps (Rises s0) (choose none (ret (shown.Refused code.Exhausted)) (then_do (noted (with_opened p (epoch_after skipped s))) (ret (resumed p))) s)
open_in_keeps s0 s p skipped h true = h
open_in_keeps s0 s p skipped h false = opened_rises s0 s p skipped h

line_keeps : (s0 : State) (shows : Bool) (c : Code) (s : State) → Rises s0 s → Rises s0 (skip_line shows c s)
line_keeps s0 true c s h = h
line_keeps s0 false c s h = h

-- a change of what the engine knows that gives no number anew
abbrev Tame : (Volatile → Volatile) → Type 0
Tame f = (v : Volatile) → (v.rounds ≤ (f v).rounds) × (v.tokens ≤ (f v).tokens)

volatile_keeps : (s0 : State) (f : Volatile → Volatile) → Tame f → (s : State) → Rises s0 s → Rises s0 (with_volatile f s)
volatile_keeps s0 f k s h = rises s0 s (with_volatile f s) h (refl, same _, same _, same _, same _, (k s.volatile).0, (k s.volatile).1) (same _) (same _)

not_in_row_tame : (e : QueueEntry) → Tame (not_in_row e)
not_in_row_tame e v = by (is_removal e) where
  by : (removal : Bool) → (v.rounds ≤ (cond removal (record v { not_empty = without_number e.number v.not_empty }) (record v { taken_names = without_item e.item v.taken_names })).rounds)
      × (v.tokens ≤ (cond removal (record v { not_empty = without_number e.number v.not_empty }) (record v { taken_names = without_item e.item v.taken_names })).tokens)
  by true = (same _, same _)
  by false = (same _, same _)

held_back_tame : (e : QueueEntry) → Tame (held_back e)
held_back_tame e v = by (is_removal e) where
  by : (removal : Bool) → (v.rounds ≤ (cond removal (record v { held_tombstones = e.number ∷ v.held_tombstones }) (record v { held_items = e.item ∷ v.held_items })).rounds)
      × (v.tokens ≤ (cond removal (record v { held_tombstones = e.number ∷ v.held_tombstones }) (record v { held_items = e.item ∷ v.held_items })).tokens)
  by true = (same _, same _)
  by false = (same _, same _)

closed : (s0 : State) → Closed (Rises s0)
closed s0 = record {
  on_filter = λ s h. filter_closed s0 s;
  opens = λ s p skipped is h. open_in_keeps s0 s p skipped h (nat_lt most (epoch_after skipped s));
  asks = asked_keeps (Rises s0) (λ s h. h) (λ held s h. h) (λ s h. h);
  keeps_begun = λ s h. h;
  keeps_crashed = λ s h. h;
  keeps_failed_open = λ s h. h;
  keeps_fault_line = λ m s h. h;
  keeps_showing = λ s h. h;
  keeps_skipped = λ c s h. line_keeps s0 s.running.shows_skips c (record s { running = record s.running { skips = s.running.skips + 1 } }) h;
  keeps_volatile_all_released = volatile_keeps s0 all_released (λ v. (same _, same _));
  keeps_volatile_held_and_closed = λ e. volatile_keeps s0 (held_and_closed e) (λ v. held_back_tame e (round_closed v));
  keeps_volatile_not_in_row = λ e. volatile_keeps s0 (not_in_row e) (not_in_row_tame e);
  keeps_volatile_round_closed = volatile_keeps s0 round_closed (λ v. (same _, same _));
  keeps_volatile_taken_from_row = λ e. volatile_keeps s0 (taken_from_row e) (λ v. not_in_row_tame e (round_closed v));
  keeps_volatile_with_not_empty = λ n. volatile_keeps s0 (with_not_empty n) (λ v. (same _, same _));
  keeps_volatile_with_round = volatile_keeps s0 with_round (λ v. (more _ 1, same _));
  keeps_volatile_with_taken_name = λ item. volatile_keeps s0 (with_taken_name item) (λ v. (same _, same _));
  keeps_volatile_with_token = volatile_keeps s0 with_token (λ v. (same _, more _ 1));
  keeps_with_book = λ f s h. h;
  keeps_with_clock_seen = λ clock s h. h;
  keeps_with_done = λ s h. h;
  keeps_with_inline = λ inline s h. h;
  keeps_with_lost = λ f s h. rises s0 s (with_lost f s) h (refl, same _, same _, same _, same _, same _, same _) (longer s.link.messages None) (same _);
  keeps_with_message = λ f s h. rises s0 s (with_message f s) h (refl, same _, same _, same _, same _, same _, same _) (longer s.link.messages (Some f)) (same _);
  keeps_with_operation_told = λ answer s h. h;
  keeps_with_outbox = λ asks s h. h;
  keeps_with_planned = λ own op s h. h;
  keeps_without_done = λ s h. h;
  keeps_without_plan = λ s h. h;
}

peers : (s0 : State) → ClosedToPeers (Rises s0)
peers s0 = record {
  keeps_with_stray = λ r s h. h;
  keeps_with_token_used = λ s h. rises s0 s (with_token_used s) h (refl, same _, same _, same _, same _, same _, same _) (same _) (more _ 1);
}

-- from any state that a run passes on no count has fallen
pub runs_rise : (m : Mode) (s : State) (trace : List (Event × Answer)) (t : State) → Runs m s trace t → Rises s t
runs_rise m s trace t h = runs_keep (Rises s) (closed s) (peers s) (λ x k. k) m s trace t h (inr (refl, same _, same _, same _, same _, same _, same _), same _, same _)
