-- The waits and asks of a state are of the volume's epoch, whatever a run does.
use Rattle.std.proofs.Common.{◌≡◌, ℕ, ◌+◌, Bool, true, false, List, refl, ◌∙◌, nat_lt, if◌then◌else◌}
use Rattle.cf_base.specs.declared.answers.Answer.{Answer}
use Rattle.cf_base.specs.declared.changes.Change.{Change}
use Rattle.cf_base.specs.declared.events.Event.{Event}
use Rattle.cf_base.specs.declared.ids.ItemId.{ItemId}
use Rattle.cf_base.specs.declared.ids.WaitId.{WaitId}
use Rattle.cf_base.specs.declared.policies.Mode.{Mode}
use Rattle.cf_base.specs.declared.answers.Shown.TheVariants as shown
use Rattle.cf_base.specs.declared.codes.Code.{Code}
use Rattle.cf_base.specs.declared.codes.Code.TheVariants as code
use Rattle.cf_base.specs.declared.waits.Cause.{Cause}
use Rattle.cf_base.specs.declared.waits.Cause.TheVariants as cause
use Rattle.cf_base.specs.declared.waits.End.{End}
use Rattle.cf_model.specs.Arrows.{Preserves, choose, each, noted, reading, ret, then_do}
use Rattle.cf_model.specs.Books.{Book}
use Rattle.cf_model.specs.Changes.{apply, change_with, may_need_room, put_after_room, put_now, tell_change}
use Rattle.cf_model.specs.Given.{OfOneEpoch}
use Rattle.cf_model.specs.Lawful.{Runs}
use Rattle.cf_model.specs.Missing.{Wait}
use Rattle.cf_model.specs.Points.{commit_for_room}
use Rattle.cf_model.specs.Requests.{Told, Waiting}
use Rattle.cf_model.specs.Restarts.{epoch_after, resumed, with_opened}
use Rattle.cf_model.specs.Settling.{accessed, end_of, end_wait, is_access, is_own, tell, tell_end, told_at, with_asks_told, with_ended, with_waiting}
use Rattle.cf_model.specs.State.{Filter, Point, State, Volume, in_volume, start, with_filter, with_volume}
use Rattle.cf_model.specs.Store.{Held}
use Rattle.cf_model.specs.Trees.{Keeps, Ret}
use Rattle.cf_model.specs.Waits.{Need, all_down, begin_now, begun, own_id, with_own}
use Rattle.cf_model.proofs.ArrowLaws.{keeps_each, keeps_either, keeps_lifted, keeps_one, keeps_reading, keeps_seq, keeps_then}
use Rattle.cf_model.proofs.Closed.{Closed, ClosedFilter, ClosedToPeers}
use Rattle.cf_model.proofs.TreeLaws.{keeps_bind}
use Rattle.cf_model.specs.Numbers.{most}
use Rattle.cf_model.specs.Skips.{skip_line}
use Rattle.cf_model.proofs.MessagesKeep.{asked_keeps}
use Rattle.cf_model.proofs.MachineLaws.{runs_keep}

abbrev Within : State → Filter → Type 0
Within s x = OfOneEpoch (with_filter x s)

abbrev InVolume : State → Filter → Volume → Type 0
InVolume s x v = Within s (with_volume v x)

after_room_keeps : (s : State) (x : Filter) (f : Book → Book) (c : Change) (room : Bool) → Preserves (InVolume s x) (put_after_room f c room)
after_room_keeps s x f c false = record { keeps = λ v h. (h, h) }
after_room_keeps s x f c true =
    keeps_either (InVolume s x) (put_now f c) (then_do commit_for_room (put_now f c)) (record { keeps = λ v h. (h, h) })
    (keeps_then (InVolume s x) commit_for_room (put_now f c) (record { keeps = λ v h. (h, h) }) (record { keeps = λ v h. (h, h) }))

change_keeps : (s : State) (f : Book → Book) (c : Change) → Preserves (Within s) (change_with f c)
change_keeps s f c =
    keeps_seq (Within s) (in_volume (apply f c)) (tell_change c)
    (keeps_lifted (Within s) (λ x. x.volume) with_volume (apply f c) (λ x h. h)
    (λ x h. keeps_reading (InVolume s x) (may_need_room c) (put_after_room f c) (after_room_keeps s x f c)))
    (λ n. record { keeps = λ x h. h })

tell_end_keeps : (s : State) (id : WaitId) (e : End) (own : Bool) (x : Filter) → Within s x → Within s (tell_end id e own x)
tell_end_keeps s id e true x h = h
tell_end_keeps s id e false x h = h

access_keeps : (s : State) (item : ItemId) (is : Bool) (x : Filter) → Within s x → Within s (if is then accessed item x else x)
access_keeps s item true x h = h
access_keeps s item false x h = h

ended_keeps : (s : State) (e : Wait × Cause) (x : Filter) → Within s x → Within s (with_ended e x)
ended_keeps s e x h =
    access_keeps s e.0.item (is_access e.0.kind e.1) (tell_end e.0.id (end_of x.volume.items e.0 e.1) (is_own e.0.id x) x)
    (tell_end_keeps s e.0.id (end_of x.volume.items e.0 e.1) (is_own e.0.id x) x h)

tell_rest_keeps : (s : State) (t : Told) → Preserves (Within s) (then_do (each end_wait t.ended) (noted (with_asks_told t)))
tell_rest_keeps s t =
    keeps_then (Within s) (each end_wait t.ended) (noted (with_asks_told t))
    (keeps_each (Within s) end_wait t.ended (λ e. keeps_one (Within s) (with_ended e) (ended_keeps s e))) (record { keeps = λ x h. h })

told_keeps : (s : State) (x : Filter) (r : Told × Waiting) → r.1.epoch ≡ x.waiting.epoch → Within s x → Keeps (Within s) (tell r x)
told_keeps s x r k h = (tell_rest_keeps s r.0).keeps (with_waiting r.1 x) (k ∙ h)

begins_keeps : (s : State) (n : Need) → Preserves (Within s) (reading (begun n) (begin_now n))
begins_keeps s n = record {
  keeps = λ x h.
      keeps_bind (Within s) (tell (begun n x) (with_own n x)) (λ _ t. Ret (shown.Pending (own_id n x)) t)
      (told_keeps s (with_own n x) (begun n x) refl h) (λ a t j. j);
}

filter_closed : (s : State) → ClosedFilter (Within s)
filter_closed s = record {
  change = change_keeps s;
  commits = record { keeps = λ x h. (h, h) };
  settled = λ item d. record { keeps = λ x h. told_keeps s x (told_at item d x) refl h };
  begins = begins_keeps s;
  downs = record { keeps = λ x h. told_keeps s x (all_down x) refl h };
  keeps_begin_call = λ x h. h;
  keeps_with_handle = λ item x h. h;
  keeps_with_policy = λ p x h. h;
  keeps_as_it_is = λ x h. h;
  keeps_accessed = λ item x h. h;
  keeps_accessed_now = λ n x h. access_keeps s n.item (is_access n.kind cause.Met) x h;
  keeps_connected_again = λ x h. h;
  keeps_disconnected = λ x h. h;
  keeps_with_time = λ n x h. h;
  keeps_without_handle = λ handle x h. h;
}

open_in_keeps : (s : State) (p : Point) (skipped : ℕ) → OfOneEpoch s → (none : Bool)
    → Keeps OfOneEpoch (choose none (ret (shown.Refused code.Exhausted)) (then_do (noted (with_opened p (epoch_after skipped s))) (ret (resumed p))) s)
open_in_keeps s p skipped h true = h
open_in_keeps s p skipped h false = refl

line_keeps : (shows : Bool) (c : Code) (s : State) → OfOneEpoch s → OfOneEpoch (skip_line shows c s)
line_keeps true c s h = h
line_keeps false c s h = h

closed : Closed OfOneEpoch
closed = record {
  on_filter = λ s h. filter_closed s;
  opens = λ s p skipped is h. open_in_keeps s p skipped h (nat_lt most (epoch_after skipped s));
  asks = asked_keeps OfOneEpoch (λ s h. h) (λ held s h. h) (λ s h. h);
  keeps_begun = λ s h. h;
  keeps_crashed = λ s h. h;
  keeps_failed_open = λ s h. h;
  keeps_fault_line = λ m s h. h;
  keeps_showing = λ s h. h;
  keeps_skipped = λ c s h. line_keeps s.running.shows_skips c (record s { running = record s.running { skips = s.running.skips + 1 } }) h;
  keeps_volatile_all_released = λ s h. h;
  keeps_volatile_held_and_closed = λ e s h. h;
  keeps_volatile_not_in_row = λ e s h. h;
  keeps_volatile_round_closed = λ s h. h;
  keeps_volatile_taken_from_row = λ e s h. h;
  keeps_volatile_with_not_empty = λ n s h. h;
  keeps_volatile_with_round = λ s h. h;
  keeps_volatile_with_taken_name = λ item s h. h;
  keeps_volatile_with_token = λ s h. h;
  keeps_with_book = λ f s h. h;
  keeps_with_clock_seen = λ clock s h. h;
  keeps_with_done = λ s h. h;
  keeps_with_inline = λ inline s h. h;
  keeps_with_lost = λ f s h. h;
  keeps_with_message = λ f s h. h;
  keeps_with_operation_told = λ answer s h. h;
  keeps_with_outbox = λ asks s h. h;
  keeps_with_planned = λ own op s h. h;
  keeps_without_done = λ s h. h;
  keeps_without_plan = λ s h. h;
}

peers : ClosedToPeers OfOneEpoch
peers = record {
  keeps_with_stray = λ r s h. h;
  keeps_with_token_used = λ s h. h;
}

pub epochs_agree : (m : Mode) (s : State) (trace : List (Event × Answer)) (t : State) → Runs m s trace t → OfOneEpoch s → OfOneEpoch t
epochs_agree m s trace t h i = runs_keep OfOneEpoch closed peers (λ x k. k) m s trace t h i

-- from the start
pub started_in_epoch : (m : Mode) (remote : Held) (clusters : ℕ) (trace : List (Event × Answer)) (t : State) → Runs m (start m remote clusters) trace t → OfOneEpoch t
started_in_epoch m remote clusters trace t h = epochs_agree m (start m remote clusters) trace t h refl
