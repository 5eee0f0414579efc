-- A property of the volume that its own steps keep is kept by every run.
use Rattle.std.proofs.Common.{ℕ, ◌+◌, ◌<◌, arith, Bool, true, false, List, nat_lt, if◌then◌else◌}
use Rattle.cf_base.specs.declared.answers.Answer.{Answer}
use Rattle.cf_base.specs.declared.changes.Change.{Change}
use Rattle.cf_base.specs.declared.events.Event.{Event}
use Rattle.cf_base.specs.declared.ids.ItemId.{ItemId}
use Rattle.cf_base.specs.declared.ids.WaitId.{WaitId}
use Rattle.cf_base.specs.declared.policies.Mode.{Mode}
use Rattle.cf_base.specs.declared.answers.Shown.TheVariants as shown
use Rattle.cf_base.specs.declared.codes.Code.{Code}
use Rattle.cf_base.specs.declared.codes.Code.TheVariants as code
use Rattle.cf_base.specs.declared.waits.Cause.{Cause}
use Rattle.cf_base.specs.declared.waits.Cause.TheVariants as cause
use Rattle.cf_base.specs.declared.waits.End.{End}
use Rattle.cf_model.specs.Arrows.{Preserves, choose, each, noted, reading, ret, then_do}
use Rattle.cf_model.specs.Books.{Book, with_access, with_ticks}
use Rattle.cf_model.specs.Changes.{apply, change_with, may_need_room, put_after_room, put_now, put_with_book, tell_change}
use Rattle.cf_model.specs.Lawful.{Runs}
use Rattle.cf_model.specs.Missing.{Wait}
use Rattle.cf_model.specs.Points.{Opens, commit_for_room, with_point_begun, with_room_point, with_sure_point}
use Rattle.cf_model.specs.Requests.{Told, Waiting}
use Rattle.cf_model.specs.Restarts.{epoch_after, opened_at, resumed, with_opened}
use Rattle.cf_model.specs.Settling.{accessed, end_of, end_wait, is_access, is_own, tell, tell_end, told_at, with_asks_told, with_ended, with_waiting}
use Rattle.cf_model.specs.State.{Filter, Point, State, Volume, in_volume, with_volume}
use Rattle.cf_model.specs.Trees.{Keeps, Ret}
use Rattle.cf_model.specs.Waits.{Need, all_down, begin_now, begun, own_id, with_own}
use Rattle.cf_model.proofs.ArrowLaws.{keeps_each, keeps_either, keeps_lifted, keeps_one, keeps_reading, keeps_seq, keeps_then}
use Rattle.cf_model.proofs.Closed.{Closed, ClosedFilter, ClosedToPeers}
use Rattle.cf_model.proofs.TreeLaws.{keeps_bind}
use Rattle.cf_model.specs.Numbers.{most}
use Rattle.cf_model.specs.Skips.{skip_line}
use Rattle.cf_model.proofs.MessagesKeep.{asked_keeps}
use Rattle.cf_model.proofs.MachineLaws.{runs_keep}

-- what the property must be kept by: a change, the three points, another book, and an opening in a later epoch
pub record ClosedVolume (V : Volume → Type 0) : Type 0 where
  pub put : (f : Book → Book) (c : Change) (v : Volume) → V v → V (put_with_book f c v)
  pub begins : (v : Volume) → V v → V (with_point_begun v)
  pub sure : (v : Volume) → V v → V (with_sure_point v)
  pub room : (v : Volume) → V v → V (with_room_point v)
  pub book : (b : Book) (v : Volume) → V v → V (record v { book = b })
  pub opens : (p : Point) (epoch : ℕ) (v : Volume) → Opens v.points p → v.epoch < epoch → V v → V (opened_at p epoch v)

abbrev Of : (Volume → Type 0) → Filter → Type 0
Of V x = V x.volume

put_keeps : (V : Volume → Type 0) → ClosedVolume V → (f : Book → Book) (c : Change) → Preserves V (put_now f c)
put_keeps V closed f c = record { keeps = λ v h. (h, closed.put f c v h) }

after_room_keeps : (V : Volume → Type 0) → ClosedVolume V → (f : Book → Book) (c : Change) (room : Bool) → Preserves V (put_after_room f c room)
after_room_keeps V closed f c false = put_keeps V closed f c
after_room_keeps V closed f c true =
    keeps_either V (put_now f c) (then_do commit_for_room (put_now f c)) (put_keeps V closed f c)
    (keeps_then V commit_for_room (put_now f c) (record { keeps = λ v h. (closed.begins v h, closed.room v h) }) (put_keeps V closed f c))

change_keeps : (V : Volume → Type 0) → ClosedVolume V → (f : Book → Book) (c : Change) → Preserves (Of V) (change_with f c)
change_keeps V closed f c =
    keeps_seq (Of V) (in_volume (apply f c)) (tell_change c)
    (keeps_lifted (Of V) (λ x. x.volume) with_volume (apply f c) (λ x h. h)
    (λ x h. keeps_reading V (may_need_room c) (put_after_room f c) (after_room_keeps V closed f c)))
    (λ n. record { keeps = λ x h. h })

tell_end_keeps : (V : Volume → Type 0) (id : WaitId) (e : End) (own : Bool) (x : Filter) → Of V x → Of V (tell_end id e own x)
tell_end_keeps V id e true x h = h
tell_end_keeps V id e false x h = h

access_keeps : (V : Volume → Type 0) → ClosedVolume V → (item : ItemId) (is : Bool) (x : Filter) → Of V x → Of V (if is then accessed item x else x)
access_keeps V closed item true x h = closed.book (with_access item x.volume.book) x.volume h
access_keeps V closed item false x h = h

ended_keeps : (V : Volume → Type 0) → ClosedVolume V → (e : Wait × Cause) (x : Filter) → Of V x → Of V (with_ended e x)
ended_keeps V closed e x h =
    access_keeps V closed e.0.item (is_access e.0.kind e.1) (tell_end e.0.id (end_of x.volume.items e.0 e.1) (is_own e.0.id x) x)
    (tell_end_keeps V e.0.id (end_of x.volume.items e.0 e.1) (is_own e.0.id x) x h)

told_keeps : (V : Volume → Type 0) → ClosedVolume V → (x : Filter) (r : Told × Waiting) → Of V x → Keeps (Of V) (tell r x)
told_keeps V closed x r h =
    (keeps_then (Of V) (each end_wait r.0.ended) (noted (with_asks_told r.0))
    (keeps_each (Of V) end_wait r.0.ended (λ e. keeps_one (Of V) (with_ended e) (ended_keeps V closed e))) (record { keeps = λ y k. k })).keeps (with_waiting r.1 x) h

begins_keeps : (V : Volume → Type 0) → ClosedVolume V → (n : Need) → Preserves (Of V) (reading (begun n) (begin_now n))
begins_keeps V closed n = record {
  keeps = λ x h.
      keeps_bind (Of V) (tell (begun n x) (with_own n x)) (λ _ t. Ret (shown.Pending (own_id n x)) t) (told_keeps V closed (with_own n x) (begun n x) h) (λ a t j. j);
}

filter_closed : (V : Volume → Type 0) → ClosedVolume V → ClosedFilter (Of V)
filter_closed V closed = record {
  change = change_keeps V closed;
  commits = record { keeps = λ x h. (closed.begins x.volume h, closed.sure x.volume h) };
  settled = λ item d. record { keeps = λ x h. told_keeps V closed x (told_at item d x) h };
  begins = begins_keeps V closed;
  downs = record { keeps = λ x h. told_keeps V closed x (all_down x) h };
  keeps_begin_call = λ x h. h;
  keeps_with_handle = λ item x h. h;
  keeps_with_policy = λ p x h. h;
  keeps_as_it_is = λ x h. h;
  keeps_accessed = λ item x h. closed.book (with_access item x.volume.book) x.volume h;
  keeps_accessed_now = λ n x h. access_keeps V closed n.item (is_access n.kind cause.Met) x h;
  keeps_connected_again = λ x h. h;
  keeps_disconnected = λ x h. h;
  keeps_with_time = λ n x h. closed.book (with_ticks n x.volume.book) x.volume h;
  keeps_without_handle = λ handle x h. h;
}

later : (e k : ℕ) → e < e + 1 + k
later e k = omega arith

open_in_keeps : (V : Volume → Type 0) → ClosedVolume V → (s : State) (p : Point) (skipped : ℕ) → Opens s.filter.volume.points p → V s.filter.volume → (none : Bool)
    → Keeps (λ t. V t.filter.volume) (choose none (ret (shown.Refused code.Exhausted)) (then_do (noted (with_opened p (epoch_after skipped s))) (ret (resumed p))) s)
open_in_keeps V closed s p skipped is h true = h
open_in_keeps V closed s p skipped is h false = closed.opens p (epoch_after skipped s) s.filter.volume is (later s.filter.volume.epoch skipped) h

line_keeps : (V : Volume → Type 0) (shows : Bool) (c : Code) (s : State) → V s.filter.volume → V (skip_line shows c s).filter.volume
line_keeps V true c s h = h
line_keeps V false c s h = h

whole_closed : (V : Volume → Type 0) → ClosedVolume V → Closed (λ s. V s.filter.volume)
whole_closed V closed = record {
  on_filter = λ s h. filter_closed V closed;
  opens = λ s p skipped is h. open_in_keeps V closed s p skipped is h (nat_lt most (epoch_after skipped s));
  asks = asked_keeps (λ s. V s.filter.volume) (λ s h. h) (λ held s h. h) (λ s h. h);
  keeps_begun = λ s h. h;
  keeps_crashed = λ s h. h;
  keeps_failed_open = λ s h. h;
  keeps_fault_line = λ m s h. h;
  keeps_showing = λ s h. h;
  keeps_skipped = λ c s h. line_keeps V s.running.shows_skips c (record s { running = record s.running { skips = s.running.skips + 1 } }) h;
  keeps_volatile_all_released = λ s h. h;
  keeps_volatile_held_and_closed = λ e s h. h;
  keeps_volatile_not_in_row = λ e s h. h;
  keeps_volatile_round_closed = λ s h. h;
  keeps_volatile_taken_from_row = λ e s h. h;
  keeps_volatile_with_not_empty = λ n s h. h;
  keeps_volatile_with_round = λ s h. h;
  keeps_volatile_with_taken_name = λ item s h. h;
  keeps_volatile_with_token = λ s h. h;
  keeps_with_book = λ f s h. closed.book (f s.filter.volume.book) s.filter.volume h;
  keeps_with_clock_seen = λ clock s h. h;
  keeps_with_done = λ s h. h;
  keeps_with_inline = λ inline s h. h;
  keeps_with_lost = λ f s h. h;
  keeps_with_message = λ f s h. h;
  keeps_with_operation_told = λ answer s h. h;
  keeps_with_outbox = λ asks s h. h;
  keeps_with_planned = λ own op s h. h;
  keeps_without_done = λ s h. h;
  keeps_without_plan = λ s h. h;
}

peers : (V : Volume → Type 0) → ClosedToPeers (λ s. V s.filter.volume)
peers V = record {
  keeps_with_stray = λ r s h. h;
  keeps_with_token_used = λ s h. h;
}

-- a run keeps the property
pub runs_keep_volume : (V : Volume → Type 0) → ClosedVolume V → (m : Mode) (s : State) (trace : List (Event × Answer)) (t : State) → Runs m s trace t → V s.filter.volume → V t.filter.volume
runs_keep_volume V closed m s trace t h i = runs_keep (λ x. V x.filter.volume) (whole_closed V closed) (peers V) (λ x k. k) m s trace t h i
