-- What no request takes from the remote no run takes from it.
use Rattle.std.proofs.Common.{ℕ, ◌+◌, nat_lt, Bool, true, false, List}
use Rattle.cf_base.specs.declared.answers.Answer.{Answer}
use Rattle.cf_base.specs.declared.codes.Code.{Code}
use Rattle.cf_base.specs.declared.events.Event.{Event}
use Rattle.cf_base.specs.declared.messages.Request.{Request}
use Rattle.cf_base.specs.declared.answers.Shown.TheVariants as shown
use Rattle.cf_base.specs.declared.codes.Code.TheVariants as code
use Rattle.cf_base.specs.declared.policies.Mode.{Mode}
use Rattle.cf_model.specs.Arrows.{choose, noted, reading, ret, then_do}
use Rattle.cf_model.specs.Changes.{change_with}
use Rattle.cf_model.specs.Growth.{Extends, IsCounted}
use Rattle.cf_model.specs.Lawful.{Runs}
use Rattle.cf_model.specs.Messages.{after_ask}
use Rattle.cf_model.specs.Numbers.{most}
use Rattle.cf_model.specs.Points.{commit}
use Rattle.cf_model.specs.Restarts.{epoch_after, resumed, with_opened}
use Rattle.cf_model.specs.Settling.{settle, tell}
use Rattle.cf_model.specs.Skips.{skip_line}
use Rattle.cf_model.specs.State.{Point, State, in_volume}
use Rattle.cf_model.specs.Store.{Held, remote_step}
use Rattle.cf_model.specs.Trees.{AsItKeeps, Faults, Keeps, Telling, Tells}
use Rattle.cf_model.specs.Waits.{all_down, begin_now, begun}
use Rattle.cf_model.proofs.ArrowLaws.{keeps_const}
use Rattle.cf_model.proofs.Closed.{Closed, ClosedFilter, ClosedToPeers}
use Rattle.cf_model.proofs.MachineLaws.{runs_keep}
use Rattle.cf_model.proofs.StoreLaws.{step_counts, step_extends}

abbrev Of : (Held → Type 0) → State → Type 0
Of R s = R s.link.remote

-- a property of all but the filter
pub filter_closed : (C : Type 0) → ClosedFilter (λ _. C)
filter_closed C = record {
  change = λ f c. keeps_const C (change_with f c);
  commits = keeps_const C (in_volume commit);
  settled = λ item d. keeps_const C (settle item d);
  begins = λ n. keeps_const C (reading (begun n) (begin_now n));
  downs = keeps_const C (reading all_down tell);
  keeps_begin_call = λ x h. h;
  keeps_with_handle = λ item x h. h;
  keeps_with_policy = λ p x h. h;
  keeps_as_it_is = λ x h. h;
  keeps_accessed = λ item x h. h;
  keeps_accessed_now = λ n x h. h;
  keeps_connected_again = λ x h. h;
  keeps_disconnected = λ x h. h;
  keeps_with_time = λ n x h. h;
  keeps_without_handle = λ handle x h. h;
}

asked_keeps : (R : Held → Type 0) → ((held : Held) (q : Request) → R held → R (remote_step held q).1) → (q : Request) (s : State) (x : Telling) → Of R s → Keeps (Of R) (after_ask (remote_step s.link.remote q) s x)
asked_keeps R steps q s AsItKeeps h = steps s.link.remote q h
asked_keeps R steps q s Faults h = h
asked_keeps R steps q s (Tells other) h = steps s.link.remote q h

open_in_keeps : (R : Held → Type 0) (s : State) (p : Point) (skipped : ℕ) → Of R s → (none : Bool)
    → Keeps (Of R) (choose none (ret (shown.Refused code.Exhausted)) (then_do (noted (with_opened p (epoch_after skipped s))) (ret (resumed p))) s)
open_in_keeps R s p skipped h true = h
open_in_keeps R s p skipped h false = h

line_keeps : (R : Held → Type 0) (shows : Bool) (c : Code) (s : State) → Of R s → Of R (skip_line shows c s)
line_keeps R true c s h = h
line_keeps R false c s h = h

closed : (R : Held → Type 0) → ((held : Held) (q : Request) → R held → R (remote_step held q).1) → Closed (Of R)
closed R steps = record {
  on_filter = λ s h. filter_closed (Of R s);
  opens = λ s p skipped is h. open_in_keeps R s p skipped h (nat_lt most (epoch_after skipped s));
  asks = λ q. record { keeps = λ s h x. asked_keeps R steps q s x h };
  keeps_begun = λ s h. h;
  keeps_crashed = λ s h. h;
  keeps_failed_open = λ s h. h;
  keeps_fault_line = λ m s h. h;
  keeps_showing = λ s h. h;
  keeps_skipped = λ c s h. line_keeps R s.running.shows_skips c (record s { running = record s.running { skips = s.running.skips + 1 } }) h;
  keeps_volatile_all_released = λ s h. h;
  keeps_volatile_held_and_closed = λ e s h. h;
  keeps_volatile_not_in_row = λ e s h. h;
  keeps_volatile_round_closed = λ s h. h;
  keeps_volatile_taken_from_row = λ e s h. h;
  keeps_volatile_with_not_empty = λ n s h. h;
  keeps_volatile_with_round = λ s h. h;
  keeps_volatile_with_taken_name = λ item s h. h;
  keeps_volatile_with_token = λ s h. h;
  keeps_with_book = λ f s h. h;
  keeps_with_clock_seen = λ clock s h. h;
  keeps_with_done = λ s h. h;
  keeps_with_inline = λ inline s h. h;
  keeps_with_lost = λ f s h. h;
  keeps_with_message = λ f s h. h;
  keeps_with_operation_told = λ answer s h. h;
  keeps_with_outbox = λ asks s h. h;
  keeps_with_planned = λ own op s h. h;
  keeps_without_done = λ s h. h;
  keeps_without_plan = λ s h. h;
}

peers : (R : Held → Type 0) → ClosedToPeers (Of R)
peers R = record {
  keeps_with_stray = λ r s h. h;
  keeps_with_token_used = λ s h. h;
}

-- a property of the remote that each request keeps
pub runs_keep_remote : (R : Held → Type 0) → ((held : Held) (q : Request) → R held → R (remote_step held q).1)
    → (m : Mode) (s : State) (trace : List (Event × Answer)) (t : State) → Runs m s trace t → R s.link.remote → R t.link.remote
runs_keep_remote R steps m s trace t h i = runs_keep (Of R) (closed R steps) (peers R) (λ x k. k) m s trace t h i

extends_more : (first held : Held) (q : Request) → Extends first held → Extends first (remote_step held q).1
extends_more first held q h =
    let more : Extends held (remote_step held q).1 = step_extends held q in
    record {
      versions = λ rid version bytes is. more.versions rid version bytes (h.versions rid version bytes is);
      tokens = λ token r is. more.tokens token r (h.tokens token r is);
    }

pub runs_extend : (m : Mode) (s : State) (trace : List (Event × Answer)) (t : State) → Runs m s trace t → Extends s.link.remote t.link.remote
runs_extend m s trace t h =
    runs_keep_remote (Extends s.link.remote) (extends_more s.link.remote) m s trace t h (record { versions = λ rid version bytes is. is; tokens = λ token r is. is })

pub runs_count : (m : Mode) (s : State) (trace : List (Event × Answer)) (t : State) → Runs m s trace t → IsCounted s.link.remote → IsCounted t.link.remote
runs_count m s trace t h i = runs_keep_remote IsCounted step_counts m s trace t h i
