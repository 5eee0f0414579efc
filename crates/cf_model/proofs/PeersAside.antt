-- What only events of other devices change: how many tokens those have used, and the reply that an answer keeps.
use Rattle.std.proofs.Common.{ℕ, Bool, true, false, Option, None, ◌+◌, ◌≡◌, ap}
use Rattle.std.specs.Prelude.{nat_lt}
use Rattle.cf_base.specs.declared.answers.Shown.TheVariants as shown
use Rattle.cf_base.specs.declared.calls.Call.{Call}
use Rattle.cf_base.specs.declared.codes.Code.{Code}
use Rattle.cf_base.specs.declared.codes.Code.TheVariants as code
use Rattle.cf_base.specs.declared.events.EngineEvent.{EngineEvent}
use Rattle.cf_base.specs.declared.messages.Reply.{Reply}
use Rattle.cf_model.specs.Arrows.{Preserves, choose, noted, ret, then_do}
use Rattle.cf_model.specs.EngineEvents.{engine_event}
use Rattle.cf_model.specs.Events.{call_now}
use Rattle.cf_model.specs.Numbers.{most}
use Rattle.cf_model.specs.Restarts.{epoch_after, resumed, with_opened}
use Rattle.cf_model.specs.Skips.{skip_line}
use Rattle.cf_model.specs.State.{Point, State}
use Rattle.cf_model.specs.Trees.{Keeps}
use Rattle.cf_model.proofs.Closed.{Closed}
use Rattle.cf_model.proofs.EngineEventsKeep.{engine_event_keeps}
use Rattle.cf_model.proofs.EventsKeep.{call_now_keeps}
use Rattle.cf_model.proofs.MessagesKeep.{asked_keeps}
use Rattle.cf_model.proofs.RemoteLaws.{filter_closed}

abbrev pub peers_of : State → ℕ × Option Reply
peers_of s = (s.peer_tokens, s.running.stray)

-- other devices have used so many tokens, and no reply is kept
abbrev pub HasPeers : ℕ → State → Type 0
HasPeers n s = peers_of s ≡ (n, None)

open_in_keeps : (n : ℕ) (s : State) (p : Point) (skipped : ℕ) → HasPeers n s → (none : Bool)
    → Keeps (HasPeers n) (choose none (ret (shown.Refused code.Exhausted)) (then_do (noted (with_opened p (epoch_after skipped s))) (ret (resumed p))) s)
open_in_keeps n s p skipped h true = h
open_in_keeps n s p skipped h false = h

line_keeps : (n : ℕ) (shows : Bool) (c : Code) (s : State) → HasPeers n s → HasPeers n (skip_line shows c s)
line_keeps n true c s h = h
line_keeps n false c s h = h

closed : (n : ℕ) → Closed (HasPeers n)
closed n = record {
  on_filter = λ s h. filter_closed (HasPeers n s);
  opens = λ s p skipped is h. open_in_keeps n s p skipped h (nat_lt most (epoch_after skipped s));
  asks = asked_keeps (HasPeers n) (λ s h. h) (λ held s h. h) (λ s h. h);
  keeps_begun = λ s h. ap (λ p. (p.0, None)) h;
  keeps_crashed = λ s h. h;
  keeps_failed_open = λ s h. h;
  keeps_fault_line = λ m s h. h;
  keeps_showing = λ s h. h;
  keeps_skipped = λ c s h. line_keeps n s.running.shows_skips c (record s { running = record s.running { skips = s.running.skips + 1 } }) h;
  keeps_volatile_all_released = λ s h. h;
  keeps_volatile_held_and_closed = λ e s h. h;
  keeps_volatile_not_in_row = λ e s h. h;
  keeps_volatile_round_closed = λ s h. h;
  keeps_volatile_taken_from_row = λ e s h. h;
  keeps_volatile_with_not_empty = λ n s h. h;
  keeps_volatile_with_round = λ s h. h;
  keeps_volatile_with_taken_name = λ item s h. h;
  keeps_volatile_with_token = λ s h. h;
  keeps_with_book = λ f s h. h;
  keeps_with_clock_seen = λ clock s h. h;
  keeps_with_done = λ s h. h;
  keeps_with_inline = λ inline s h. h;
  keeps_with_lost = λ f s h. h;
  keeps_with_message = λ f s h. h;
  keeps_with_operation_told = λ answer s h. h;
  keeps_with_outbox = λ asks s h. h;
  keeps_with_planned = λ own op s h. h;
  keeps_without_done = λ s h. h;
  keeps_without_plan = λ s h. h;
}

pub call_leaves_peers : (n : ℕ) (c : Call) → Preserves (HasPeers n) (call_now c)
call_leaves_peers n c = call_now_keeps (HasPeers n) (closed n) c

pub engine_leaves_peers : (n : ℕ) (e : EngineEvent) → Preserves (HasPeers n) (engine_event e)
engine_leaves_peers n e = engine_event_keeps (HasPeers n) (closed n) e
