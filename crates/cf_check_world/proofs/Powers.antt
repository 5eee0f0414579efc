-- A volume that is on stays on or is off after an event that is not answered as Device.
use Rattle.std.proofs.Common.{◌≡◌, ◌+◌, ℕ, Bool, true, false, sym, ◌∙◌, ap, subst, inl, inr}
use Rattle.std.specs.Prelude.{Option, Some, None, nat_lt}
use Rattle.cf_base.specs.declared.answers.Answer.{Answer}
use Rattle.cf_base.specs.declared.answers.Shown.{Shown}
use Rattle.cf_base.specs.declared.answers.Shown.TheVariants as shown
use Rattle.cf_base.specs.declared.codes.Code.{Code}
use Rattle.cf_base.specs.declared.codes.Code.TheVariants as code
use Rattle.cf_base.specs.declared.events.Event.{Event}
use Rattle.cf_base.specs.declared.policies.Mode.{Mode}
use Rattle.cf_check_traces.specs.Tests.{is_device}
use Rattle.cf_check_ways.proofs.StepsSure.{StepOf, cut_is_stopped, step_of}
use Rattle.cf_model.proofs.Closed.{Closed, ClosedToPeers}
use Rattle.cf_model.proofs.EventsKeep.{event_now_keeps}
use Rattle.cf_model.proofs.MessagesKeep.{asked_keeps}
use Rattle.cf_model.proofs.RemoteLaws.{filter_closed}
use Rattle.cf_model.proofs.TreeLaws.{kept_at_end}
use Rattle.cf_model.specs.Arrows.{choose, noted, ret, then_do}
use Rattle.cf_model.specs.Events.{begun, needs_volume, no_volume, tree_of}
use Rattle.cf_model.specs.Lawful.{IsStep}
use Rattle.cf_model.specs.Numbers.{most}
use Rattle.cf_model.specs.Restarts.{epoch_after, resumed, with_opened}
use Rattle.cf_model.specs.Skips.{skip_line}
use Rattle.cf_model.specs.State.{Broken, Off, On, Point, State}
use Rattle.cf_model.specs.Trees.{Keeps}

not_device : (r : Shown) → r ≡ shown.Refused code.Device → is_device r ≡ false → ⊥
not_device r is well = let z : true ≡ false = sym (ap is_device is) ∙ well in absurd cc

-- a volume that is not broken

abbrev pub IsWhole : State → Type 0
IsWhole s = s.power ≡ Broken → ⊥

whole_open : (s : State) (p : Point) (skipped : ℕ) → IsWhole s → (none : Bool) → Keeps IsWhole (choose none (ret (shown.Refused code.Exhausted)) (then_do (noted (with_opened p (epoch_after skipped s))) (ret (resumed p))) s)
whole_open s p skipped h true = h
whole_open s p skipped h false = λ e. let z : On ≡ Broken = e in absurd cc

whole_line : (shows : Bool) (c : Code) (s : State) → IsWhole s → IsWhole (skip_line shows c s)
whole_line true c s h = h
whole_line false c s h = h

whole_closed : Closed IsWhole
whole_closed = record {
  on_filter = λ s h. filter_closed (IsWhole s);
  opens = λ s p skipped is h. whole_open s p skipped h (nat_lt most (epoch_after skipped s));
  asks = asked_keeps IsWhole (λ s h. h) (λ held s h. h) (λ s h. h);
  keeps_begun = λ s h. h;
  keeps_crashed = λ s h e. let z : Off ≡ Broken = e in absurd cc;
  keeps_failed_open = λ s h. h;
  keeps_fault_line = λ m s h. h;
  keeps_showing = λ s h. h;
  keeps_skipped = λ c s h. whole_line s.running.shows_skips c (record s { running = record s.running { skips = s.running.skips + 1 } }) h;
  keeps_volatile_all_released = λ s h. h;
  keeps_volatile_held_and_closed = λ e s h. h;
  keeps_volatile_not_in_row = λ e s h. h;
  keeps_volatile_round_closed = λ s h. h;
  keeps_volatile_taken_from_row = λ e s h. h;
  keeps_volatile_with_not_empty = λ n s h. h;
  keeps_volatile_with_round = λ s h. h;
  keeps_volatile_with_taken_name = λ item s h. h;
  keeps_volatile_with_token = λ s h. h;
  keeps_with_book = λ f s h. h;
  keeps_with_clock_seen = λ clock s h. h;
  keeps_with_done = λ s h. h;
  keeps_with_inline = λ inline s h. h;
  keeps_with_lost = λ f s h. h;
  keeps_with_message = λ f s h. h;
  keeps_with_operation_told = λ answer s h. h;
  keeps_with_outbox = λ asks s h. h;
  keeps_with_planned = λ own op s h. h;
  keeps_without_done = λ s h. h;
  keeps_without_plan = λ s h. h;
}

whole_peers : ClosedToPeers IsWhole
whole_peers = record { keeps_with_stray = λ r s h. h; keeps_with_token_used = λ s h. h }

-- so it is after an event that was not answered as Device
pub still_whole : (m : Mode) (s : State) (e : Event) (a : Answer) (t : State) → IsStep m s e a t → is_device a.shown ≡ false → IsWhole s → IsWhole t
still_whole m s e a t step well whole = by (no_volume (needs_volume e) s.power) (step_of m s e a t step)
  where
    by : (w : Option Code) → StepOf w s e a t → IsWhole t
    by (Some c) refused = subst IsWhole (sym refused.1) whole
    by None (inl ended) = kept_at_end IsWhole (tree_of e s) ended.0 t ((event_now_keeps IsWhole whole_closed whole_peers e).keeps (begun s) whole) ended.1
    by None (inr cut) = absurd (not_device a.shown (cut_is_stopped s e a t cut) well)
