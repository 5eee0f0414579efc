-- A remote that broke its rules once is never taken for one that kept them.
use Rattle.std.proofs.Common.{◌≡◌, ℕ, nat_lt, ◌+◌, Bool, true, false, List, refl, sym, ◌∙◌}
use Rattle.cf_base.specs.declared.answers.Answer.{Answer}
use Rattle.cf_base.specs.declared.codes.Code.{Code}
use Rattle.cf_base.specs.declared.events.Event.{Event}
use Rattle.cf_base.specs.declared.messages.Request.{Request}
use Rattle.cf_base.specs.declared.answers.Shown.TheVariants as shown
use Rattle.cf_base.specs.declared.codes.Code.TheVariants as code
use Rattle.cf_base.specs.declared.policies.Mode.{Mode}
use Rattle.cf_model.specs.Arrows.{choose, noted, ret, then_do}
use Rattle.cf_model.specs.Lawful.{Runs}
use Rattle.cf_model.specs.Messages.{after_ask}
use Rattle.cf_model.specs.Numbers.{most}
use Rattle.cf_model.specs.Restarts.{epoch_after, resumed, with_opened}
use Rattle.cf_model.specs.Skips.{skip_line}
use Rattle.cf_model.specs.State.{Point, State}
use Rattle.cf_model.specs.Store.{remote_step}
use Rattle.cf_model.specs.Trees.{AsItKeeps, Faults, Keeps, Telling, Tells}
use Rattle.cf_model.proofs.Closed.{Closed, ClosedToPeers}
use Rattle.cf_model.proofs.MachineLaws.{runs_keep}
use Rattle.cf_model.proofs.RemoteLaws.{filter_closed}

abbrev Broke : State → Type 0
Broke s = s.link.honest ≡ false

asked_keeps : (q : Request) (s : State) (x : Telling) → Broke s → Keeps Broke (after_ask (remote_step s.link.remote q) s x)
asked_keeps q s AsItKeeps h = h
asked_keeps q s Faults h = h
asked_keeps q s (Tells other) h = refl

open_in_keeps : (s : State) (p : Point) (skipped : ℕ) → Broke s → (none : Bool)
    → Keeps Broke (choose none (ret (shown.Refused code.Exhausted)) (then_do (noted (with_opened p (epoch_after skipped s))) (ret (resumed p))) s)
open_in_keeps s p skipped h true = h
open_in_keeps s p skipped h false = h

line_keeps : (shows : Bool) (c : Code) (s : State) → Broke s → Broke (skip_line shows c s)
line_keeps true c s h = h
line_keeps false c s h = h

closed : Closed Broke
closed = record {
  on_filter = λ s h. filter_closed (Broke s);
  opens = λ s p skipped is h. open_in_keeps s p skipped h (nat_lt most (epoch_after skipped s));
  asks = λ q. record { keeps = λ s h x. asked_keeps q s x h };
  keeps_begun = λ s h. h;
  keeps_crashed = λ s h. h;
  keeps_failed_open = λ s h. h;
  keeps_fault_line = λ m s h. h;
  keeps_showing = λ s h. h;
  keeps_skipped = λ c s h. line_keeps s.running.shows_skips c (record s { running = record s.running { skips = s.running.skips + 1 } }) h;
  keeps_volatile_all_released = λ s h. h;
  keeps_volatile_held_and_closed = λ e s h. h;
  keeps_volatile_not_in_row = λ e s h. h;
  keeps_volatile_round_closed = λ s h. h;
  keeps_volatile_taken_from_row = λ e s h. h;
  keeps_volatile_with_not_empty = λ n s h. h;
  keeps_volatile_with_round = λ s h. h;
  keeps_volatile_with_taken_name = λ item s h. h;
  keeps_volatile_with_token = λ s h. h;
  keeps_with_book = λ f s h. h;
  keeps_with_clock_seen = λ clock s h. h;
  keeps_with_done = λ s h. h;
  keeps_with_inline = λ inline s h. h;
  keeps_with_lost = λ f s h. h;
  keeps_with_message = λ f s h. h;
  keeps_with_operation_told = λ answer s h. h;
  keeps_with_outbox = λ asks s h. h;
  keeps_with_planned = λ own op s h. h;
  keeps_without_done = λ s h. h;
  keeps_without_plan = λ s h. h;
}

peers : ClosedToPeers Broke
peers = record {
  keeps_with_stray = λ r s h. h;
  keeps_with_token_used = λ s h. h;
}

-- so a run that kept them to its end kept them from its start
pub kept_before : (m : Mode) (s : State) (trace : List (Event × Answer)) (t : State) → Runs m s trace t → t.link.honest ≡ true → s.link.honest ≡ true
kept_before m s trace t h kept = one s.link.honest refl
  where
    one : (b : Bool) → s.link.honest ≡ b → s.link.honest ≡ true
    one true e = e
    one false e = let broke : t.link.honest ≡ false = runs_keep Broke closed peers (λ x k. k) m s trace t h e in let z : false ≡ true = sym broke ∙ kept in absurd cc
