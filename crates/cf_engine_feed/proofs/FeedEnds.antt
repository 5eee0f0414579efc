-- The parts of a feed that come before and after its turns.
use Rattle.std.proofs.Common.{◌≡◌, ℕ, Bool, true, false, not, List, sym, ◌∙◌, ap, subst}
use Rattle.std.specs.Prelude.{◌&&◌, ◌==◌, Result, Ok, Err}
use Rattle.cf_base.specs.declared.codes.CallError.{CallError}
use Rattle.cf_base.specs.declared.messages.Entry.{Entry}
use Rattle.cf_engine_feed.specs.Ends.{end_cursor, end_feed_by, is_whole_by}
use Rattle.cf_engine_feed.specs.Turns.{fed}
use Rattle.cf_engine_steps.specs.Answering.{After, Answers, Any, Reads, Whole}
use Rattle.cf_engine_steps.specs.States.{Own, whole, with_clock_of, with_volatile_of}
use Rattle.cf_engine_steps.proofs.Laws.{fails_first, goes_any, reads_on, returned, then_any}
use Rattle.cf_engine_steps.proofs.Noted.{noted_clock, noted_volatile}
use Rattle.cf_filter_steps.specs.Answering.{Sense}
use Rattle.cf_filter_steps.specs.Answering as filter
use Rattle.cf_filter_steps.specs.Readings.{waiting_of}
use Rattle.cf_model.specs.Arrows.{noted, seq, unit}
use Rattle.cf_model.specs.Feeds.{all_released, all_turns, apply_entries, apply_feed, cursor_if, end_feed, with_clock_seen}
use Rattle.cf_model.specs.PushReplies.{round_closed, whatever}
use Rattle.cf_model.specs.Requests.{Waiting}
use Rattle.cf_model.specs.Skips.{in_volatile, try_cursor}
use Rattle.cf_model.specs.State.{State}
use Rattle.cf_model.specs.Trees.{Does}
use Rattle.cf_remote.specs.Told.{Told}
use Rattle.cf_waits.specs.Told.{is_listing}

pub whole_by : {X R : Type 0} (S : Sense X) (told : R → Told) (x : X) (e : Own R) (w : Waiting) (n skips : ℕ) (postponed same listing b : Bool) → filter.Reads S filter.Any waiting_of x w → n ≡ e.agent.skips → same ≡ (n == skips) → listing ≡ is_listing w → b ≡ (not postponed && same && not listing)
    → Reads (whole S told) Any (is_whole_by skips postponed) (x, e) b
whole_by S told x e w n skips postponed same listing b waits count counted lists is = record {
  is = λ s i p.
      is ∙ ap (λ (q : Bool). not postponed && q && not listing) (counted ∙ ap (λ (k : ℕ). k == skips) (count ∙ i.sees.skips))
      ∙ ap (λ (q : Bool). not postponed && (s.running.skips == skips) && not q) (lists ∙ ap is_listing (waits.is s.filter i.filter (record {})));
}

pub cursor_put : {X : Type 0} (W : Whole X) (clock skips : ℕ) (postponed b : Bool) (old new : X) (r : Result (Unit {0}) CallError) → Reads W Any (is_whole_by skips postponed) old b → b ≡ true → Answers W Any (seq (try_cursor clock) whatever) old r new
    → Answers W Any (end_cursor clock skips postponed) old r new
cursor_put W clock skips postponed b old new r reads is h = reads_on W Any (is_whole_by skips postponed) (cursor_if clock) old new b r reads (subst (λ (c : Bool). Answers W Any (cursor_if clock c) old r new) (sym is) h)

pub cursor_stays : {X : Type 0} (W : Whole X) (clock skips : ℕ) (postponed b : Bool) (old : X) → Reads W Any (is_whole_by skips postponed) old b → b ≡ false → Answers W Any (end_cursor clock skips postponed) old (Ok unit) old
cursor_stays W clock skips postponed b old reads is = reads_on W Any (is_whole_by skips postponed) (cursor_if clock) old old b (Ok unit) reads (subst (λ (c : Bool). Answers W Any (cursor_if clock c) old (Ok unit) old) (sym is) (returned W Any unit old))

module _ {X R : Type 0} (S : Sense X) (told : R → Told) (x y : X) where
  pub ends : (clock skips : ℕ) (postponed : Bool) (d e f g : Own R) (r : Result (Unit {0}) CallError) → e ≡ with_volatile_of all_released d → f ≡ with_clock_of clock e → Answers (whole S told) Any (end_cursor clock skips postponed) (x, f) r (y, g)
      → Answers (whole S told) Any (end_feed_by clock skips postponed) (x, d) r (y, g)
  ends clock skips postponed d e f g r released seen h =
      then_any (whole S told) Any (in_volatile all_released) _ (x, d) (x, e) (y, g) unit r (noted_volatile S told Any x d e all_released released)
      (then_any (whole S told) Any (noted (with_clock_seen clock)) (end_cursor clock skips postponed) (x, e) (x, f) (y, g) unit r (noted_clock S told Any x e f clock seen) h)

  pub closes : (clock : ℕ) (es : List Entry) (d e f : Own R) (r : Result (Unit {0}) CallError) → e ≡ with_volatile_of round_closed d → Answers (whole S told) Any (apply_entries clock es) (x, e) r (y, f) → Answers (whole S told) Any (apply_feed clock es) (x, d) r (y, f)
  closes clock es d e f r closed h = then_any (whole S told) Any (in_volatile round_closed) (apply_entries clock es) (x, d) (x, e) (y, f) unit r (noted_volatile S told Any x d e round_closed closed) h

-- the count of skips is that of the state in which the feed begins
from_count : {X R : Type 0} (S : Sense X) (told : R → Told) (clock n : ℕ) (es : List Entry) (x y : X) (d e : Own R) (r : Result (Unit {0}) CallError) → n ≡ d.agent.skips → Answers (whole S told) Any (seq (all_turns es) (end_feed clock n)) (x, d) r (y, e)
    → Answers (whole S told) Any (apply_entries clock es) (x, d) r (y, e)
from_count S told clock n es x y d e r is h = record {
  leads = λ s i p.
      subst (λ (k : ℕ). (t : State) × Does (seq (all_turns es) (end_feed clock k) s) r t × (whole S told).moved (x, d) (y, e) s t × After (whole S told) (x, d) r (y, e) s t) (is ∙ i.sees.skips) (h.leads s i p);
}

module _ {X R : Type 0} (S : Sense X) (told : R → Told) (clock n : ℕ) (es : List Entry) (x : X) (d : Own R) (is : n ≡ d.agent.skips) where
  pub entries_end : (later : List ℕ) (postponed : Bool) (y z : X) (e f : Own R) (r : Result (Unit {0}) CallError) → Answers (whole S told) Any (all_turns es) (x, d) (Ok (fed es postponed later)) (y, e) → Answers (whole S told) Any (end_feed_by clock n postponed) (y, e) r (z, f)
      → Answers (whole S told) Any (apply_entries clock es) (x, d) r (z, f)
  entries_end later postponed y z e f r h k = from_count S told clock n es x z d f r is (goes_any (whole S told) Any (all_turns es) (end_feed clock n) (x, d) (y, e) (z, f) (fed es postponed later) r h k)

  pub entries_fail : (y : X) (e : Own R) (c : CallError) → Answers (whole S told) Any (all_turns es) (x, d) (Err c) (y, e) → Answers (whole S told) Any (apply_entries clock es) (x, d) (Err c) (y, e)
  entries_fail y e c h = from_count S told clock n es x y d e (Err c) is (fails_first (whole S told) Any (all_turns es) (end_feed clock n) (x, d) (y, e) c h)
