-- What the parts of `Passes` keep in `replay`, each by what its own parts keep.
use Rattle.std.specs.Prelude.{ℕ, zero, suc, Bool, true, false, Option, Some, None, ◌+◌, slice_get}
use Rattle.cf_base.specs.declared.answers.Shown.{Shown}
use Rattle.cf_base.specs.declared.answers.Shown.TheVariants as shown
use Rattle.cf_base.specs.declared.codes.Code.TheVariants as code
use Rattle.cf_base.specs.declared.messages.Reply.{Reply}
use Rattle.cf_base.specs.declared.messages.Request.TheVariants as request
use Rattle.cf_base.specs.declared.notices.Frame.{Frame}
use Rattle.cf_base.specs.declared.notices.Frame.TheVariants as frame
use Rattle.cf_model.specs.Arrows.{Arrow, noted, one, ret, then_do, unit, Preserves, each, reading, seq, unless_done}
use Rattle.cf_model.specs.Books.{QueueEntry}
use Rattle.cf_model.specs.Callbacks.{drain}
use Rattle.cf_model.specs.Messages.{act_on, come, is_stale, message_at}
use Rattle.cf_model.specs.Numbers.{most, no_item}
use Rattle.cf_model.specs.Pushes.{push_all}
use Rattle.cf_model.specs.Skips.{with_volatile, left_out}
use Rattle.cf_model.specs.State.{State, book_now, items_now}
use Rattle.cf_model.specs.Trees.{Tree, Ret, Keeps, bind}
use Rattle.cf_model_laws.proofs.CallbacksGuarded as callbacks_keep
use Rattle.cf_model_laws.proofs.PushesGuarded as pushes_keep
use Rattle.cf_model.specs.Passes.{arrive, arrive_frame, ask_feed, connected, deliver, deliver_frame, deliver_now, deliver_reply, deliver_unless, feed_if, feed_of, is_down, is_last, pass, pass_anew, passes, settle_all, settle_entry, show_unsettled, showing, sync, sync_now, sync_passes, things, unless_down, unsettled, was_sent, why_no_round, with_round, without_done, work, work_now}
use Rattle.cf_model_laws.proofs.Guarded.{Guarded, Entering, PostedIn}
use Rattle.cf_model.proofs.ArrowLaws.{keeps_choose, keeps_noted, keeps_reading, keeps_ret, keeps_then}
use Rattle.cf_model.proofs.TreeLaws.{keeps_bind}
use Rattle.std.proofs.Common.{◌≡◌, ℕ, zero, suc, Bool, true, false, List, [], ◌∷◌, refl, sym, ◌∙◌, subst}
use Rattle.cf_base.specs.declared.ids.Round.{Round}
use Rattle.cf_base.specs.declared.ids.Token.{Token}
use Rattle.cf_base.specs.declared.messages.Request.{Request}
use Rattle.cf_model.specs.Changes.{next_number}
use Rattle.cf_model.specs.Requests.{is_fetch}
use Rattle.cf_model.specs.Words.{part}
use Rattle.cf_model_laws.specs.GivenOnce.{WasGiven}
use Rattle.cf_model_laws.specs.Invariant.{All, IsEntryOf, IsMessageRight, IsSound, Names, TellsBytes, message_in}
use Rattle.cf_model_laws.specs.Premises.{IsFair}
use Rattle.cf_model_laws.proofs.CallbacksGuarded.{plain_posted}
use Rattle.cf_model_laws.proofs.FeedsGuarded.{first_led}
use Rattle.cf_model_laws.proofs.FramesGuarded.{FrameIn, guarded_framed}
use Rattle.cf_model_laws.proofs.Gathered.{all_any, all_weaker}
use Rattle.cf_model_laws.proofs.Leading.{kept_leads, leads_bind, leads_kept}
use Rattle.cf_model_laws.proofs.MessagesGuarded.{Come, acts_at, come_led, send_now_at, send_now_by}
use Rattle.cf_model_laws.specs.Taken.{ToldAt}
use Rattle.cf_base.specs.declared.codes.Code.{Code}

pub sound_of : (P : State → Type 0) → Guarded P → (s : State) → P s → IsFair s.link → IsSound s.link s.volatile.tokens s.filter
sound_of P closed s h fair = (closed.on_filter s h).sound s.filter h fair

-- requests that say nothing of uploads

pub settle_posted : (s : State) (token : Token) → WasGiven s.filter.volume.epoch s.volatile.tokens token.0 → PostedIn s (Some (frame.Request (request.Settle token)))
settle_posted s token given = plain_posted (request.Settle token) s (λ t b. tt) given (all_any (λ a. is_fetch a.ask.kind ≡ true → Names s.link.remote (items_now s) a.ask (request.Settle token)) (λ a f. tt) s.filter.waiting.asks)

pub feed_posted : (s : State) (round : Round) (after : ℕ) → PostedIn s (Some (frame.Request (request.Feed round after)))
feed_posted s round after = plain_posted (request.Feed round after) s (λ t b. tt) tt (all_any (λ a. is_fetch a.ask.kind ≡ true → Names s.link.remote (items_now s) a.ask (request.Feed round after)) (λ a f. tt) s.filter.waiting.asks)

abbrev pub Whatever : Bool → Bool → Type 0
Whatever d p = Unit {0}

abbrev pub Entries : List QueueEntry → State → Type 0
Entries es s = FrameIn ⊥ no_item Whatever es s

pub settle_list : (P : State → Type 0) → Guarded P → (es : List QueueEntry) (s : State) → P s × Entries es s → Keeps P (each settle_entry es s)
settle_list P closed [] s h = h.0
settle_list P closed (e ∷ es) s h =
    kept_leads P (each settle_entry (e ∷ es) s)
    (leads_bind P (λ u t. P t × Entries (e ∷ es) t) (λ u t. P t) (settle_entry e s) (λ u t. each settle_entry es t)
    (first_led P (Entries (e ∷ es)) (settle_entry e s) (send_now_at (λ t. P t × Entries (e ∷ es) t) (guarded_framed ⊥ no_item Whatever (λ d p k. tt) (e ∷ es) P closed) (request.Settle e.token) s refl (λ fair. settle_posted s e.token (h.1.1 fair).0) (λ fair. tt) h))
    (λ u t k. leads_kept P (each settle_entry es t) (settle_list P closed es t (k.0, (k.1.0, λ fair. (k.1.1 fair).1)))))

pub settle_all_keeps : (P : State → Type 0) → Guarded P → Preserves P settle_all
settle_all_keeps P closed = record {
  keeps = λ s h. settle_list P closed (book_now s).entries s (h, (λ u. absurd u, λ fair. all_weaker (IsEntryOf (next_number s.filter.volume) s.filter.volume.next_item.0 s.filter.volume.epoch s.volatile.tokens) (λ e. WasGiven s.filter.volume.epoch s.volatile.tokens e.token.0) (λ e k. k.token) (book_now s).entries (sound_of P closed s h fair).now.given));
}

-- a round is drawn, and its feed is asked for
pub ask_feed_keeps : (P : State → Type 0) → Guarded P → Entering P → Preserves P ask_feed
ask_feed_keeps P closed entering = record { keeps = λ s h. by s h (why_no_round s) } where
  by : (s : State) → P s → (o : Option Code) → Keeps P (bind (bind (unless_done (one (with_volatile with_round)) o s) left_out) feed_if)
  by s h None =
      let drawn : P (with_volatile with_round s) = closed.keeps_volatile_with_round s h in (
        h,
        send_now_by P closed (feed_of (with_volatile with_round s)) (with_volatile with_round s)
            (entering.feeds (frame.Request (feed_of (with_volatile with_round s))) (with_volatile with_round s) (λ fair. feed_posted (with_volatile with_round s) (record { 0 = record { epoch = s.filter.volume.epoch; number = s.volatile.rounds + 1 } }) (book_now s).cursor) (λ fair. (refl, refl, refl)) drawn) drawn,
      )
  by s h (Some c) = closed.keeps_skipped c s h

pub pass_keeps : (P : State → Type 0) → Guarded P → Entering P → Preserves P (pass)
pass_keeps P closed entering = keeps_then P settle_all (then_do ask_feed push_all) (settle_all_keeps P closed) (keeps_then P ask_feed push_all (ask_feed_keeps P closed entering) (pushes_keep.push_all_keeps P closed entering.uploads))

pub unless_down_keeps : (P : State → Type 0) → Guarded P → (x1 : Arrow State Shown) → (Preserves P (x1)) → (x2 : Bool) → Preserves P (unless_down x1 x2)
unless_down_keeps P closed f f_keeps true = keeps_ret P (shown.Refused code.ProviderDown)
unless_down_keeps P closed f f_keeps false = f_keeps

pub connected_keeps : (P : State → Type 0) → Guarded P → (x1 : Arrow State Shown) → (Preserves P (x1)) → Preserves P (connected x1)
connected_keeps P closed f f_keeps = keeps_reading P is_down (unless_down f) (unless_down_keeps P closed f f_keeps)

pub work_now_keeps : (P : State → Type 0) → Guarded P → Entering P → Preserves P (work_now)
work_now_keeps P closed entering = keeps_then P (noted showing) (then_do pass (then_do drain (ret shown.Done))) (keeps_noted P showing (closed.keeps_showing)) (keeps_then P pass (then_do drain (ret shown.Done)) (pass_keeps P closed entering) (keeps_then P drain (ret shown.Done) (callbacks_keep.drain_keeps P closed) (keeps_ret P shown.Done)))

pub work_keeps : (P : State → Type 0) → Guarded P → Entering P → Preserves P (work)
work_keeps P closed entering = connected_keeps P closed work_now (work_now_keeps P closed entering)

pub pass_anew_keeps : (P : State → Type 0) → Guarded P → Entering P → Preserves P (pass_anew)
pass_anew_keeps P closed entering = record { keeps = λ s i_. ((pass_keeps P closed entering)).keeps (without_done s) ((closed.keeps_without_done) s i_) }

again_keeps : (P : State → Type 0) (closed : Guarded P) (entering : Entering P) (n l made : ℕ) → Preserves P (passes n l (made + 1)) → (last : Bool) (t : State) → P t
    → Keeps P (elim last as (λ _. Tree State (Unit {0})) [ true ↦ Ret unit t | false ↦ passes n l (made + 1) t ])
again_keeps P closed entering n l made k true t j = j
again_keeps P closed entering n l made k false t j = k.keeps t j

pub passes_keeps : (P : State → Type 0) → Guarded P → Entering P → (n l made : ℕ) → Preserves P (passes n l made)
passes_keeps P closed entering zero l made = record { keeps = λ s i. i }
passes_keeps P closed entering (suc n) l made = record {
  keeps = λ s i. keeps_bind P (pass_anew s) (λ _ t. elim (is_last l made s t) as (λ _. Tree State (Unit {0})) [ true ↦ Ret unit t | false ↦ passes n l (made + 1) t ])
      ((pass_anew_keeps P closed entering).keeps s i) (λ u t j. again_keeps P closed entering n l made (passes_keeps P closed entering n l (made + 1)) (is_last l made s t) t j);
}

pub sync_passes_keeps : (P : State → Type 0) → Guarded P → Entering P → Preserves P (sync_passes)
sync_passes_keeps P closed entering = record { keeps = λ s i_. ((keeps_choose P s.link.inline (passes most (things s) 0) pass (passes_keeps P closed entering most (things s) 0) (pass_keeps P closed entering))).keeps s i_ }

pub show_unsettled_keeps : (P : State → Type 0) → Guarded P → Preserves P (show_unsettled)
show_unsettled_keeps P closed = record { keeps = λ s i_. ((keeps_ret P (shown.Count (unsettled s)))).keeps s i_ }

pub sync_now_keeps : (P : State → Type 0) → Guarded P → Entering P → Preserves P (sync_now)
sync_now_keeps P closed entering = keeps_then P (noted showing) (then_do sync_passes (then_do drain show_unsettled)) (keeps_noted P showing (closed.keeps_showing)) (keeps_then P sync_passes (then_do drain show_unsettled) (sync_passes_keeps P closed entering) (keeps_then P drain show_unsettled (callbacks_keep.drain_keeps P closed) (show_unsettled_keeps P closed)))

pub sync_keeps : (P : State → Type 0) → Guarded P → Entering P → Preserves P (sync)
sync_keeps P closed entering = connected_keeps P closed sync_now (sync_now_keeps P closed entering)

arrive_frame_at : (P : State → Type 0) → Guarded P → (m : ℕ) (o : Option Frame) (s : State) → message_in s.link.messages m ≡ o → P s → Keeps P (arrive_frame m o s)
arrive_frame_at P closed m (Some (frame.Request q)) s at h = kept_leads P (seq (come m q) was_sent s) (leads_bind P (Come P m q) (λ u t. P t) (come m q s) was_sent (come_led P closed m q s at h) (λ o t k. k.0))
arrive_frame_at P closed m (Some (frame.Reply answers r)) s at h = h
arrive_frame_at P closed m None s at h = h

pub is_message : (s : State) (m : ℕ) → message_in s.link.messages m ≡ message_at s m
is_message s zero = refl
is_message s (suc n) = refl

pub arrive_keeps : (P : State → Type 0) → Guarded P → (m : ℕ) → Preserves P (arrive m)
arrive_keeps P closed m = record { keeps = λ s h. arrive_frame_at P closed m (message_at s m) s (is_message s m) h }

pub one_message : (C : Option Frame → Type 0) (ms : List (Option Frame)) (m : ℕ) (f : Frame) → All C ms → message_in ms m ≡ Some f → C (Some f)
one_message C ms zero f h e = cc
one_message C ms (suc n) f h e = by ms n h e where
  by : (ms : List (Option Frame)) (n : ℕ) → All C ms → part (λ g. g) None (slice_get ms n) ≡ Some f → C (Some f)
  by [] zero h e = cc
  by [] (suc n) h e = cc
  by (g ∷ ms) zero h e = subst C e h.0
  by (g ∷ ms) (suc n) h e = by ms n h.1 e

same_request : (a b : Request) → ◌≡◌ {A = Option Frame} (Some (frame.Request a)) (Some (frame.Request b)) → a ≡ b
same_request a b e = cc

-- a reply among the messages tells the truth on its request
pub told_by : (s : State) (m answers : ℕ) (q : Request) (r : Reply) → IsSound s.link s.volatile.tokens s.filter → message_in s.link.messages m ≡ Some (frame.Reply answers r) → message_in s.link.messages answers ≡ Some (frame.Request q) → ToldAt s answers q r
told_by s m answers q r sound at asked =
    let k : IsMessageRight s.link.remote s.link.messages s.filter.volume.epoch s.filter.waiting.key_count s.volatile.tokens (Some (frame.Reply answers r)) =
    one_message (IsMessageRight s.link.remote s.link.messages s.filter.volume.epoch s.filter.waiting.key_count s.volatile.tokens) s.link.messages m (frame.Reply answers r) sound.messages at in
    (asked, k.0, subst (λ (x : Request). TellsBytes s.link.remote x r) (same_request k.1 q (sym k.2 ∙ asked)) k.3)

deliver_at : (P : State → Type 0) → Guarded P → (m answers : ℕ) (q : Request) (r : Reply) (s : State) → message_in s.link.messages m ≡ Some (frame.Reply answers r) → message_in s.link.messages answers ≡ Some (frame.Request q) → P s → Keeps P (reading (is_stale q r) (deliver_unless r) s)
deliver_at P closed m answers q r s at asked h = by (is_stale q r s) refl where
  by : (b : Bool) → is_stale q r s ≡ b → Keeps P (deliver_unless r b s)
  by true e = h
  by false e =
      keeps_bind P (act_on r (showing s)) (λ _ t. then_do drain (ret shown.Done) t)
      (acts_at P closed answers q r (showing s) e (λ fair. told_by s m answers q r (sound_of P closed s h fair) at asked) (m, at) (closed.keeps_showing s h))
      (λ a t j. (keeps_then P drain (ret shown.Done) (callbacks_keep.drain_keeps P closed) (keeps_ret P shown.Done)).keeps t j)

deliver_reply_at : (P : State → Type 0) → Guarded P → (m answers : ℕ) (r : Reply) (o : Option Frame) (s : State) → message_in s.link.messages m ≡ Some (frame.Reply answers r) → message_in s.link.messages answers ≡ o → P s → Keeps P (deliver_reply r o s)
deliver_reply_at P closed m answers r (Some (frame.Request q)) s at asked h = deliver_at P closed m answers q r s at asked h
deliver_reply_at P closed m answers r (Some (frame.Reply other b)) s at asked h = h
deliver_reply_at P closed m answers r None s at asked h = h

deliver_frame_at : (P : State → Type 0) → Guarded P → (m : ℕ) (o : Option Frame) (s : State) → message_in s.link.messages m ≡ o → P s → Keeps P (deliver_frame o s)
deliver_frame_at P closed m (Some (frame.Reply answers r)) s at h = deliver_reply_at P closed m answers r (message_at s answers) s at (is_message s answers) h
deliver_frame_at P closed m (Some (frame.Request q)) s at h = h
deliver_frame_at P closed m None s at h = h

deliver_now_keeps : (P : State → Type 0) → Guarded P → (m : ℕ) → Preserves P (deliver_now m)
deliver_now_keeps P closed m = record { keeps = λ s h. deliver_frame_at P closed m (message_at s m) s (is_message s m) h }

pub deliver_keeps : (P : State → Type 0) → Guarded P → (x1 : ℕ) → Preserves P (deliver x1)
deliver_keeps P closed m = connected_keeps P closed (deliver_now m) (deliver_now_keeps P closed m)
