-- What the parts of `Passes` keep, each by what its own parts keep.
use Rattle.std.specs.Prelude.{ℕ, zero, suc, Bool, true, false, Option, Some, None, ◌+◌}
use Rattle.cf_base.specs.declared.answers.Shown.{Shown}
use Rattle.cf_base.specs.declared.answers.Shown.TheVariants as shown
use Rattle.cf_base.specs.declared.codes.Code.TheVariants as code
use Rattle.cf_base.specs.declared.messages.Reply.{Reply}
use Rattle.cf_base.specs.declared.messages.Request.TheVariants as request
use Rattle.cf_base.specs.declared.notices.Frame.{Frame}
use Rattle.cf_base.specs.declared.notices.Frame.TheVariants as frame
use Rattle.cf_model.specs.Arrows.{Arrow, noted, one, ret, then_do, unit}
use Rattle.cf_model.specs.Books.{QueueEntry}
use Rattle.cf_model.specs.Callbacks.{drain}
use Rattle.cf_model.specs.Messages.{act_on, come, is_stale, message_at}
use Rattle.cf_model.specs.Numbers.{most}
use Rattle.cf_model.specs.Pushes.{push_all}
use Rattle.cf_model.specs.Skips.{with_volatile}
use Rattle.cf_model.specs.State.{State, book_now}
use Rattle.cf_model.specs.Trees.{Tree, Ret}
use Rattle.cf_model.proofs.CallbacksKeep as callbacks_keep
use Rattle.cf_model.proofs.MessagesKeep as messages_keep
use Rattle.cf_model.proofs.PushesKeep as pushes_keep
use Rattle.cf_model.proofs.SkipsKeep as skips_keep
use Rattle.cf_model.specs.Passes.{arrive, arrive_frame, ask_feed, connected, deliver, deliver_frame, deliver_now, deliver_reply, deliver_unless, feed_if, feed_of, is_down, is_last, no_message, pass, pass_anew, passes, send_feed, settle_all, settle_entry, show_unsettled, showing, sync, sync_now, sync_passes, things, try_round, unless_down, unsettled, was_sent, why_no_round, with_round, without_done, work, work_now}
use Rattle.cf_model.proofs.Closed.{Closed}
use Rattle.cf_model.proofs.ArrowLaws.{keeps_choose, keeps_each, keeps_noted, keeps_one, keeps_reading, keeps_ret, keeps_seq, keeps_then}
use Rattle.cf_model.specs.Trees.{Keeps}
use Rattle.cf_model.proofs.TreeLaws.{keeps_bind}
use Rattle.cf_model.specs.Arrows.{Preserves}

pub settle_entry_keeps : (P : State → Type 0) → Closed P → (x1 : QueueEntry) → Preserves P (settle_entry x1)
settle_entry_keeps P closed e = messages_keep.send_keeps P closed (request.Settle e.token)

pub settle_all_keeps : (P : State → Type 0) → Closed P → Preserves P (settle_all)
settle_all_keeps P closed = record { keeps = λ s i_. ((keeps_each P settle_entry ((book_now s).entries) (settle_entry_keeps P closed))).keeps s i_ }

pub try_round_keeps : (P : State → Type 0) → Closed P → Preserves P (try_round)
try_round_keeps P closed = skips_keep.tried_keeps P closed why_no_round (one (with_volatile with_round)) (keeps_one P (with_volatile with_round) (closed.keeps_volatile_with_round))

pub send_feed_keeps : (P : State → Type 0) → Closed P → Preserves P (send_feed)
send_feed_keeps P closed = record { keeps = λ s i_. ((messages_keep.send_keeps P closed (feed_of s))).keeps s i_ }

pub feed_if_keeps : (P : State → Type 0) → Closed P → (x1 : Bool) → Preserves P (feed_if x1)
feed_if_keeps P closed true = send_feed_keeps P closed
feed_if_keeps P closed false = keeps_ret P unit

pub ask_feed_keeps : (P : State → Type 0) → Closed P → Preserves P (ask_feed)
ask_feed_keeps P closed = keeps_seq P try_round feed_if (try_round_keeps P closed) (feed_if_keeps P closed)

pub pass_keeps : (P : State → Type 0) → Closed P → Preserves P (pass)
pass_keeps P closed = keeps_then P settle_all (then_do ask_feed push_all) (settle_all_keeps P closed) (keeps_then P ask_feed push_all (ask_feed_keeps P closed) (pushes_keep.push_all_keeps P closed))

pub unless_down_keeps : (P : State → Type 0) → Closed P → (x1 : Arrow State Shown) → (Preserves P (x1)) → (x2 : Bool) → Preserves P (unless_down x1 x2)
unless_down_keeps P closed f f_keeps true = keeps_ret P (shown.Refused code.ProviderDown)
unless_down_keeps P closed f f_keeps false = f_keeps

pub connected_keeps : (P : State → Type 0) → Closed P → (x1 : Arrow State Shown) → (Preserves P (x1)) → Preserves P (connected x1)
connected_keeps P closed f f_keeps = keeps_reading P is_down (unless_down f) (unless_down_keeps P closed f f_keeps)

pub work_now_keeps : (P : State → Type 0) → Closed P → Preserves P (work_now)
work_now_keeps P closed = keeps_then P (noted showing) (then_do pass (then_do drain (ret shown.Done))) (keeps_noted P showing (closed.keeps_showing)) (keeps_then P pass (then_do drain (ret shown.Done)) (pass_keeps P closed) (keeps_then P drain (ret shown.Done) (callbacks_keep.drain_keeps P closed) (keeps_ret P shown.Done)))

pub work_keeps : (P : State → Type 0) → Closed P → Preserves P (work)
work_keeps P closed = connected_keeps P closed work_now (work_now_keeps P closed)

pub pass_anew_keeps : (P : State → Type 0) → Closed P → Preserves P (pass_anew)
pass_anew_keeps P closed = record { keeps = λ s i_. ((pass_keeps P closed)).keeps (without_done s) ((closed.keeps_without_done) s i_) }

again_keeps : (P : State → Type 0) (closed : Closed P) (n l made : ℕ) → Preserves P (passes n l (made + 1)) → (last : Bool) (t : State) → P t
    → Keeps P (elim last as (λ _. Tree State (Unit {0})) [ true ↦ Ret unit t | false ↦ passes n l (made + 1) t ])
again_keeps P closed n l made k true t j = j
again_keeps P closed n l made k false t j = k.keeps t j

pub passes_keeps : (P : State → Type 0) → Closed P → (n l made : ℕ) → Preserves P (passes n l made)
passes_keeps P closed zero l made = record { keeps = λ s i. i }
passes_keeps P closed (suc n) l made = record {
  keeps = λ s i. keeps_bind P (pass_anew s) (λ _ t. elim (is_last l made s t) as (λ _. Tree State (Unit {0})) [ true ↦ Ret unit t | false ↦ passes n l (made + 1) t ])
      ((pass_anew_keeps P closed).keeps s i) (λ u t j. again_keeps P closed n l made (passes_keeps P closed n l (made + 1)) (is_last l made s t) t j);
}

pub sync_passes_keeps : (P : State → Type 0) → Closed P → Preserves P (sync_passes)
sync_passes_keeps P closed = record { keeps = λ s i_. ((keeps_choose P s.link.inline (passes most (things s) 0) pass (passes_keeps P closed most (things s) 0) (pass_keeps P closed))).keeps s i_ }

pub show_unsettled_keeps : (P : State → Type 0) → Closed P → Preserves P (show_unsettled)
show_unsettled_keeps P closed = record { keeps = λ s i_. ((keeps_ret P (shown.Count (unsettled s)))).keeps s i_ }

pub sync_now_keeps : (P : State → Type 0) → Closed P → Preserves P (sync_now)
sync_now_keeps P closed = keeps_then P (noted showing) (then_do sync_passes (then_do drain show_unsettled)) (keeps_noted P showing (closed.keeps_showing)) (keeps_then P sync_passes (then_do drain show_unsettled) (sync_passes_keeps P closed) (keeps_then P drain show_unsettled (callbacks_keep.drain_keeps P closed) (show_unsettled_keeps P closed)))

pub sync_keeps : (P : State → Type 0) → Closed P → Preserves P (sync)
sync_keeps P closed = connected_keeps P closed sync_now (sync_now_keeps P closed)

pub no_message_keeps : (P : State → Type 0) → Closed P → Preserves P (no_message)
no_message_keeps P closed = keeps_ret P (shown.Refused code.NoMessage)

pub was_sent_keeps : (P : State → Type 0) → Closed P → (x1 : Option Reply) → Preserves P (was_sent x1)
was_sent_keeps P closed r = keeps_ret P shown.Done

pub arrive_frame_keeps : (P : State → Type 0) → Closed P → (x1 : ℕ) → (x2 : Option Frame) → Preserves P (arrive_frame x1 x2)
arrive_frame_keeps P closed m (Some (frame.Request q)) = keeps_seq P (come m q) was_sent (messages_keep.come_keeps P closed m q) (was_sent_keeps P closed)
arrive_frame_keeps P closed m (Some (frame.Reply answers r)) = no_message_keeps P closed
arrive_frame_keeps P closed m None = no_message_keeps P closed

pub arrive_keeps : (P : State → Type 0) → Closed P → (x1 : ℕ) → Preserves P (arrive x1)
arrive_keeps P closed m = record { keeps = λ s i_. ((arrive_frame_keeps P closed m (message_at s m))).keeps s i_ }

pub deliver_unless_keeps : (P : State → Type 0) → Closed P → (x1 : Reply) → (x2 : Bool) → Preserves P (deliver_unless x1 x2)
deliver_unless_keeps P closed r true = keeps_ret P (shown.Refused code.Stale)
deliver_unless_keeps P closed r false = keeps_then P (noted showing) (then_do (act_on r) (then_do drain (ret shown.Done))) (keeps_noted P showing (closed.keeps_showing)) (keeps_then P (act_on r) (then_do drain (ret shown.Done)) (messages_keep.act_on_keeps P closed r) (keeps_then P drain (ret shown.Done) (callbacks_keep.drain_keeps P closed) (keeps_ret P shown.Done)))

pub deliver_reply_keeps : (P : State → Type 0) → Closed P → (x1 : Reply) → (x2 : Option Frame) → Preserves P (deliver_reply x1 x2)
deliver_reply_keeps P closed r (Some (frame.Request q)) = keeps_reading P (is_stale q r) (deliver_unless r) (deliver_unless_keeps P closed r)
deliver_reply_keeps P closed r (Some (frame.Reply answers other)) = keeps_ret P (shown.Refused code.Stale)
deliver_reply_keeps P closed r None = keeps_ret P (shown.Refused code.Stale)

pub deliver_frame_keeps : (P : State → Type 0) → Closed P → (x1 : Option Frame) → Preserves P (deliver_frame x1)
deliver_frame_keeps P closed (Some (frame.Reply answers r)) = record { keeps = λ s i_. ((deliver_reply_keeps P closed r (message_at s answers))).keeps s i_ }
deliver_frame_keeps P closed (Some (frame.Request q)) = record { keeps = λ s i_. ((no_message_keeps P closed)).keeps s i_ }
deliver_frame_keeps P closed None = record { keeps = λ s i_. ((no_message_keeps P closed)).keeps s i_ }

pub deliver_now_keeps : (P : State → Type 0) → Closed P → (x1 : ℕ) → Preserves P (deliver_now x1)
deliver_now_keeps P closed m = record { keeps = λ s i_. ((deliver_frame_keeps P closed (message_at s m))).keeps s i_ }

pub deliver_keeps : (P : State → Type 0) → Closed P → (x1 : ℕ) → Preserves P (deliver x1)
deliver_keeps P closed m = connected_keeps P closed (deliver_now m) (deliver_now_keeps P closed m)
