-- The parts of `Passes` keep identities named.
use Rattle.std.specs.Prelude.{ℕ, zero, suc, Bool, true, false, Option, Some, None, ◌+◌}
use Rattle.cf_base.specs.declared.answers.Shown.{Shown}
use Rattle.cf_base.specs.declared.answers.Shown.TheVariants as shown
use Rattle.cf_base.specs.declared.codes.Code.TheVariants as code
use Rattle.cf_base.specs.declared.messages.Reply.{Reply}
use Rattle.cf_base.specs.declared.messages.Request.TheVariants as request
use Rattle.cf_base.specs.declared.notices.Frame.{Frame}
use Rattle.cf_base.specs.declared.notices.Frame.TheVariants as frame
use Rattle.cf_model.specs.Arrows.{Arrow, noted, one, Preserves, ret, then_do, unit}
use Rattle.cf_model.specs.Books.{QueueEntry}
use Rattle.cf_model.specs.Callbacks.{drain}
use Rattle.cf_model.specs.Messages.{act_on, come, is_stale, message_at}
use Rattle.cf_model.specs.Numbers.{most}
use Rattle.cf_model.specs.Passes.{arrive, arrive_frame, ask_feed, connected, deliver, deliver_frame, deliver_now, deliver_reply, deliver_unless, feed_if, feed_of, is_down, is_last, no_message, pass, pass_anew, passes, send_feed, settle_all, settle_entry, show_unsettled, showing, sync, sync_now, sync_passes, things, try_round, unless_down, unsettled, was_sent, why_no_round, with_round, without_done, work, work_now}
use Rattle.cf_model.specs.Pushes.{push_all}
use Rattle.cf_model.specs.Skips.{with_volatile}
use Rattle.cf_model.specs.State.{book_now, State}
use Rattle.cf_model.specs.Trees.{Keeps, Ret, Tree}
use Rattle.cf_model.proofs.ArrowLaws.{keeps_choose, keeps_each, keeps_noted, keeps_one, keeps_reading, keeps_ret, keeps_seq, keeps_then}
use Rattle.cf_model.proofs.TreeLaws.{keeps_bind}
use Rattle.cf_pair_identities.specs.Named.{Named}
use Rattle.cf_pair_identities.proofs.CallbacksNamed as callbacks_named
use Rattle.cf_pair_identities.proofs.MessagesNamed as messages_named
use Rattle.cf_pair_identities.proofs.PushesNamed as pushes_named
use Rattle.cf_pair_identities.proofs.SkipsNamed as skips_named

pub settle_entry_keeps : (full : Bool) → (x1 : QueueEntry) → Preserves (Named full) (settle_entry x1)
settle_entry_keeps full e = messages_named.send_keeps full (request.Settle e.token)

pub settle_all_keeps : (full : Bool) → Preserves (Named full) (settle_all)
settle_all_keeps full = record { keeps = λ s h. (keeps_each (Named full) settle_entry ((book_now s).entries) (settle_entry_keeps full)).keeps s h }

pub try_round_keeps : (full : Bool) → Preserves (Named full) (try_round)
try_round_keeps full = skips_named.tried_keeps full why_no_round (one (with_volatile with_round)) (keeps_one (Named full) (with_volatile with_round) (λ s h. h))

pub send_feed_keeps : (full : Bool) → Preserves (Named full) (send_feed)
send_feed_keeps full = record { keeps = λ s h. (messages_named.send_keeps full (feed_of s)).keeps s h }

pub feed_if_keeps : (full : Bool) → (x1 : Bool) → Preserves (Named full) (feed_if x1)
feed_if_keeps full true = send_feed_keeps full
feed_if_keeps full false = keeps_ret (Named full) unit

pub ask_feed_keeps : (full : Bool) → Preserves (Named full) (ask_feed)
ask_feed_keeps full = keeps_seq (Named full) try_round feed_if (try_round_keeps full) (feed_if_keeps full)

pub pass_keeps : (full : Bool) → Preserves (Named full) (pass)
pass_keeps full = keeps_then (Named full) settle_all (then_do ask_feed push_all) (settle_all_keeps full) (keeps_then (Named full) ask_feed push_all (ask_feed_keeps full) (pushes_named.push_all_keeps full))

pub unless_down_keeps : (full : Bool) → (x1 : Arrow State Shown) → (Preserves (Named full) (x1)) → (x2 : Bool) → Preserves (Named full) (unless_down x1 x2)
unless_down_keeps full f f_keeps true = keeps_ret (Named full) (shown.Refused code.ProviderDown)
unless_down_keeps full f f_keeps false = f_keeps

pub connected_keeps : (full : Bool) → (x1 : Arrow State Shown) → (Preserves (Named full) (x1)) → Preserves (Named full) (connected x1)
connected_keeps full f f_keeps = keeps_reading (Named full) is_down (unless_down f) (unless_down_keeps full f f_keeps)

pub work_now_keeps : (full : Bool) → Preserves (Named full) (work_now)
work_now_keeps full =
    keeps_then (Named full) (noted showing) (then_do pass (then_do drain (ret shown.Done)))
    (keeps_noted (Named full) showing (λ s h. h))
    (keeps_then (Named full) pass (then_do drain (ret shown.Done)) (pass_keeps full) (keeps_then (Named full) drain (ret shown.Done) (callbacks_named.drain_keeps full) (keeps_ret (Named full) shown.Done)))

pub work_keeps : (full : Bool) → Preserves (Named full) (work)
work_keeps full = connected_keeps full work_now (work_now_keeps full)

pub pass_anew_keeps : (full : Bool) → Preserves (Named full) (pass_anew)
pass_anew_keeps full = record { keeps = λ s h. (pass_keeps full).keeps (without_done s) h }

again_keeps : (full : Bool) (n l made : ℕ) → Preserves (Named full) (passes n l (made + 1)) → (last : Bool) (t : State) → Named full t
    → Keeps (Named full) (elim last as (λ _. Tree State (Unit {0})) [ true ↦ Ret unit t | false ↦ passes n l (made + 1) t ])
again_keeps full n l made k true t j = j
again_keeps full n l made k false t j = k.keeps t j

pub passes_keeps : (full : Bool) → (n l made : ℕ) → Preserves (Named full) (passes n l made)
passes_keeps full zero l made = record { keeps = λ s i. i }
passes_keeps full (suc n) l made = record {
  keeps = λ s i. keeps_bind (Named full) (pass_anew s) (λ _ t. elim (is_last l made s t) as (λ _. Tree State (Unit {0})) [ true ↦ Ret unit t | false ↦ passes n l (made + 1) t ])
      ((pass_anew_keeps full).keeps s i) (λ u t j. again_keeps full n l made (passes_keeps full n l (made + 1)) (is_last l made s t) t j);
}

pub sync_passes_keeps : (full : Bool) → Preserves (Named full) (sync_passes)
sync_passes_keeps full = record { keeps = λ s h. (keeps_choose (Named full) s.link.inline (passes most (things s) 0) pass (passes_keeps full most (things s) 0) (pass_keeps full)).keeps s h }

pub show_unsettled_keeps : (full : Bool) → Preserves (Named full) (show_unsettled)
show_unsettled_keeps full = record { keeps = λ s h. (keeps_ret (Named full) (shown.Count (unsettled s))).keeps s h }

pub sync_now_keeps : (full : Bool) → Preserves (Named full) (sync_now)
sync_now_keeps full =
    keeps_then (Named full) (noted showing) (then_do sync_passes (then_do drain show_unsettled))
    (keeps_noted (Named full) showing (λ s h. h))
    (keeps_then (Named full) sync_passes (then_do drain show_unsettled) (sync_passes_keeps full) (keeps_then (Named full) drain show_unsettled (callbacks_named.drain_keeps full) (show_unsettled_keeps full)))

pub sync_keeps : (full : Bool) → Preserves (Named full) (sync)
sync_keeps full = connected_keeps full sync_now (sync_now_keeps full)

pub no_message_keeps : (full : Bool) → Preserves (Named full) (no_message)
no_message_keeps full = keeps_ret (Named full) (shown.Refused code.NoMessage)

pub was_sent_keeps : (full : Bool) → (x1 : Option Reply) → Preserves (Named full) (was_sent x1)
was_sent_keeps full r = keeps_ret (Named full) shown.Done

pub arrive_frame_keeps : (full : Bool) → (x1 : ℕ) → (x2 : Option Frame) → Preserves (Named full) (arrive_frame x1 x2)
arrive_frame_keeps full m (Some (frame.Request q)) = keeps_seq (Named full) (come m q) was_sent (messages_named.come_keeps full m q) (was_sent_keeps full)
arrive_frame_keeps full m (Some (frame.Reply answers r)) = no_message_keeps full
arrive_frame_keeps full m None = no_message_keeps full

pub arrive_keeps : (full : Bool) → (x1 : ℕ) → Preserves (Named full) (arrive x1)
arrive_keeps full m = record { keeps = λ s h. (arrive_frame_keeps full m (message_at s m)).keeps s h }

pub deliver_unless_keeps : (full : Bool) → (x1 : Reply) → (x2 : Bool) → Preserves (Named full) (deliver_unless x1 x2)
deliver_unless_keeps full r true = keeps_ret (Named full) (shown.Refused code.Stale)
deliver_unless_keeps full r false =
    keeps_then (Named full) (noted showing) (then_do (act_on r) (then_do drain (ret shown.Done)))
    (keeps_noted (Named full) showing (λ s h. h))
    (keeps_then (Named full) (act_on r) (then_do drain (ret shown.Done)) (messages_named.act_on_keeps full r) (keeps_then (Named full) drain (ret shown.Done) (callbacks_named.drain_keeps full) (keeps_ret (Named full) shown.Done)))

pub deliver_reply_keeps : (full : Bool) → (x1 : Reply) → (x2 : Option Frame) → Preserves (Named full) (deliver_reply x1 x2)
deliver_reply_keeps full r (Some (frame.Request q)) = keeps_reading (Named full) (is_stale q r) (deliver_unless r) (deliver_unless_keeps full r)
deliver_reply_keeps full r (Some (frame.Reply answers other)) = keeps_ret (Named full) (shown.Refused code.Stale)
deliver_reply_keeps full r None = keeps_ret (Named full) (shown.Refused code.Stale)

pub deliver_frame_keeps : (full : Bool) → (x1 : Option Frame) → Preserves (Named full) (deliver_frame x1)
deliver_frame_keeps full (Some (frame.Reply answers r)) = record { keeps = λ s h. (deliver_reply_keeps full r (message_at s answers)).keeps s h }
deliver_frame_keeps full (Some (frame.Request q)) = record { keeps = λ s h. (no_message_keeps full).keeps s h }
deliver_frame_keeps full None = record { keeps = λ s h. (no_message_keeps full).keeps s h }

pub deliver_now_keeps : (full : Bool) → (x1 : ℕ) → Preserves (Named full) (deliver_now x1)
deliver_now_keeps full m = record { keeps = λ s h. (deliver_frame_keeps full (message_at s m)).keeps s h }

pub deliver_keeps : (full : Bool) → (x1 : ℕ) → Preserves (Named full) (deliver x1)
deliver_keeps full m = connected_keeps full (deliver_now m) (deliver_now_keeps full m)
