-- The parts of `Passes` are sure, each by its own parts.
use Rattle.std.proofs.Common.{refl}
use Rattle.std.specs.Prelude.{ℕ, zero, suc, Bool, true, false, Option, Some, None, ◌+◌}
use Rattle.cf_base.specs.declared.answers.Shown.{Shown}
use Rattle.cf_base.specs.declared.answers.Shown.TheVariants as shown
use Rattle.cf_base.specs.declared.codes.Code.TheVariants as code
use Rattle.cf_base.specs.declared.messages.Reply.{Reply}
use Rattle.cf_base.specs.declared.messages.Request.TheVariants as request
use Rattle.cf_base.specs.declared.notices.Frame.{Frame}
use Rattle.cf_base.specs.declared.notices.Frame.TheVariants as frame
use Rattle.cf_model.specs.Arrows.{Arrow, choose, each, noted, one, ret, then_do, unit}
use Rattle.cf_model.specs.Books.{QueueEntry}
use Rattle.cf_model.specs.Callbacks.{drain}
use Rattle.cf_model.specs.Messages.{act_on, come, is_stale, message_at, send}
use Rattle.cf_model.specs.Numbers.{most}
use Rattle.cf_model.specs.Pushes.{push_all}
use Rattle.cf_model.specs.Skips.{with_volatile}
use Rattle.cf_model.specs.State.{State, book_now}
use Rattle.cf_model.specs.Trees.{Ret, Tree}
use Rattle.cf_model.specs.Passes.{arrive, arrive_frame, ask_feed, connected, deliver, deliver_frame, deliver_now, deliver_reply, deliver_unless, feed_if, feed_of, is_down, is_last, no_message, pass, pass_anew, passes, send_feed, settle_all, settle_entry, show_unsettled, showing, sync, sync_now, sync_passes, things, try_round, unless_down, unsettled, was_sent, why_no_round, with_round, without_done, work, work_now}
use Rattle.cf_check_ways.specs.Ways.{IsSure, of_state}
use Rattle.cf_check_ways.proofs.Sure.{plain_quiet, reads_fixed, sure_choose, sure_each, sure_fixed, sure_noted, sure_one, sure_reading, sure_ret, sure_seq, sure_then}
use Rattle.cf_check_ways.proofs.StateSteps.{volatile_plain}
use Rattle.cf_check_ways.proofs.CallbacksSure as callbacks_sure
use Rattle.cf_check_ways.proofs.MessagesSure as messages_sure
use Rattle.cf_check_ways.proofs.PushesSure as pushes_sure
use Rattle.cf_check_ways.proofs.SkipsSure as skips_sure

pub settle_entry_sure : (x1 : QueueEntry) → IsSure of_state (settle_entry x1)
settle_entry_sure e = messages_sure.send_sure (request.Settle e.token)

pub settle_all_sure : IsSure of_state (settle_all)
settle_all_sure = sure_fixed of_state settle_all (λ x. each settle_entry ((book_now x).entries)) (λ s. refl) (λ x. sure_each of_state settle_entry ((book_now x).entries) (settle_entry_sure))

pub try_round_sure : IsSure of_state (try_round)
try_round_sure = skips_sure.tried_sure why_no_round (one (with_volatile with_round)) (reads_fixed of_state why_no_round (λ s. refl)) (sure_one of_state (with_volatile with_round) (volatile_plain with_round))

pub send_feed_sure : IsSure of_state (send_feed)
send_feed_sure = sure_fixed of_state send_feed (λ x. send (feed_of x)) (λ s. refl) (λ x. messages_sure.send_sure (feed_of x))

pub feed_if_sure : (x1 : Bool) → IsSure of_state (feed_if x1)
feed_if_sure true = send_feed_sure
feed_if_sure false = sure_ret of_state unit

pub ask_feed_sure : IsSure of_state (ask_feed)
ask_feed_sure = sure_seq of_state try_round feed_if (try_round_sure) (feed_if_sure)

pub pass_sure : IsSure of_state (pass)
pass_sure = sure_then of_state settle_all (then_do ask_feed push_all) (settle_all_sure) (sure_then of_state ask_feed push_all (ask_feed_sure) (pushes_sure.push_all_sure))

pub unless_down_sure : (x1 : Arrow State Shown) → (IsSure of_state (x1)) → (x2 : Bool) → IsSure of_state (unless_down x1 x2)
unless_down_sure f f_sure true = sure_ret of_state (shown.Refused code.ProviderDown)
unless_down_sure f f_sure false = f_sure

pub connected_sure : (x1 : Arrow State Shown) → (IsSure of_state (x1)) → IsSure of_state (connected x1)
connected_sure f f_sure = sure_reading of_state is_down (unless_down f) (reads_fixed of_state is_down (λ s. refl)) (unless_down_sure f f_sure)

pub work_now_sure : IsSure of_state (work_now)
work_now_sure = sure_then of_state (noted showing) (then_do pass (then_do drain (ret shown.Done))) (sure_noted of_state showing (plain_quiet of_state showing (λ s. refl) (λ s. refl) (λ s. refl) (λ s. refl) (λ s. refl) (λ s. refl))) (sure_then of_state pass (then_do drain (ret shown.Done)) (pass_sure) (sure_then of_state drain (ret shown.Done) (callbacks_sure.drain_sure) (sure_ret of_state shown.Done)))

pub work_sure : IsSure of_state (work)
work_sure = connected_sure work_now (work_now_sure)

pub pass_anew_sure : IsSure of_state (pass_anew)
pass_anew_sure = sure_fixed of_state pass_anew (λ x. then_do (noted without_done) pass) (λ s. refl) (λ x. sure_then of_state (noted without_done) pass (sure_noted of_state without_done (plain_quiet of_state without_done (λ s. refl) (λ s. refl) (λ s. refl) (λ s. refl) (λ s. refl) (λ s. refl))) pass_sure)

abbrev again : ℕ → ℕ → ℕ → Bool → Arrow State (Unit {0})
again fuel l made last t = elim last as (λ _. Tree State (Unit {0})) [ true ↦ Ret unit t | false ↦ passes fuel l (made + 1) t ]

again_sure : (fuel l made : ℕ) → IsSure of_state (passes fuel l (made + 1)) → (last : Bool) → IsSure of_state (again fuel l made last)
again_sure fuel l made k true = sure_fixed of_state (again fuel l made true) (λ x. ret unit) (λ s. refl) (λ x. sure_ret of_state unit)
again_sure fuel l made k false = sure_fixed of_state (again fuel l made false) (λ x. passes fuel l (made + 1)) (λ s. refl) (λ x. k)

pub passes_sure : (fuel l made : ℕ) → IsSure of_state (passes fuel l made)
passes_sure zero l made = sure_fixed of_state (passes zero l made) (λ x. ret unit) (λ s. refl) (λ x. sure_ret of_state unit)
passes_sure (suc fuel) l made =
    sure_fixed of_state (passes (suc fuel) l made) (λ x. then_do pass_anew (λ t. again fuel l made (is_last l made x t) t)) (λ s. refl)
    (λ x. sure_then of_state pass_anew (λ t. again fuel l made (is_last l made x t) t) pass_anew_sure
    (sure_fixed of_state (λ t. again fuel l made (is_last l made x t) t) (λ y. again fuel l made (is_last l made x y)) (λ t. refl) (λ y. again_sure fuel l made (passes_sure fuel l (made + 1)) (is_last l made x y))))

pub sync_passes_sure : IsSure of_state (sync_passes)
sync_passes_sure = sure_fixed of_state sync_passes (λ x. choose x.link.inline (passes most (things x) 0) pass) (λ s. refl) (λ x. sure_choose of_state x.link.inline (passes most (things x) 0) pass (passes_sure most (things x) 0) (pass_sure))

pub show_unsettled_sure : IsSure of_state (show_unsettled)
show_unsettled_sure = sure_fixed of_state show_unsettled (λ x. ret (shown.Count (unsettled x))) (λ s. refl) (λ x. sure_ret of_state (shown.Count (unsettled x)))

pub sync_now_sure : IsSure of_state (sync_now)
sync_now_sure = sure_then of_state (noted showing) (then_do sync_passes (then_do drain show_unsettled)) (sure_noted of_state showing (plain_quiet of_state showing (λ s. refl) (λ s. refl) (λ s. refl) (λ s. refl) (λ s. refl) (λ s. refl))) (sure_then of_state sync_passes (then_do drain show_unsettled) (sync_passes_sure) (sure_then of_state drain show_unsettled (callbacks_sure.drain_sure) (show_unsettled_sure)))

pub sync_sure : IsSure of_state (sync)
sync_sure = connected_sure sync_now (sync_now_sure)

pub no_message_sure : IsSure of_state (no_message)
no_message_sure = sure_ret of_state (shown.Refused code.NoMessage)

pub was_sent_sure : (x1 : Option Reply) → IsSure of_state (was_sent x1)
was_sent_sure r = sure_ret of_state shown.Done

pub arrive_frame_sure : (x1 : ℕ) → (x2 : Option Frame) → IsSure of_state (arrive_frame x1 x2)
arrive_frame_sure m (Some (frame.Request q)) = sure_seq of_state (come m q) was_sent (messages_sure.come_sure m q) (was_sent_sure)
arrive_frame_sure m (Some (frame.Reply answers r)) = no_message_sure
arrive_frame_sure m None = no_message_sure

pub arrive_sure : (x1 : ℕ) → IsSure of_state (arrive x1)
arrive_sure m = sure_fixed of_state (arrive m) (λ x. arrive_frame m (message_at x m)) (λ s. refl) (λ x. arrive_frame_sure m (message_at x m))

pub deliver_unless_sure : (x1 : Reply) → (x2 : Bool) → IsSure of_state (deliver_unless x1 x2)
deliver_unless_sure r true = sure_ret of_state (shown.Refused code.Stale)
deliver_unless_sure r false = sure_then of_state (noted showing) (then_do (act_on r) (then_do drain (ret shown.Done))) (sure_noted of_state showing (plain_quiet of_state showing (λ s. refl) (λ s. refl) (λ s. refl) (λ s. refl) (λ s. refl) (λ s. refl))) (sure_then of_state (act_on r) (then_do drain (ret shown.Done)) (messages_sure.act_on_sure r) (sure_then of_state drain (ret shown.Done) (callbacks_sure.drain_sure) (sure_ret of_state shown.Done)))

pub deliver_reply_sure : (x1 : Reply) → (x2 : Option Frame) → IsSure of_state (deliver_reply x1 x2)
deliver_reply_sure r (Some (frame.Request q)) = sure_reading of_state (is_stale q r) (deliver_unless r) (reads_fixed of_state (is_stale q r) (λ s. refl)) (deliver_unless_sure r)
deliver_reply_sure r (Some (frame.Reply answers other)) = sure_ret of_state (shown.Refused code.Stale)
deliver_reply_sure r None = sure_ret of_state (shown.Refused code.Stale)

pub deliver_frame_sure : (x1 : Option Frame) → IsSure of_state (deliver_frame x1)
deliver_frame_sure (Some (frame.Reply answers r)) = sure_fixed of_state (deliver_frame (Some (frame.Reply answers r))) (λ x. deliver_reply r (message_at x answers)) (λ s. refl) (λ x. deliver_reply_sure r (message_at x answers))
deliver_frame_sure (Some (frame.Request q)) = sure_fixed of_state (deliver_frame (Some (frame.Request q))) (λ x. no_message) (λ s. refl) (λ x. no_message_sure)
deliver_frame_sure None = sure_fixed of_state (deliver_frame None) (λ x. no_message) (λ s. refl) (λ x. no_message_sure)

pub deliver_now_sure : (x1 : ℕ) → IsSure of_state (deliver_now x1)
deliver_now_sure m = sure_fixed of_state (deliver_now m) (λ x. deliver_frame (message_at x m)) (λ s. refl) (λ x. deliver_frame_sure (message_at x m))

pub deliver_sure : (x1 : ℕ) → IsSure of_state (deliver x1)
deliver_sure m = connected_sure (deliver_now m) (deliver_now_sure m)
