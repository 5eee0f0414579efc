-- The parts of `Messages` keep identities named.
use Rattle.std.specs.Prelude.{ℕ, Bool, true, false, length, Option, Some, None}
use Rattle.cf_base.specs.declared.messages.Reply.{Reply}
use Rattle.cf_base.specs.declared.messages.Reply.TheVariants as reply
use Rattle.cf_base.specs.declared.messages.Request.{Request}
use Rattle.cf_base.specs.declared.notices.Frame.{Frame}
use Rattle.cf_base.specs.declared.notices.Frame.TheVariants as frame
use Rattle.cf_model.specs.Arrows.{Arrow, one, Preserves, then_do, unit}
use Rattle.cf_model.specs.Books.{QueueEntry}
use Rattle.cf_model.specs.Messages.{act_on, act_unless, after_post, answered, ask, come, come_if, come_now, entry_live, failed, fault_line, if_kept, is_inline, is_stale, is_upload, no_bytes, no_number, post, post_by, post_unless, send, send_now, take_if_any, take_reply, was_kept, with_entry, with_lost, with_message}
use Rattle.cf_model.specs.Points.{commit}
use Rattle.cf_model.specs.PushReplies.{take_done, take_refused, take_void}
use Rattle.cf_model.specs.State.{in_filter, in_volume, State}
use Rattle.cf_model.proofs.ArrowLaws.{keeps_choose, keeps_one, keeps_reading, keeps_ret, keeps_seq, keeps_then}
use Rattle.cf_model.proofs.MessagesKeep.{asked_keeps}
use Rattle.cf_pair_identities.specs.Named.{Named}
use Rattle.cf_pair_identities.proofs.FeedsNamed as feeds_named
use Rattle.cf_pair_identities.proofs.FetchingNamed as fetching_named
use Rattle.cf_pair_identities.proofs.NamedSteps.{commits_named, in_filter_keeps}
use Rattle.cf_pair_identities.proofs.PushRepliesNamed as push_replies_named

pub ask_keeps : (full : Bool) → (q : Request) → Preserves (Named full) (ask q)
ask_keeps full q = asked_keeps (Named full) (λ s h. h) (λ held s h. h) (λ s h. h) q

pub was_kept_keeps : (full : Bool) → (x1 : Bool) → (x2 : Unit {0}) → Preserves (Named full) (was_kept x1 x2)
was_kept_keeps full kept u = keeps_ret (Named full) kept

pub post_by_keeps : (full : Bool) → (x1 : Frame) → (x2 : Bool) → Preserves (Named full) (post_by x1 x2)
post_by_keeps full f true = keeps_seq (Named full) (one (with_lost f)) (was_kept false) (keeps_one (Named full) (with_lost f) (λ s h. h)) (was_kept_keeps full false)
post_by_keeps full f false = keeps_seq (Named full) (one (with_message f)) (was_kept true) (keeps_one (Named full) (with_message f) (λ s h. h)) (was_kept_keeps full true)

pub post_unless_keeps : (full : Bool) → (x1 : Frame) → (x2 : Bool) → Preserves (Named full) (post_unless x1 x2)
post_unless_keeps full f true = keeps_ret (Named full) false
post_unless_keeps full f false = keeps_reading (Named full) (no_bytes f) (post_by f) (post_by_keeps full f)

pub post_keeps : (full : Bool) → (x1 : Frame) → Preserves (Named full) (post x1)
post_keeps full f = keeps_reading (Named full) no_number (post_unless f) (post_unless_keeps full f)

pub failed_keeps : (full : Bool) → (x1 : Unit {0}) → Preserves (Named full) (failed x1)
failed_keeps full u = keeps_ret (Named full) None

pub if_kept_keeps : (full : Bool) → (x1 : Reply) → (x2 : Bool) → Preserves (Named full) (if_kept x1 x2)
if_kept_keeps full r true = keeps_ret (Named full) (Some r)
if_kept_keeps full r false = keeps_ret (Named full) None

pub answered_keeps : (full : Bool) → (x1 : ℕ) → (x2 : Option Reply) → Preserves (Named full) (answered x1 x2)
answered_keeps full m None = keeps_seq (Named full) (one (fault_line m)) failed (keeps_one (Named full) (fault_line m) (λ s h. h)) (failed_keeps full)
answered_keeps full m (Some r) = keeps_seq (Named full) (post (frame.Reply m r)) (if_kept r) (post_keeps full (frame.Reply m r)) (if_kept_keeps full r)

pub come_keeps : (full : Bool) → (x1 : ℕ) → (x2 : Request) → Preserves (Named full) (come x1 x2)
come_keeps full m q = keeps_seq (Named full) (ask q) (answered m) (ask_keeps full q) (answered_keeps full m)

pub with_entry_keeps : (full : Bool) → (x1 : (QueueEntry → Arrow State (Unit {0}))) → ((z0_0 : QueueEntry) → Preserves (Named full) (x1 z0_0)) → (x2 : Option QueueEntry) → Preserves (Named full) (with_entry x1 x2)
with_entry_keeps full f f_keeps None = keeps_ret (Named full) unit
with_entry_keeps full f f_keeps (Some e) = f_keeps e

pub act_on_keeps : (full : Bool) → (x1 : Reply) → Preserves (Named full) (act_on x1)
act_on_keeps full (reply.Feed round clock es) = record { keeps = λ s h. (feeds_named.apply_feed_keeps full clock es).keeps s h }
act_on_keeps full (reply.Listing key es) = record { keeps = λ s h. (fetching_named.take_listing_keeps full key es).keeps s h }
act_on_keeps full (reply.Bytes key start bytes) = record { keeps = λ s h. (fetching_named.take_bytes_keeps full key start bytes).keeps s h }
act_on_keeps full (reply.Missing key) = record { keeps = λ s h. (fetching_named.take_missing_keeps full key).keeps s h }
act_on_keeps full (reply.Done token rid version) = record { keeps = λ s h. (with_entry_keeps full (λ e. take_done e rid version) (λ e. (push_replies_named.take_done_keeps full e rid version)) (entry_live s token)).keeps s h }
act_on_keeps full (reply.Void token) = record { keeps = λ s h. (with_entry_keeps full take_void (push_replies_named.take_void_keeps full) (entry_live s token)).keeps s h }
act_on_keeps full (reply.Refused token w version) = record { keeps = λ s h. (with_entry_keeps full (λ e. take_refused e w) (λ e. (push_replies_named.take_refused_keeps full e w)) (entry_live s token)).keeps s h }
act_on_keeps full (reply.Gone key) = record { keeps = λ s h. (fetching_named.take_gone_keeps full key).keeps s h }

pub act_unless_keeps : (full : Bool) → (x1 : Reply) → (x2 : Bool) → Preserves (Named full) (act_unless x1 x2)
act_unless_keeps full r true = keeps_ret (Named full) unit
act_unless_keeps full r false = act_on_keeps full r

pub take_reply_keeps : (full : Bool) → (x1 : Request) → (x2 : Reply) → Preserves (Named full) (take_reply x1 x2)
take_reply_keeps full q r = keeps_reading (Named full) (is_stale q r) (act_unless r) (act_unless_keeps full r)

pub take_if_any_keeps : (full : Bool) → (x1 : Request) → (x2 : Option Reply) → Preserves (Named full) (take_if_any x1 x2)
take_if_any_keeps full q None = keeps_ret (Named full) unit
take_if_any_keeps full q (Some r) = take_reply_keeps full q r

pub come_now_keeps : (full : Bool) → (x1 : Request) → Preserves (Named full) (come_now x1)
come_now_keeps full q = record { keeps = λ s h. (keeps_seq (Named full) (come (length s.link.messages) q) (take_if_any q) (come_keeps full (length s.link.messages) q) (take_if_any_keeps full q)).keeps s h }

pub come_if_keeps : (full : Bool) → (x1 : Request) → (x2 : Bool) → Preserves (Named full) (come_if x1 x2)
come_if_keeps full q true = come_now_keeps full q
come_if_keeps full q false = keeps_ret (Named full) unit

pub after_post_keeps : (full : Bool) → (x1 : Request) → (x2 : Bool) → Preserves (Named full) (after_post x1 x2)
after_post_keeps full q true = keeps_reading (Named full) is_inline (come_if q) (come_if_keeps full q)
after_post_keeps full q false = keeps_ret (Named full) unit

pub send_now_keeps : (full : Bool) → (x1 : Request) → Preserves (Named full) (send_now x1)
send_now_keeps full q = keeps_seq (Named full) (post (frame.Request q)) (after_post q) (post_keeps full (frame.Request q)) (after_post_keeps full q)

pub send_keeps : (full : Bool) → (x1 : Request) → Preserves (Named full) (send x1)
send_keeps full q =
    keeps_choose (Named full) (is_upload q) (then_do (in_filter (in_volume commit)) (send_now q)) (send_now q)
    (keeps_then (Named full) (in_filter (in_volume commit)) (send_now q) (in_filter_keeps full (in_volume commit) (commits_named full)) (send_now_keeps full q))
    (send_now_keeps full q)
