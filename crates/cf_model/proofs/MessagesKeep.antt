-- What the parts of `Messages` keep, each by what its own parts keep.
use Rattle.std.specs.Prelude.{ℕ, Bool, true, false, length, Option, Some, None}
use Rattle.cf_base.specs.declared.messages.Reply.{Reply}
use Rattle.cf_base.specs.declared.messages.Reply.TheVariants as reply
use Rattle.cf_base.specs.declared.messages.Request.{Request}
use Rattle.cf_base.specs.declared.notices.Frame.{Frame}
use Rattle.cf_base.specs.declared.notices.Frame.TheVariants as frame
use Rattle.cf_model.specs.Arrows.{Arrow, one, then_do, unit}
use Rattle.cf_model.specs.Books.{QueueEntry}
use Rattle.cf_model.specs.Points.{commit}
use Rattle.cf_model.specs.PushReplies.{take_done, take_refused, take_void}
use Rattle.cf_model.specs.State.{State, in_filter, in_volume}
use Rattle.cf_model.specs.Store.{Held, remote_step}
use Rattle.cf_model.specs.Trees.{AsItKeeps, Faults, Telling, Tells}
use Rattle.cf_model.proofs.FeedsKeep as feeds_keep
use Rattle.cf_model.proofs.FetchingKeep as fetching_keep
use Rattle.cf_model.proofs.PushRepliesKeep as push_replies_keep
use Rattle.cf_model.specs.Messages.{act_on, act_unless, after_ask, after_post, answered, ask, come, come_if, come_now, counted, distrusted, entry_live, failed, fault_line, if_kept, is_inline, is_stale, is_upload, no_bytes, no_number, post, post_by, post_unless, send, send_now, take_if_any, take_reply, was_kept, with_entry, with_lost, with_message, with_remote}
use Rattle.cf_model.proofs.Closed.{Closed}
use Rattle.cf_model.proofs.ArrowLaws.{keeps_choose, keeps_lifted, keeps_one, keeps_reading, keeps_ret, keeps_seq, keeps_then}
use Rattle.cf_model.specs.Trees.{Keeps}
use Rattle.cf_model.specs.Arrows.{Preserves}
use Rattle.cf_model.specs.State.{with_filter}

asked_at : (P : State → Type 0) → ((s : State) → P s → P (counted s)) → ((held : Held) (s : State) → P s → P (with_remote held s)) → ((s : State) → P s → P (distrusted s))
    → (r : Reply × Held) (s : State) (x : Telling) → P s → Keeps P (after_ask r s x)
asked_at P counts puts distrusts r s AsItKeeps h = puts r.1 (counted s) (counts s h)
asked_at P counts puts distrusts r s Faults h = counts s h
asked_at P counts puts distrusts r s (Tells other) h = distrusts (with_remote r.1 (counted s)) (puts r.1 (counted s) (counts s h))

-- a property that any state of the remote keeps
pub asked_keeps : (P : State → Type 0) → ((s : State) → P s → P (counted s)) → ((held : Held) (s : State) → P s → P (with_remote held s)) → ((s : State) → P s → P (distrusted s))
    → (q : Request) → Preserves P (ask q)
asked_keeps P counts puts distrusts q = record { keeps = λ s h x. asked_at P counts puts distrusts (remote_step s.link.remote q) s x h }

pub ask_keeps : (P : State → Type 0) → Closed P → (q : Request) → Preserves P (ask q)
ask_keeps P closed q = closed.asks q

pub was_kept_keeps : (P : State → Type 0) → Closed P → (x1 : Bool) → (x2 : Unit {0}) → Preserves P (was_kept x1 x2)
was_kept_keeps P closed kept u = keeps_ret P kept

pub post_by_keeps : (P : State → Type 0) → Closed P → (x1 : Frame) → (x2 : Bool) → Preserves P (post_by x1 x2)
post_by_keeps P closed f true = keeps_seq P (one (with_lost f)) (was_kept false) (keeps_one P (with_lost f) (closed.keeps_with_lost f)) (was_kept_keeps P closed false)
post_by_keeps P closed f false = keeps_seq P (one (with_message f)) (was_kept true) (keeps_one P (with_message f) (closed.keeps_with_message f)) (was_kept_keeps P closed true)

pub post_unless_keeps : (P : State → Type 0) → Closed P → (x1 : Frame) → (x2 : Bool) → Preserves P (post_unless x1 x2)
post_unless_keeps P closed f true = keeps_ret P false
post_unless_keeps P closed f false = keeps_reading P (no_bytes f) (post_by f) (post_by_keeps P closed f)

pub post_keeps : (P : State → Type 0) → Closed P → (x1 : Frame) → Preserves P (post x1)
post_keeps P closed f = keeps_reading P no_number (post_unless f) (post_unless_keeps P closed f)

pub failed_keeps : (P : State → Type 0) → Closed P → (x1 : Unit {0}) → Preserves P (failed x1)
failed_keeps P closed u = keeps_ret P None

pub if_kept_keeps : (P : State → Type 0) → Closed P → (x1 : Reply) → (x2 : Bool) → Preserves P (if_kept x1 x2)
if_kept_keeps P closed r true = keeps_ret P (Some r)
if_kept_keeps P closed r false = keeps_ret P None

pub answered_keeps : (P : State → Type 0) → Closed P → (x1 : ℕ) → (x2 : Option Reply) → Preserves P (answered x1 x2)
answered_keeps P closed m None = keeps_seq P (one (fault_line m)) failed (keeps_one P (fault_line m) (closed.keeps_fault_line m)) (failed_keeps P closed)
answered_keeps P closed m (Some r) = keeps_seq P (post (frame.Reply m r)) (if_kept r) (post_keeps P closed (frame.Reply m r)) (if_kept_keeps P closed r)

pub come_keeps : (P : State → Type 0) → Closed P → (x1 : ℕ) → (x2 : Request) → Preserves P (come x1 x2)
come_keeps P closed m q = keeps_seq P (ask q) (answered m) (ask_keeps P closed q) (answered_keeps P closed m)

pub with_entry_keeps : (P : State → Type 0) → Closed P → (x1 : (QueueEntry → Arrow State (Unit {0}))) → ((z0_0 : QueueEntry) → Preserves P (x1 z0_0)) → (x2 : Option QueueEntry) → Preserves P (with_entry x1 x2)
with_entry_keeps P closed f f_keeps None = keeps_ret P unit
with_entry_keeps P closed f f_keeps (Some e) = f_keeps e

pub act_on_keeps : (P : State → Type 0) → Closed P → (x1 : Reply) → Preserves P (act_on x1)
act_on_keeps P closed (reply.Feed round clock es) = record { keeps = λ s i_. ((feeds_keep.apply_feed_keeps P closed clock es)).keeps s i_ }
act_on_keeps P closed (reply.Listing key es) = record { keeps = λ s i_. ((fetching_keep.take_listing_keeps P closed key es)).keeps s i_ }
act_on_keeps P closed (reply.Bytes key start bytes) = record { keeps = λ s i_. ((fetching_keep.take_bytes_keeps P closed key start bytes)).keeps s i_ }
act_on_keeps P closed (reply.Missing key) = record { keeps = λ s i_. ((fetching_keep.take_missing_keeps P closed key)).keeps s i_ }
act_on_keeps P closed (reply.Done token rid version) = record { keeps = λ s i_. ((with_entry_keeps P closed (λ e. take_done e rid version) (λ e. (push_replies_keep.take_done_keeps P closed e rid version)) (entry_live s token))).keeps s i_ }
act_on_keeps P closed (reply.Void token) = record { keeps = λ s i_. ((with_entry_keeps P closed take_void (push_replies_keep.take_void_keeps P closed) (entry_live s token))).keeps s i_ }
act_on_keeps P closed (reply.Refused token w version) = record { keeps = λ s i_. ((with_entry_keeps P closed (λ e. take_refused e w) (λ e. (push_replies_keep.take_refused_keeps P closed e w)) (entry_live s token))).keeps s i_ }
act_on_keeps P closed (reply.Gone key) = record { keeps = λ s i_. ((fetching_keep.take_gone_keeps P closed key)).keeps s i_ }

pub act_unless_keeps : (P : State → Type 0) → Closed P → (x1 : Reply) → (x2 : Bool) → Preserves P (act_unless x1 x2)
act_unless_keeps P closed r true = keeps_ret P unit
act_unless_keeps P closed r false = act_on_keeps P closed r

pub take_reply_keeps : (P : State → Type 0) → Closed P → (x1 : Request) → (x2 : Reply) → Preserves P (take_reply x1 x2)
take_reply_keeps P closed q r = keeps_reading P (is_stale q r) (act_unless r) (act_unless_keeps P closed r)

pub take_if_any_keeps : (P : State → Type 0) → Closed P → (x1 : Request) → (x2 : Option Reply) → Preserves P (take_if_any x1 x2)
take_if_any_keeps P closed q None = keeps_ret P unit
take_if_any_keeps P closed q (Some r) = take_reply_keeps P closed q r

pub come_now_keeps : (P : State → Type 0) → Closed P → (x1 : Request) → Preserves P (come_now x1)
come_now_keeps P closed q = record { keeps = λ s i_. ((keeps_seq P (come (length s.link.messages) q) (take_if_any q) (come_keeps P closed (length s.link.messages) q) (take_if_any_keeps P closed q))).keeps s i_ }

pub come_if_keeps : (P : State → Type 0) → Closed P → (x1 : Request) → (x2 : Bool) → Preserves P (come_if x1 x2)
come_if_keeps P closed q true = come_now_keeps P closed q
come_if_keeps P closed q false = keeps_ret P unit

pub after_post_keeps : (P : State → Type 0) → Closed P → (x1 : Request) → (x2 : Bool) → Preserves P (after_post x1 x2)
after_post_keeps P closed q true = keeps_reading P is_inline (come_if q) (come_if_keeps P closed q)
after_post_keeps P closed q false = keeps_ret P unit

pub send_now_keeps : (P : State → Type 0) → Closed P → (x1 : Request) → Preserves P (send_now x1)
send_now_keeps P closed q = keeps_seq P (post (frame.Request q)) (after_post q) (post_keeps P closed (frame.Request q)) (after_post_keeps P closed q)

pub send_keeps : (P : State → Type 0) → Closed P → (x1 : Request) → Preserves P (send x1)
send_keeps P closed q = keeps_choose P (is_upload q) (then_do (in_filter (in_volume commit)) (send_now q)) (send_now q) (keeps_then P (in_filter (in_volume commit)) (send_now q) (keeps_lifted P (λ s. s.filter) with_filter (in_volume commit) (λ t i. i) (λ t1 i2. (closed.on_filter t1 i2).commits)) (send_now_keeps P closed q)) (send_now_keeps P closed q)
