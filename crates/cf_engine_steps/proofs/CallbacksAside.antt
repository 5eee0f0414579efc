-- What a callback leaves as it is: what is known until the volume is opened again, the power, whether a Done was taken, the clock of
-- the first feed, how many tokens other devices have used, and the reply that an answer keeps. Only replies to Fetch and List come to
-- it, and none of those touches them.
use Rattle.std.proofs.Common.{◌≡◌, ℕ, zero, suc, ◌+◌, Bool, true, false, List, [], ◌∷◌, length, map, filter, Option, Some, None}
use Rattle.cf_base.specs.Codes.{number_of}
use Rattle.cf_base.specs.declared.answers.Shown.{Shown}
use Rattle.cf_base.specs.declared.answers.Shown.TheVariants as shown
use Rattle.cf_base.specs.declared.codes.Code.{Code}
use Rattle.cf_base.specs.declared.codes.Code.TheVariants as code
use Rattle.cf_base.specs.declared.ids.Key.{Key}
use Rattle.cf_base.specs.declared.ids.Rid.{Rid}
use Rattle.cf_base.specs.declared.ids.Version.{Version}
use Rattle.cf_base.specs.declared.messages.Entry.{Entry}
use Rattle.cf_base.specs.declared.messages.Reply.{Reply}
use Rattle.cf_base.specs.declared.messages.Reply.TheVariants as reply
use Rattle.cf_base.specs.declared.messages.Request.{Request}
use Rattle.cf_base.specs.declared.messages.Request.TheVariants as request
use Rattle.cf_base.specs.declared.notices.Frame.{Frame}
use Rattle.cf_base.specs.declared.notices.Frame.TheVariants as frame
use Rattle.cf_base.specs.declared.operations.Operation.{Operation}
use Rattle.cf_base.specs.declared.operations.Operation.TheVariants as operation
use Rattle.cf_base.specs.declared.policies.Mode.{Mode}
use Rattle.cf_base.specs.declared.policies.Mode.TheVariants as mode
use Rattle.cf_base.specs.declared.spans.Span.{Span}
use Rattle.cf_base.specs.declared.waits.Ask.{Ask}
use Rattle.cf_base.specs.declared.waits.AskKind.{AskKind}
use Rattle.cf_base.specs.declared.waits.AskKind.TheVariants as ask_kind
use Rattle.cf_model.specs.Agents.{agent_on, fetch_of, list_of}
use Rattle.cf_model.specs.Arrows.{Arrow, Preserves, each, noted, one, unit}
use Rattle.cf_model.specs.Callbacks.{call_back, carry_out, carry_out_all, drained, mode_of, note_operation, plan_of, planned_on, provider_on, with_operation_told, with_outbox, without_plan}
use Rattle.cf_model.specs.Fetching.{after_listing, after_transfer, do_op, is_new, list_new, live_ask, new_item_of, no_entries, nothing_more, refuse_by_kind, refuse_for, refuse_live, span_at, take_bytes, take_gone, take_listing, take_missing, with_seen_from}
use Rattle.cf_model.specs.Identities.{base_rid, base_version, target_of}
use Rattle.cf_model.specs.Items.{Item, item_of}
use Rattle.cf_model.specs.Messages.{act_unless, after_post, answered, ask, come, come_if, come_now, failed, fault_line, if_kept, is_inline, is_stale, no_bytes, no_number, post, post_by, post_unless, send_now, take_if_any, take_reply, was_kept, with_lost, with_message}
use Rattle.cf_model.specs.Operations.{execute, execute_with}
use Rattle.cf_model.specs.Requests.{Live}
use Rattle.cf_model.specs.Skips.{skip, skip_line, skipped}
use Rattle.cf_model.specs.State.{Filter, Power, State, Volatile, in_filter, items_now, with_filter}
use Rattle.cf_model.specs.Trees.{Keeps, Ret, Tree, bind}
use Rattle.cf_model.proofs.ArrowLaws.{keeps_const, keeps_each, keeps_lifted, keeps_noted, keeps_one, keeps_reading, keeps_ret, keeps_seq, keeps_then}
use Rattle.cf_model.proofs.MessagesKeep.{asked_keeps}
use Rattle.cf_model.proofs.TreeLaws.{keeps_bind}

abbrev pub Aside : Type 0
Aside = Volatile × Power × Bool × Option ℕ × ℕ × Option Reply

abbrev pub aside_of : State → Aside
aside_of s = (s.volatile, s.power, s.running.took_done, s.running.first_clock, s.peer_tokens, s.running.stray)

module _ (o : Aside) where
  abbrev P : State → Type 0
  P s = aside_of s ≡ o

  in_filter_aside : {A : Type 0} (f : Arrow Filter A) → Preserves P (in_filter f)
  in_filter_aside f = keeps_lifted P (λ s. s.filter) with_filter f (λ t h. h) (λ t h. keeps_const (aside_of t ≡ o) f)

  -- steps that are left out

  line_aside : (b : Bool) (c : Code) (s : State) → P s → P (skip_line b c s)
  line_aside true c s h = h
  line_aside false c s h = h

  skip_aside : (c : Code) → Preserves P (skip c)
  skip_aside c = keeps_noted P (skipped c) (λ s h. line_aside s.running.shows_skips c (record s { running = record s.running { skips = s.running.skips + 1 } }) h)

  -- what replies do

  do_op_aside : (op : Operation) → Preserves P (do_op op)
  do_op_aside op = keeps_seq P (in_filter (execute op)) nothing_more (in_filter_aside (execute op)) (λ a. keeps_ret P unit)

  refuse_aside : (key : Key) (span : Span) (c : Code) → Preserves P (refuse_for key span c)
  refuse_aside key span c = keeps_then P (skip c) (do_op (operation.Refuse key span (number_of c))) (skip_aside c) (do_op_aside (operation.Refuse key span (number_of c)))

  after_transfer_aside : (key : Key) (span : Span) (a : Shown) → Preserves P (after_transfer key span a)
  after_transfer_aside key span (shown.Refused code.Full) = refuse_aside key span code.Full
  after_transfer_aside key span (shown.Refused code.TableFull) = refuse_aside key span code.TableFull
  after_transfer_aside key span (shown.Refused code.TooManyAsks) = skip_aside code.TooManyAsks
  after_transfer_aside key span (shown.Refused code.Exhausted) = skip_aside code.Exhausted
  after_transfer_aside key span _ = keeps_ret P unit

  bytes_aside : (key : Key) (start : ℕ) (bytes : List ℕ) → Preserves P (take_bytes key start bytes)
  bytes_aside key start bytes =
      keeps_seq P (in_filter (execute (operation.Transfer key start bytes))) (after_transfer key (span_at start (length bytes))) (in_filter_aside (execute (operation.Transfer key start bytes))) (after_transfer_aside key (span_at start (length bytes)))

  refuse_by_aside : (k : AskKind) (a : Live) (status : ℕ) → Preserves P (refuse_by_kind k a status)
  refuse_by_aside ask_kind.Fetch a status = do_op_aside (operation.Refuse a.ask.key a.ask.span status)
  refuse_by_aside ask_kind.Validate a status = keeps_ret P unit
  refuse_by_aside ask_kind.List a status = do_op_aside (operation.Entries a.ask.key [] false)
  refuse_by_aside ask_kind.Dehydrate a status = keeps_ret P unit

  refuse_live_aside : (status : ℕ) (a : Option Live) → Preserves P (refuse_live status a)
  refuse_live_aside status None = keeps_ret P unit
  refuse_live_aside status (Some a) = refuse_by_aside a.ask.kind a status

  missing_aside : (key : Key) → Preserves P (take_missing key)
  missing_aside key = record { keeps = λ s h. (refuse_live_aside 2 (live_ask s key)).keeps s h }

  gone_aside : (key : Key) → Preserves P (take_gone key)
  gone_aside key = record { keeps = λ s h. (refuse_live_aside (number_of code.VersionGone) (live_ask s key)).keeps s h }

  after_listing_aside : (key : Key) (a : Shown) → Preserves P (after_listing key a)
  after_listing_aside key (shown.Refused code.TableFull) = skip_aside code.TableFull
  after_listing_aside key (shown.Refused code.TooManyAsks) = skip_aside code.TooManyAsks
  after_listing_aside key (shown.Refused code.Exhausted) = skip_aside code.Exhausted
  after_listing_aside key (shown.Refused code.TooDeep) = keeps_then P (skip code.TooDeep) (no_entries key) (skip_aside code.TooDeep) (do_op_aside (operation.Entries key [] false))
  after_listing_aside key (shown.Refused c) = do_op_aside (operation.Entries key [] false)
  after_listing_aside key _ = keeps_ret P unit

  list_aside : (key : Key) (es : List Entry) → Preserves P (list_new key es)
  list_aside key es = record {
    keeps = λ s h.
        (keeps_seq P (in_filter (execute_with (with_seen_from s.filter.volume.next_item.0 es) (operation.Entries key (map new_item_of es) true))) (after_listing key)
        (in_filter_aside (execute_with (with_seen_from s.filter.volume.next_item.0 es) (operation.Entries key (map new_item_of es) true))) (after_listing_aside key)).keeps s h;
  }

  listing_aside : (key : Key) (es : List Entry) → Preserves P (take_listing key es)
  listing_aside key es = record { keeps = λ s h. (list_aside key (filter (is_new (items_now s)) es)).keeps s h }

  bytes_act : (key : Key) (start : ℕ) (bytes : List ℕ) (b : Bool) → Preserves P (act_unless (reply.Bytes key start bytes) b)
  bytes_act key start bytes true = keeps_ret P unit
  bytes_act key start bytes false = record { keeps = λ s h. (bytes_aside key start bytes).keeps s h }

  missing_act : (key : Key) (b : Bool) → Preserves P (act_unless (reply.Missing key) b)
  missing_act key true = keeps_ret P unit
  missing_act key false = record { keeps = λ s h. (missing_aside key).keeps s h }

  gone_act : (key : Key) (b : Bool) → Preserves P (act_unless (reply.Gone key) b)
  gone_act key true = keeps_ret P unit
  gone_act key false = record { keeps = λ s h. (gone_aside key).keeps s h }

  listing_act : (key : Key) (es : List Entry) (b : Bool) → Preserves P (act_unless (reply.Listing key es) b)
  listing_act key es true = keeps_ret P unit
  listing_act key es false = record { keeps = λ s h. (listing_aside key es).keeps s h }

  -- replies to Fetch and to List: one of another kind does not fit

  fetched_aside : (key : Key) (rid : Rid) (version : Version) (start len : ℕ) (r : Reply) → Preserves P (take_reply (request.Fetch key rid version start len) r)
  fetched_aside key rid version start len (reply.Bytes k at bytes) = keeps_reading P (is_stale (request.Fetch key rid version start len) (reply.Bytes k at bytes)) (act_unless (reply.Bytes k at bytes)) (bytes_act k at bytes)
  fetched_aside key rid version start len (reply.Missing k) = keeps_reading P (is_stale (request.Fetch key rid version start len) (reply.Missing k)) (act_unless (reply.Missing k)) (missing_act k)
  fetched_aside key rid version start len (reply.Gone k) = keeps_reading P (is_stale (request.Fetch key rid version start len) (reply.Gone k)) (act_unless (reply.Gone k)) (gone_act k)
  fetched_aside key rid version start len (reply.Feed round clock es) = record { keeps = λ s h. h }
  fetched_aside key rid version start len (reply.Listing k es) = record { keeps = λ s h. h }
  fetched_aside key rid version start len (reply.Done token r v) = record { keeps = λ s h. h }
  fetched_aside key rid version start len (reply.Void token) = record { keeps = λ s h. h }
  fetched_aside key rid version start len (reply.Refused token w v) = record { keeps = λ s h. h }

  listed_aside : (key : Key) (rid : Rid) (r : Reply) → Preserves P (take_reply (request.List key rid) r)
  listed_aside key rid (reply.Listing k es) = keeps_reading P (is_stale (request.List key rid) (reply.Listing k es)) (act_unless (reply.Listing k es)) (listing_act k es)
  listed_aside key rid (reply.Missing k) = keeps_reading P (is_stale (request.List key rid) (reply.Missing k)) (act_unless (reply.Missing k)) (missing_act k)
  listed_aside key rid (reply.Feed round clock es) = record { keeps = λ s h. h }
  listed_aside key rid (reply.Bytes k at bytes) = record { keeps = λ s h. h }
  listed_aside key rid (reply.Done token r v) = record { keeps = λ s h. h }
  listed_aside key rid (reply.Void token) = record { keeps = λ s h. h }
  listed_aside key rid (reply.Refused token w v) = record { keeps = λ s h. h }
  listed_aside key rid (reply.Gone k) = record { keeps = λ s h. h }

  -- requests

  post_by_aside : (f : Frame) (b : Bool) → Preserves P (post_by f b)
  post_by_aside f true = keeps_seq P (one (with_lost f)) (was_kept false) (keeps_one P (with_lost f) (λ s h. h)) (λ u. keeps_ret P false)
  post_by_aside f false = keeps_seq P (one (with_message f)) (was_kept true) (keeps_one P (with_message f) (λ s h. h)) (λ u. keeps_ret P true)

  post_unless_aside : (f : Frame) (b : Bool) → Preserves P (post_unless f b)
  post_unless_aside f true = keeps_ret P false
  post_unless_aside f false = keeps_reading P (no_bytes f) (post_by f) (post_by_aside f)

  post_aside : (f : Frame) → Preserves P (post f)
  post_aside f = keeps_reading P no_number (post_unless f) (post_unless_aside f)

  kept_aside : (r : Reply) (b : Bool) → Preserves P (if_kept r b)
  kept_aside r true = keeps_ret P (Some r)
  kept_aside r false = keeps_ret P None

  answered_aside : (m : ℕ) (r : Option Reply) → Preserves P (answered m r)
  answered_aside m None = keeps_seq P (one (fault_line m)) failed (keeps_one P (fault_line m) (λ s h. h)) (λ u. keeps_ret P None)
  answered_aside m (Some r) = keeps_seq P (post (frame.Reply m r)) (if_kept r) (post_aside (frame.Reply m r)) (kept_aside r)

  come_aside : (m : ℕ) (q : Request) → Preserves P (come m q)
  come_aside m q = keeps_seq P (ask q) (answered m) (asked_keeps P (λ s h. h) (λ held s h. h) (λ s h. h) q) (answered_aside m)

  module _ (q : Request) (takes : (r : Reply) → Preserves P (take_reply q r)) where
    taken_aside : (r : Option Reply) → Preserves P (take_if_any q r)
    taken_aside None = keeps_ret P unit
    taken_aside (Some r) = takes r

    come_now_aside : Preserves P (come_now q)
    come_now_aside = record { keeps = λ s h. (keeps_seq P (come (length s.link.messages) q) (take_if_any q) (come_aside (length s.link.messages) q) taken_aside).keeps s h }

    come_if_aside : (b : Bool) → Preserves P (come_if q b)
    come_if_aside true = come_now_aside
    come_if_aside false = keeps_ret P unit

    after_post_aside : (b : Bool) → Preserves P (after_post q b)
    after_post_aside true = keeps_reading P is_inline (come_if q) come_if_aside
    after_post_aside false = keeps_ret P unit

    send_aside : Preserves P (send_now q)
    send_aside = keeps_seq P (post (frame.Request q)) (after_post q) (post_aside (frame.Request q)) after_post_aside

  -- callbacks

  agent_on_aside : (k : AskKind) (a : Ask) (i : Option Item) → Preserves P (agent_on k a i)
  agent_on_aside ask_kind.Fetch a (Some i) = send_aside (fetch_of a i) (fetched_aside a.key (base_rid i) (base_version i) a.span.start a.span.len)
  agent_on_aside ask_kind.Fetch a None = keeps_ret P unit
  agent_on_aside ask_kind.Validate a i = keeps_ret P unit
  agent_on_aside ask_kind.List a (Some i) = send_aside (list_of a i) (listed_aside a.key (target_of i))
  agent_on_aside ask_kind.List a None = keeps_ret P unit
  agent_on_aside ask_kind.Dehydrate a i = do_op_aside (operation.AckDehydrate a.key true)

  carry_aside : (own : Key) (p : Bool × Operation) → Preserves P (carry_out own p)
  carry_aside own p = keeps_seq P (in_filter (execute (planned_on own p))) note_operation (in_filter_aside (execute (planned_on own p))) (λ a. keeps_noted P (with_operation_told a) (λ s h. h))

  scripted_aside : (own : Key) (ops : List (Bool × Operation)) → Preserves P (carry_out_all own ops)
  scripted_aside own ops = keeps_then P (noted without_plan) (each (carry_out own) ops) (keeps_noted P without_plan (λ s h. h)) (keeps_each P (carry_out own) ops (carry_aside own))

  provider_aside : (a : Ask) (m : Mode) → Preserves P (provider_on a m)
  provider_aside a mode.Replay = record { keeps = λ s h. (agent_on_aside a.kind a (item_of (items_now s) a.item)).keeps s h }
  provider_aside a mode.Filter = keeps_reading P plan_of (carry_out_all a.key) (scripted_aside a.key)

  pub callback_aside : (a : Ask) → Preserves P (call_back a)
  callback_aside a = keeps_reading P mode_of (provider_on a) (provider_aside a)

  popped_aside : (n : ℕ) → Preserves P (drained n) → (asks : List Ask) (s : State) → P s
      → Keeps P (elim asks as (λ _. Tree State (Unit {0})) [ [] ↦ Ret (record {}) s | a ∷ rest ↦ bind (call_back a (with_outbox rest s)) (λ _ t. drained n t) ])
  popped_aside n k [] s h = h
  popped_aside n k (a ∷ rest) s h =
      keeps_bind P (call_back a (with_outbox rest s)) (λ _ t. drained n t) ((callback_aside a).keeps (with_outbox rest s) h) (λ u t j. k.keeps t j)

  pub drained_aside : (n : ℕ) → Preserves P (drained n)
  drained_aside zero = record { keeps = λ s h. h }
  drained_aside (suc n) = record { keeps = λ s h. popped_aside n (drained_aside n) s.filter.outbox s h }
