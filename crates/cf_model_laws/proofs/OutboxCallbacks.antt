-- What each part of a callback keeps of the callbacks that are still to be called and of what waits and is asked.
use Rattle.std.proofs.Common.{◌≡◌, ℕ, zero, suc, Bool, true, false, List, [], ◌∷◌, refl, subst, length}
use Rattle.std.specs.Prelude.{Option, Some, None, filter, map}
use Rattle.cf_base.specs.Codes.{number_of}
use Rattle.cf_base.specs.declared.answers.Shown.{Shown}
use Rattle.cf_base.specs.declared.answers.Shown.TheVariants as shown
use Rattle.cf_base.specs.declared.codes.Code.{Code}
use Rattle.cf_base.specs.declared.codes.Code.TheVariants as code
use Rattle.cf_base.specs.declared.ids.Key.{Key}
use Rattle.cf_base.specs.declared.messages.Entry.{Entry}
use Rattle.cf_base.specs.declared.messages.Reply.{Reply}
use Rattle.cf_base.specs.declared.messages.Reply.TheVariants as reply
use Rattle.cf_base.specs.declared.messages.Request.{Request}
use Rattle.cf_base.specs.declared.notices.Frame.TheVariants as frame
use Rattle.cf_base.specs.declared.operations.Operation.{Operation}
use Rattle.cf_base.specs.declared.operations.Operation.TheVariants as operation
use Rattle.cf_base.specs.declared.policies.Mode.{Mode}
use Rattle.cf_base.specs.declared.policies.Mode.TheVariants as mode
use Rattle.cf_base.specs.declared.spans.Span.{Span}
use Rattle.cf_base.specs.declared.waits.Ask.{Ask}
use Rattle.cf_base.specs.declared.waits.AskKind.{AskKind}
use Rattle.cf_base.specs.declared.waits.AskKind.TheVariants as ask_kind
use Rattle.cf_model.specs.Agents.{agent_on, fetch_of, list_of}
use Rattle.cf_model.specs.Arrows.{Arrow, Preserves, each, noted, unit}
use Rattle.cf_model.specs.Books.{Book}
use Rattle.cf_model.specs.Callbacks.{call_back, calling, carry_out, carry_out_all, drain, drained, finish, finish_call, mode_of, note_operation, plan_of, planned_on, provider_on, with_operation_told, with_outbox, without_plan}
use Rattle.cf_model.specs.Fetching.{after_listing, after_transfer, do_op, list_new, live_ask, is_new, new_item_of, no_entries, nothing_more, refuse_by_kind, refuse_for, refuse_live, span_at, take_bytes, with_seen_from}
use Rattle.cf_model.specs.Items.{Item, item_of}
use Rattle.cf_model.specs.Messages.{act_on, act_unless, after_post, come, come_if, is_inline, is_stale, post, send_now, take_if_any, take_reply}
use Rattle.cf_model.specs.Numbers.{most}
use Rattle.cf_model.specs.Operations.{execute, execute_with}
use Rattle.cf_model.specs.Requests.{Live}
use Rattle.cf_model.specs.Skips.{skip}
use Rattle.cf_model.specs.State.{Filter, State, in_filter, items_now, with_filter}
use Rattle.cf_model.specs.Trees.{Keeps, Ret, Tree, bind}
use Rattle.cf_model.proofs.ArrowLaws.{keeps_each, keeps_lifted, keeps_noted, keeps_reading, keeps_ret, keeps_seq, keeps_then}
use Rattle.cf_model.proofs.OperationsKeep.{execute_keeps, execute_with_keeps}
use Rattle.cf_model.proofs.TreeLaws.{keeps_bind}
use Rattle.cf_model_laws.proofs.OutboxMessages.{come_keeps, post_keeps, skip_keeps}
use Rattle.cf_model_laws.proofs.OutboxFacts.{Boxing, Fact, Holds, filter_closed}

module _ (F : Fact) (b : Boxing F) where
  abbrev In : State → Type 0
  In s = Holds F s.filter

  pub part_keeps : {A : Type 0} (f : Arrow Filter A) → Preserves (Holds F) f → Preserves In (in_filter f)
  part_keeps f k = keeps_lifted In (λ s. s.filter) with_filter f (λ t i. i) (λ t i. k)

  -- operations

  execute_in : (op : Operation) → Preserves In (in_filter (execute op))
  execute_in op = part_keeps (execute op) (execute_keeps (Holds F) (filter_closed F b) op)

  do_op_keeps : (op : Operation) → Preserves In (do_op op)
  do_op_keeps op = keeps_seq In (in_filter (execute op)) nothing_more (execute_in op) (λ answer. keeps_ret In unit)

  refuse_for_keeps : (key : Key) (span : Span) (c : Code) → Preserves In (refuse_for key span c)
  refuse_for_keeps key span c = keeps_then In (skip c) (do_op (operation.Refuse key span (number_of c))) (skip_keeps (λ p. F) c) (do_op_keeps (operation.Refuse key span (number_of c)))

  after_transfer_keeps : (key : Key) (span : Span) (answer : Shown) → Preserves In (after_transfer key span answer)
  after_transfer_keeps key span (shown.Refused code.Full) = refuse_for_keeps key span code.Full
  after_transfer_keeps key span (shown.Refused code.TableFull) = refuse_for_keeps key span code.TableFull
  after_transfer_keeps key span (shown.Refused code.TooManyAsks) = skip_keeps (λ p. F) code.TooManyAsks
  after_transfer_keeps key span (shown.Refused code.Exhausted) = skip_keeps (λ p. F) code.Exhausted
  after_transfer_keeps key span _ = keeps_ret In unit

  take_bytes_keeps : (key : Key) (start : ℕ) (bytes : List ℕ) → Preserves In (take_bytes key start bytes)
  take_bytes_keeps key start bytes =
      keeps_seq In (in_filter (execute (operation.Transfer key start bytes))) (after_transfer key (span_at start (length bytes))) (execute_in (operation.Transfer key start bytes)) (after_transfer_keeps key (span_at start (length bytes)))

  refuse_by_kind_keeps : (k : AskKind) (a : Live) (status : ℕ) → Preserves In (refuse_by_kind k a status)
  refuse_by_kind_keeps ask_kind.Fetch a status = do_op_keeps (operation.Refuse a.ask.key a.ask.span status)
  refuse_by_kind_keeps ask_kind.Validate a status = keeps_ret In unit
  refuse_by_kind_keeps ask_kind.List a status = do_op_keeps (operation.Entries a.ask.key [] false)
  refuse_by_kind_keeps ask_kind.Dehydrate a status = keeps_ret In unit

  refuse_live_keeps : (status : ℕ) (a : Option Live) → Preserves In (refuse_live status a)
  refuse_live_keeps status None = keeps_ret In unit
  refuse_live_keeps status (Some a) = refuse_by_kind_keeps a.ask.kind a status

  after_listing_keeps : (key : Key) (answer : Shown) → Preserves In (after_listing key answer)
  after_listing_keeps key (shown.Refused code.TableFull) = skip_keeps (λ p. F) code.TableFull
  after_listing_keeps key (shown.Refused code.TooManyAsks) = skip_keeps (λ p. F) code.TooManyAsks
  after_listing_keeps key (shown.Refused code.Exhausted) = skip_keeps (λ p. F) code.Exhausted
  after_listing_keeps key (shown.Refused code.TooDeep) = keeps_then In (skip code.TooDeep) (no_entries key) (skip_keeps (λ p. F) code.TooDeep) (do_op_keeps (operation.Entries key [] false))
  after_listing_keeps key (shown.Refused c) = do_op_keeps (operation.Entries key [] false)
  after_listing_keeps key _ = keeps_ret In unit

  listed_at : (key : Key) (es : List Entry) (s : State) → In s → Keeps In (list_new key es s)
  listed_at key es s h =
      let f : Book → Book = with_seen_from s.filter.volume.next_item.0 es in
      let op : Operation = operation.Entries key (map new_item_of es) true in
      (keeps_seq In (in_filter (execute_with f op)) (after_listing key) (part_keeps (execute_with f op) (execute_with_keeps (Holds F) (filter_closed F b) f op)) (after_listing_keeps key)).keeps s h

  -- requests for an ask, and what their replies do

  -- a reply that does not fit its request does nothing
  abbrev Fitting : Request → Type 0
  Fitting q = (r : Reply) (s : State) → is_stale q r s ≡ false → In s → Keeps In (act_on r s)

  reply_keeps : (q : Request) → Fitting q → (r : Reply) → Preserves In (take_reply q r)
  reply_keeps q k r = record { keeps = λ s h. by s h (is_stale q r s) refl } where
    by : (s : State) → In s → (old : Bool) → is_stale q r s ≡ old → Keeps In (act_unless r old s)
    by s h true e = h
    by s h false e = k r s e h

  if_any_keeps : (q : Request) → Fitting q → (r : Option Reply) → Preserves In (take_if_any q r)
  if_any_keeps q k None = keeps_ret In unit
  if_any_keeps q k (Some r) = reply_keeps q k r

  come_if_keeps : (q : Request) → Fitting q → (inline : Bool) → Preserves In (come_if q inline)
  come_if_keeps q k true = record { keeps = λ s h. (keeps_seq In (come (length s.link.messages) q) (take_if_any q) (come_keeps (λ p. F) (length s.link.messages) q) (if_any_keeps q k)).keeps s h }
  come_if_keeps q k false = keeps_ret In unit

  after_post_keeps : (q : Request) → Fitting q → (kept : Bool) → Preserves In (after_post q kept)
  after_post_keeps q k true = keeps_reading In is_inline (come_if q) (come_if_keeps q k)
  after_post_keeps q k false = keeps_ret In unit

  send_keeps : (q : Request) → Fitting q → Preserves In (send_now q)
  send_keeps q k = keeps_seq In (post (frame.Request q)) (after_post q) (post_keeps (λ p. F) (frame.Request q)) (after_post_keeps q k)

  fetched : (a : Ask) (i : Item) → Fitting (fetch_of a i)
  fetched a i (reply.Feed round clock es) s e h = let z : true ≡ false = e in cc
  fetched a i (reply.Listing key es) s e h = let z : true ≡ false = e in cc
  fetched a i (reply.Bytes key start bytes) s e h = (take_bytes_keeps key start bytes).keeps s h
  fetched a i (reply.Missing key) s e h = (refuse_live_keeps 2 (live_ask s key)).keeps s h
  fetched a i (reply.Done token rid version) s e h = let z : true ≡ false = e in cc
  fetched a i (reply.Void token) s e h = let z : true ≡ false = e in cc
  fetched a i (reply.Refused token w version) s e h = let z : true ≡ false = e in cc
  fetched a i (reply.Gone key) s e h = (refuse_live_keeps (number_of code.VersionGone) (live_ask s key)).keeps s h

  listed : (a : Ask) (i : Item) → Fitting (list_of a i)
  listed a i (reply.Feed round clock es) s e h = let z : true ≡ false = e in cc
  listed a i (reply.Listing key es) s e h = listed_at key (filter (is_new (items_now s)) es) s h
  listed a i (reply.Bytes key start bytes) s e h = let z : true ≡ false = e in cc
  listed a i (reply.Missing key) s e h = (refuse_live_keeps 2 (live_ask s key)).keeps s h
  listed a i (reply.Done token rid version) s e h = let z : true ≡ false = e in cc
  listed a i (reply.Void token) s e h = let z : true ≡ false = e in cc
  listed a i (reply.Refused token w version) s e h = let z : true ≡ false = e in cc
  listed a i (reply.Gone key) s e h = let z : true ≡ false = e in cc

  -- a callback

  agent_on_keeps : (k : AskKind) (a : Ask) (i : Option Item) → Preserves In (agent_on k a i)
  agent_on_keeps ask_kind.Fetch a (Some i) = send_keeps (fetch_of a i) (fetched a i)
  agent_on_keeps ask_kind.Fetch a None = keeps_ret In unit
  agent_on_keeps ask_kind.Validate a i = keeps_ret In unit
  agent_on_keeps ask_kind.List a (Some i) = send_keeps (list_of a i) (listed a i)
  agent_on_keeps ask_kind.List a None = keeps_ret In unit
  agent_on_keeps ask_kind.Dehydrate a i = do_op_keeps (operation.AckDehydrate a.key true)

  carry_out_keeps : (own : Key) (p : Bool × Operation) → Preserves In (carry_out own p)
  carry_out_keeps own p = keeps_seq In (in_filter (execute (planned_on own p))) note_operation (execute_in (planned_on own p)) (λ answer. keeps_noted In (with_operation_told answer) (λ s h. h))

  planned_keeps : (own : Key) (ops : List (Bool × Operation)) → Preserves In (carry_out_all own ops)
  planned_keeps own ops = keeps_then In (noted without_plan) (each (carry_out own) ops) (keeps_noted In without_plan (λ s h. h)) (keeps_each In (carry_out own) ops (carry_out_keeps own))

  provider_keeps : (a : Ask) (m : Mode) → Preserves In (provider_on a m)
  provider_keeps a mode.Replay = record { keeps = λ s h. (agent_on_keeps a.kind a (item_of (items_now s) a.item)).keeps s h }
  provider_keeps a mode.Filter = keeps_reading In plan_of (carry_out_all a.key) (planned_keeps a.key)

  pub call_back_keeps : (a : Ask) → Preserves In (call_back a)
  call_back_keeps a = keeps_reading In mode_of (provider_on a) (provider_keeps a)

  -- the callbacks of a call, and the call

  pop : (a : Ask) (rest : List Ask) (s : State) → s.filter.outbox ≡ a ∷ rest → In s → In (with_outbox rest s)
  pop a rest s e h = b.pops a rest s.filter.waiting (subst (λ (o : List Ask). F o s.filter.waiting) e h)

  pub drained_keeps : (n : ℕ) → Preserves In (drained n)
  drained_keeps zero = record { keeps = λ s h. h }
  drained_keeps (suc n) = record { keeps = λ s h. popped s h (drained_keeps n) s.filter.outbox refl } where
    popped : (s : State) → In s → Preserves In (drained n) → (asks : List Ask) → s.filter.outbox ≡ asks
        → Keeps In (elim asks as (λ _. Tree State (Unit {0})) [ [] ↦ Ret (record {}) s | a ∷ rest ↦ bind (call_back a (with_outbox rest s)) (λ _ t. drained n t) ])
    popped s h k [] e = h
    popped s h k (a ∷ rest) e = keeps_bind In (call_back a (with_outbox rest s)) (λ _ t. drained n t) ((call_back_keeps a).keeps (with_outbox rest s) (pop a rest s e h)) (λ u t j. k.keeps t j)

  pub calling_keeps : (part : Arrow Filter Shown) → Preserves (Holds F) part → Preserves In (calling part)
  calling_keeps part k =
      keeps_seq In (in_filter part) finish_call (part_keeps part k)
      (λ answer. keeps_then In drain (in_filter (finish answer)) (drained_keeps most) (part_keeps (finish answer) (record { keeps = λ x h. h })))
