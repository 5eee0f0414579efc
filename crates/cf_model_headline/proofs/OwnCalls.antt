-- The callbacks of a call begin no wait: its own stays.
use Rattle.std.proofs.Common.{◌≡◌, ◌+◌, ℕ, zero, suc, Bool, true, false, List, [], ◌∷◌, refl, length, if◌then◌else◌}
use Rattle.std.specs.Prelude.{Option, Some, None, filter, map}
use Rattle.cf_base.specs.Codes.{number_of}
use Rattle.cf_base.specs.declared.answers.Shown.{Shown}
use Rattle.cf_base.specs.declared.answers.Shown.TheVariants as shown
use Rattle.cf_base.specs.declared.changes.Change.{Change}
use Rattle.cf_base.specs.declared.changes.Change.TheVariants as change_kinds
use Rattle.cf_base.specs.declared.codes.Code.{Code}
use Rattle.cf_base.specs.declared.codes.Code.TheVariants as code
use Rattle.cf_base.specs.declared.ids.ItemId.{ItemId}
use Rattle.cf_base.specs.declared.ids.Key.{Key}
use Rattle.cf_base.specs.declared.ids.WaitId.{WaitId}
use Rattle.cf_base.specs.declared.messages.Entry.{Entry}
use Rattle.cf_base.specs.declared.messages.Reply.{Reply}
use Rattle.cf_base.specs.declared.messages.Reply.TheVariants as reply
use Rattle.cf_base.specs.declared.messages.Request.{Request}
use Rattle.cf_base.specs.declared.notices.Frame.{Frame}
use Rattle.cf_base.specs.declared.notices.Frame.TheVariants as frame
use Rattle.cf_base.specs.declared.operations.Operation.{Operation}
use Rattle.cf_base.specs.declared.operations.Operation.TheVariants as operation
use Rattle.cf_base.specs.declared.policies.Mode.{Mode}
use Rattle.cf_base.specs.declared.policies.Mode.TheVariants as mode
use Rattle.cf_base.specs.declared.spans.Span.{Span}
use Rattle.cf_base.specs.declared.waits.Ask.{Ask}
use Rattle.cf_base.specs.declared.waits.AskKind.{AskKind}
use Rattle.cf_base.specs.declared.waits.AskKind.TheVariants as ask_kind
use Rattle.cf_base.specs.declared.waits.Cause.{Cause}
use Rattle.cf_base.specs.declared.waits.Cause.TheVariants as cause
use Rattle.cf_model.specs.Agents.{agent_on, fetch_of, list_of}
use Rattle.cf_model.specs.Arrows.{Arrow, Preserves, each, noted, one, reading, ret, then_do, unit}
use Rattle.cf_model.specs.Blocks.{blocks_of}
use Rattle.cf_model.specs.Books.{Book}
use Rattle.cf_model.specs.Callbacks.{call_back, carry_out, carry_out_all, drained, mode_of, note_operation, plan_of, planned_on, provider_on, with_operation_told, with_outbox, without_plan}
use Rattle.cf_model.specs.Changes.{change, change_with, changes, same_book}
use Rattle.cf_model.specs.Fetching.{after_listing, after_transfer, do_op, is_new, list_new, live_ask, new_item_of, no_entries, nothing_more, refuse_by_kind, refuse_for, refuse_live, span_at, take_bytes, with_seen_from}
use Rattle.cf_model.specs.Items.{Item, bytes_held, item_of}
use Rattle.cf_model.specs.Messages.{act_on, act_unless, after_post, answered, ask, come, come_if, failed, fault_line, if_kept, is_inline, is_stale, no_bytes, no_number, post, post_by, post_unless, send_now, take_if_any, was_kept, with_lost, with_message}
use Rattle.cf_model.specs.Missing.{Wait}
use Rattle.cf_model.specs.Operations.{ack_change, ack_deed, ack_tests, as_it_is, changes_listed, changes_with, checked, consent_by, consent_changes, consent_deed, consent_tests, done, entries_by, entries_deed, entries_tests, execute, execute_with, held_in, key_of, live_at, on_ask, on_live, refuse_tests, restart_by, restart_change, restart_tests, retrieve_by, retrieve_tests, second_verdict, transfer_by, transfer_tests}
use Rattle.cf_model.specs.Requests.{Deed, Fails, Leaves, Live, Restarts, Told, Waiting}
use Rattle.cf_model.specs.Settling.{accessed, end_of, end_wait, is_access, is_own, settle, tell, tell_end, told_at, with_asks_told, with_ended, with_waiting}
use Rattle.cf_model.specs.Skips.{skip, skip_line, skipped}
use Rattle.cf_model.specs.State.{Filter, State, in_filter, items_now, with_filter}
use Rattle.cf_model.specs.Trees.{Keeps, Ret, Tree, bind}
use Rattle.cf_model.specs.Words.{first_of}
use Rattle.cf_base.specs.declared.operations.NewItem.{NewItem}
use Rattle.cf_base.specs.declared.waits.End.{End}
use Rattle.cf_model.proofs.ArrowLaws.{keeps_each, keeps_lifted, keeps_noted, keeps_one, keeps_reading, keeps_ret, keeps_seq, keeps_then, keeps_unless}
use Rattle.cf_model.proofs.MessagesKeep.{asked_keeps}
use Rattle.cf_model.proofs.TreeLaws.{keeps_bind}
use Rattle.cf_model_laws.proofs.Leading.{kept_leads}
use Rattle.cf_model_laws.proofs.SoundFilters.{change_leads}

module _ (id : WaitId) where
  abbrev pub IsOwn : Filter → Type 0
  IsOwn x = x.own ≡ Some id

  -- the parts of an operation

  change_own : (f : Book → Book) (c : Change) → Preserves IsOwn (change_with f c)
  change_own f c = record { keeps = λ x h. kept_leads IsOwn (change_with f c x) (change_leads IsOwn IsOwn f c x h h h (λ v is. h)) }

  changes_own : (f : Book → Book) (cs : List Change) → Preserves IsOwn (changes_with f cs)
  changes_own f [] = keeps_ret IsOwn (record {})
  changes_own f (c ∷ []) = change_own f c
  changes_own f (c ∷ d ∷ cs) = keeps_then IsOwn (change c) (changes_with f (d ∷ cs)) (change_own same_book c) (changes_own f (d ∷ cs))

  ended_own : (e : Wait × Cause) (x : Filter) → IsOwn x → IsOwn (with_ended e x)
  ended_own e x h = accesses (is_access e.0.kind e.1) (tell_end e.0.id (end_of x.volume.items e.0 e.1) (is_own e.0.id x) x) (tells e.0.id (end_of x.volume.items e.0 e.1) (is_own e.0.id x)) where
    tells : (i : WaitId) (d : End) (own : Bool) → IsOwn (tell_end i d own x)
    tells i d true = h
    tells i d false = h

    accesses : (is : Bool) (y : Filter) → IsOwn y → IsOwn (if is then accessed e.0.item y else y)
    accesses true y k = k
    accesses false y k = k

  pub tell_own : (r : Told × Waiting) (x : Filter) → IsOwn x → Keeps IsOwn (tell r x)
  tell_own r x h = (keeps_then IsOwn (each end_wait r.0.ended) (noted (with_asks_told r.0)) (keeps_each IsOwn end_wait r.0.ended (λ e. keeps_one IsOwn (with_ended e) (ended_own e))) (record { keeps = λ y k. k })).keeps (with_waiting r.1 x) h

  settle_own : (item : ItemId) (d : Deed) → Preserves IsOwn (settle item d)
  settle_own item d = record { keeps = λ x h. tell_own (told_at item d x) x h }

  settled_own : (item : ItemId) (d : Deed) (answer : Shown) → Preserves IsOwn (then_do (settle item d) (ret answer))
  settled_own item d answer = keeps_then IsOwn (settle item d) (ret answer) (settle_own item d) (keeps_ret IsOwn answer)

  checked_own : (tests : Filter → List (Bool × Code)) (f : Arrow Filter Shown) → Preserves IsOwn f → Preserves IsOwn (checked tests f)
  checked_own tests f k = record { keeps = λ x h. (keeps_unless IsOwn shown.Refused (first_of (tests x)) f k).keeps x h }

  changed_own : (c : Change) (item : ItemId) (d : Deed) → Preserves IsOwn (then_do (change c) (then_do (settle item d) done))
  changed_own c item d = keeps_then IsOwn (change c) (then_do (settle item d) done) (change_own same_book c) (settled_own item d shown.Done)

  -- operations

  consent_own : (a : Live) (good : Bool) (refusal : Option Code) → Preserves IsOwn (consent_by a good refusal)
  consent_own a good refusal =
      checked_own (consent_tests a (consent_changes a good refusal)) (then_do (changes (consent_changes a good refusal)) (then_do (settle a.ask.item (consent_deed a good refusal)) done))
      (keeps_then IsOwn (changes (consent_changes a good refusal)) (then_do (settle a.ask.item (consent_deed a good refusal)) done)
      (keeps_each IsOwn change (consent_changes a good refusal) (λ c. change_own same_book c)) (settled_own a.ask.item (consent_deed a good refusal) shown.Done))

  entries_own : (f : Book → Book) (a : Live) (list : List NewItem) (good : Bool) (cs : List Change) → Preserves IsOwn (entries_by f a list good cs)
  entries_own f a list good cs =
      checked_own (entries_tests f a list cs) (then_do (changes_with f cs) (then_do (settle a.ask.item (entries_deed a good)) done))
      (keeps_then IsOwn (changes_with f cs) (then_do (settle a.ask.item (entries_deed a good)) done) (changes_own f cs) (settled_own a.ask.item (entries_deed a good) shown.Done))

  retrieve_own : (a : Live) (held : List (Option ℕ)) → Preserves IsOwn (retrieve_by a held)
  retrieve_own a held = keeps_then IsOwn (one as_it_is) (then_do (settle a.ask.item (Leaves a.ask.key [])) (ret (shown.Retrieved (bytes_held held)))) (keeps_one IsOwn as_it_is (λ x h. h)) (settled_own a.ask.item (Leaves a.ask.key []) (shown.Retrieved (bytes_held held)))

  on_ask_own : (f : Book → Book) (op : Operation) (a : Live) → Preserves IsOwn (on_ask f op a)
  on_ask_own f (operation.Transfer key at bytes) a =
      let c : Change = change_kinds.Filled a.ask.item at bytes in
      checked_own (transfer_tests a c at (length bytes)) (transfer_by a c (blocks_of at (length bytes))) (changed_own c a.ask.item (Leaves a.ask.key (blocks_of at (length bytes))))
  on_ask_own f (operation.Refuse key asked status) a =
      let d : Deed = Fails a.ask.key (blocks_of asked.start asked.len) (cause.Failed status) in
      checked_own (refuse_tests a asked) (then_do (settle a.ask.item d) done) (settled_own a.ask.item d shown.Done)
  on_ask_own f (operation.Retrieve key asked) a = checked_own (retrieve_tests a asked) (reading (held_in a asked) (retrieve_by a)) (keeps_reading IsOwn (held_in a asked) (retrieve_by a) (retrieve_own a))
  on_ask_own f (operation.Ack key asked good) a = checked_own (ack_tests a asked good) (then_do (change (ack_change a asked good)) (then_do (settle a.ask.item (ack_deed a asked good)) done)) (changed_own (ack_change a asked good) a.ask.item (ack_deed a asked good))
  on_ask_own f (operation.Restart key) a = checked_own (restart_tests a) (reading (restart_change a) (restart_by a)) (keeps_reading IsOwn (restart_change a) (restart_by a) (λ c. changed_own c a.ask.item Restarts))
  on_ask_own f (operation.Entries key list good) a = keeps_reading IsOwn (changes_listed a list good) (entries_by f a list good) (entries_own f a list good)
  on_ask_own f (operation.AckDehydrate key good) a = keeps_reading IsOwn (second_verdict a) (consent_by a good) (consent_own a good)

  on_live_own : (f : Book → Book) (op : Operation) (a : Option Live) → Preserves IsOwn (on_live f op a)
  on_live_own f op None = keeps_ret IsOwn (shown.Refused code.StaleKey)
  on_live_own f op (Some a) = on_ask_own f op a

  -- in the whole

  abbrev pub In : State → Type 0
  In s = IsOwn s.filter

  executes : (f : Book → Book) (op : Operation) → Preserves In (in_filter (execute_with f op))
  executes f op = keeps_lifted In (λ s. s.filter) with_filter (execute_with f op) (λ t i. i) (λ t i. keeps_reading IsOwn (live_at (key_of op)) (on_live f op) (on_live_own f op))

  operates : (op : Operation) → Preserves In (do_op op)
  operates op = keeps_seq In (in_filter (execute op)) nothing_more (executes same_book op) (λ answer. keeps_ret In unit)

  line_own : (shows : Bool) (c : Code) (s : State) → In s → In (skip_line shows c s)
  line_own true c s h = h
  line_own false c s h = h

  skips : (c : Code) → Preserves In (skip c)
  skips c = keeps_noted In (skipped c) (λ s h. line_own s.running.shows_skips c (record s { running = record s.running { skips = s.running.skips + 1 } }) h)

  posts_by : (f : Frame) (full : Bool) → Preserves In (post_by f full)
  posts_by f true = keeps_seq In (one (with_lost f)) (was_kept false) (keeps_one In (with_lost f) (λ s h. h)) (λ u. keeps_ret In false)
  posts_by f false = keeps_seq In (one (with_message f)) (was_kept true) (keeps_one In (with_message f) (λ s h. h)) (λ u. keeps_ret In true)

  posts_unless : (f : Frame) (none : Bool) → Preserves In (post_unless f none)
  posts_unless f true = keeps_ret In false
  posts_unless f false = keeps_reading In (no_bytes f) (post_by f) (posts_by f)

  posts : (f : Frame) → Preserves In (post f)
  posts f = keeps_reading In no_number (post_unless f) (posts_unless f)

  kept_if : (r : Reply) (kept : Bool) → Preserves In (if_kept r kept)
  kept_if r true = keeps_ret In (Some r)
  kept_if r false = keeps_ret In None

  answers : (m : ℕ) (r : Option Reply) → Preserves In (answered m r)
  answers m None = keeps_seq In (one (fault_line m)) failed (keeps_one In (fault_line m) (λ s h. h)) (λ u. keeps_ret In None)
  answers m (Some r) = keeps_seq In (post (frame.Reply m r)) (if_kept r) (posts (frame.Reply m r)) (kept_if r)

  comes : (m : ℕ) (q : Request) → Preserves In (come m q)
  comes m q = keeps_seq In (ask q) (answered m) (asked_keeps In (λ s h. h) (λ held s h. h) (λ s h. h) q) (answers m)

  -- what replies to a Fetch and to a List do

  refuses_for : (key : Key) (span : Span) (c : Code) → Preserves In (refuse_for key span c)
  refuses_for key span c = keeps_then In (skip c) (do_op (operation.Refuse key span (number_of c))) (skips c) (operates (operation.Refuse key span (number_of c)))

  transferred : (key : Key) (span : Span) (answer : Shown) → Preserves In (after_transfer key span answer)
  transferred key span (shown.Refused code.Full) = refuses_for key span code.Full
  transferred key span (shown.Refused code.TableFull) = refuses_for key span code.TableFull
  transferred key span (shown.Refused code.TooManyAsks) = skips code.TooManyAsks
  transferred key span (shown.Refused code.Exhausted) = skips code.Exhausted
  transferred key span _ = keeps_ret In unit

  takes_bytes : (key : Key) (start : ℕ) (bytes : List ℕ) → Preserves In (take_bytes key start bytes)
  takes_bytes key start bytes =
      keeps_seq In (in_filter (execute (operation.Transfer key start bytes))) (after_transfer key (span_at start (length bytes))) (executes same_book (operation.Transfer key start bytes)) (transferred key (span_at start (length bytes)))

  refuses_by : (k : AskKind) (a : Live) (status : ℕ) → Preserves In (refuse_by_kind k a status)
  refuses_by ask_kind.Fetch a status = operates (operation.Refuse a.ask.key a.ask.span status)
  refuses_by ask_kind.Validate a status = keeps_ret In unit
  refuses_by ask_kind.List a status = operates (operation.Entries a.ask.key [] false)
  refuses_by ask_kind.Dehydrate a status = keeps_ret In unit

  refuses : (status : ℕ) (a : Option Live) → Preserves In (refuse_live status a)
  refuses status None = keeps_ret In unit
  refuses status (Some a) = refuses_by a.ask.kind a status

  listed_then : (key : Key) (answer : Shown) → Preserves In (after_listing key answer)
  listed_then key (shown.Refused code.TableFull) = skips code.TableFull
  listed_then key (shown.Refused code.TooManyAsks) = skips code.TooManyAsks
  listed_then key (shown.Refused code.Exhausted) = skips code.Exhausted
  listed_then key (shown.Refused code.TooDeep) = keeps_then In (skip code.TooDeep) (no_entries key) (skips code.TooDeep) (operates (operation.Entries key [] false))
  listed_then key (shown.Refused c) = operates (operation.Entries key [] false)
  listed_then key _ = keeps_ret In unit

  lists : (key : Key) (es : List Entry) (s : State) → In s → Keeps In (list_new key es s)
  lists key es s h =
      let f : Book → Book = with_seen_from s.filter.volume.next_item.0 es in
      let op : Operation = operation.Entries key (map new_item_of es) true in
      (keeps_seq In (in_filter (execute_with f op)) (after_listing key) (executes f op) (listed_then key)).keeps s h

  -- a request for an ask, with its reply

  -- a reply that does not fit its request does nothing
  abbrev Fitting : Request → Type 0
  Fitting q = (r : Reply) (s : State) → is_stale q r s ≡ false → In s → Keeps In (act_on r s)

  replies : (q : Request) → Fitting q → (r : Option Reply) → Preserves In (take_if_any q r)
  replies q k None = keeps_ret In unit
  replies q k (Some r) = record { keeps = λ s h. by s h (is_stale q r s) refl } where
    by : (s : State) → In s → (old : Bool) → is_stale q r s ≡ old → Keeps In (act_unless r old s)
    by s h true e = h
    by s h false e = k r s e h

  comes_if : (q : Request) → Fitting q → (inline : Bool) → Preserves In (come_if q inline)
  comes_if q k true = record { keeps = λ s h. (keeps_seq In (come (length s.link.messages) q) (take_if_any q) (comes (length s.link.messages) q) (replies q k)).keeps s h }
  comes_if q k false = keeps_ret In unit

  posted : (q : Request) → Fitting q → (kept : Bool) → Preserves In (after_post q kept)
  posted q k true = keeps_reading In is_inline (come_if q) (comes_if q k)
  posted q k false = keeps_ret In unit

  sends : (q : Request) → Fitting q → Preserves In (send_now q)
  sends q k = keeps_seq In (post (frame.Request q)) (after_post q) (posts (frame.Request q)) (posted q k)

  fetched : (a : Ask) (i : Item) → Fitting (fetch_of a i)
  fetched a i (reply.Bytes key start bytes) s e h = (takes_bytes key start bytes).keeps s h
  fetched a i (reply.Missing key) s e h = (refuses 2 (live_ask s key)).keeps s h
  fetched a i (reply.Gone key) s e h = (refuses (number_of code.VersionGone) (live_ask s key)).keeps s h
  fetched a i (reply.Feed round clock es) s e h = let z : true ≡ false = e in cc
  fetched a i (reply.Listing key es) s e h = let z : true ≡ false = e in cc
  fetched a i (reply.Done token rid version) s e h = let z : true ≡ false = e in cc
  fetched a i (reply.Void token) s e h = let z : true ≡ false = e in cc
  fetched a i (reply.Refused token w version) s e h = let z : true ≡ false = e in cc

  listed : (a : Ask) (i : Item) → Fitting (list_of a i)
  listed a i (reply.Listing key es) s e h = lists key (filter (is_new (items_now s)) es) s h
  listed a i (reply.Missing key) s e h = (refuses 2 (live_ask s key)).keeps s h
  listed a i (reply.Gone key) s e h = let z : true ≡ false = e in cc
  listed a i (reply.Feed round clock es) s e h = let z : true ≡ false = e in cc
  listed a i (reply.Bytes key start bytes) s e h = let z : true ≡ false = e in cc
  listed a i (reply.Done token rid version) s e h = let z : true ≡ false = e in cc
  listed a i (reply.Void token) s e h = let z : true ≡ false = e in cc
  listed a i (reply.Refused token w version) s e h = let z : true ≡ false = e in cc

  -- the callbacks

  agents : (k : AskKind) (a : Ask) (i : Option Item) → Preserves In (agent_on k a i)
  agents ask_kind.Fetch a (Some i) = sends (fetch_of a i) (fetched a i)
  agents ask_kind.Fetch a None = keeps_ret In unit
  agents ask_kind.Validate a i = keeps_ret In unit
  agents ask_kind.List a (Some i) = sends (list_of a i) (listed a i)
  agents ask_kind.List a None = keeps_ret In unit
  agents ask_kind.Dehydrate a i = operates (operation.AckDehydrate a.key true)

  carries : (own : Key) (p : Bool × Operation) → Preserves In (carry_out own p)
  carries own p = keeps_seq In (in_filter (execute (planned_on own p))) note_operation (executes same_book (planned_on own p)) (λ answer. keeps_noted In (with_operation_told answer) (λ s h. h))

  provides : (a : Ask) (m : Mode) → Preserves In (provider_on a m)
  provides a mode.Replay = record { keeps = λ s h. (agents a.kind a (item_of (items_now s) a.item)).keeps s h }
  provides a mode.Filter =
      keeps_reading In plan_of (carry_out_all a.key)
      (λ ops. keeps_then In (noted without_plan) (each (carry_out a.key) ops) (keeps_noted In without_plan (λ s h. h)) (keeps_each In (carry_out a.key) ops (carries a.key)))

  calls_back : (a : Ask) → Preserves In (call_back a)
  calls_back a = keeps_reading In mode_of (provider_on a) (provides a)

  pub drained_own : (n : ℕ) → Preserves In (drained n)
  drained_own zero = record { keeps = λ s h. h }
  drained_own (suc n) = record { keeps = λ s h. popped s h (drained_own n) s.filter.outbox } where
    popped : (s : State) → In s → Preserves In (drained n) → (asks : List Ask) → Keeps In (elim asks as (λ _. Tree State (Unit {0})) [ [] ↦ Ret (record {}) s | a ∷ rest ↦ bind (call_back a (with_outbox rest s)) (λ _ t. drained n t) ])
    popped s h k [] = h
    popped s h k (a ∷ rest) = keeps_bind In (call_back a (with_outbox rest s)) (λ _ t. drained n t) ((calls_back a).keeps (with_outbox rest s) h) (λ u t j. k.keeps t j)
