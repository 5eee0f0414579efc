-- What the parts of `Fetching` keep, each by what its own parts keep.
use Rattle.std.specs.Prelude.{ℕ, true, false, List, [], length, map, filter, Option, Some, None}
use Rattle.cf_base.specs.Codes.{number_of}
use Rattle.cf_base.specs.declared.answers.Shown.{Shown}
use Rattle.cf_base.specs.declared.answers.Shown.TheVariants as shown
use Rattle.cf_base.specs.declared.codes.Code.{Code}
use Rattle.cf_base.specs.declared.codes.Code.TheVariants as code
use Rattle.cf_base.specs.declared.ids.Key.{Key}
use Rattle.cf_base.specs.declared.messages.Entry.{Entry}
use Rattle.cf_base.specs.declared.operations.Operation.{Operation}
use Rattle.cf_base.specs.declared.operations.Operation.TheVariants as operation
use Rattle.cf_base.specs.declared.spans.Span.{Span}
use Rattle.cf_base.specs.declared.waits.AskKind.{AskKind}
use Rattle.cf_base.specs.declared.waits.AskKind.TheVariants as ask_kind
use Rattle.cf_model.specs.Arrows.{unit}
use Rattle.cf_model.specs.Requests.{Live}
use Rattle.cf_model.specs.Operations.{execute, execute_with}
use Rattle.cf_model.specs.Skips.{skip}
use Rattle.cf_model.specs.State.{State, in_filter, items_now}
use Rattle.cf_model.proofs.OperationsKeep as operations_keep
use Rattle.cf_model.proofs.SkipsKeep as skips_keep
use Rattle.cf_model.specs.Fetching.{after_listing, after_transfer, do_op, is_new, list_new, live_ask, new_item_of, no_entries, nothing_more, refuse_by_kind, refuse_for, refuse_live, span_at, take_bytes, take_gone, take_listing, take_missing, with_seen_from}
use Rattle.cf_model.proofs.Closed.{Closed}
use Rattle.cf_model.proofs.ArrowLaws.{keeps_lifted, keeps_ret, keeps_seq, keeps_then}
use Rattle.cf_model.specs.Arrows.{Preserves}
use Rattle.cf_model.specs.State.{with_filter}

pub nothing_more_keeps : (P : State → Type 0) → Closed P → (x1 : Shown) → Preserves P (nothing_more x1)
nothing_more_keeps P closed answer = keeps_ret P unit

pub do_op_keeps : (P : State → Type 0) → Closed P → (x1 : Operation) → Preserves P (do_op x1)
do_op_keeps P closed op = keeps_seq P (in_filter (execute op)) nothing_more (keeps_lifted P (λ s. s.filter) with_filter (execute op) (λ t i. i) (λ t1 i2. (operations_keep.execute_keeps (λ x. P (with_filter x t1)) (closed.on_filter t1 i2) op))) (nothing_more_keeps P closed)

pub refuse_for_keeps : (P : State → Type 0) → Closed P → (x1 : Key) → (x2 : Span) → (x3 : Code) → Preserves P (refuse_for x1 x2 x3)
refuse_for_keeps P closed key span c = keeps_then P (skip c) (do_op (operation.Refuse key span (number_of c))) (skips_keep.skip_keeps P closed c) (do_op_keeps P closed (operation.Refuse key span (number_of c)))

pub after_transfer_keeps : (P : State → Type 0) → Closed P → (x1 : Key) → (x2 : Span) → (x3 : Shown) → Preserves P (after_transfer x1 x2 x3)
after_transfer_keeps P closed key span (shown.Refused code.Full) = refuse_for_keeps P closed key span code.Full
after_transfer_keeps P closed key span (shown.Refused code.TableFull) = refuse_for_keeps P closed key span code.TableFull
after_transfer_keeps P closed key span (shown.Refused code.TooManyAsks) = skips_keep.skip_keeps P closed code.TooManyAsks
after_transfer_keeps P closed key span (shown.Refused code.Exhausted) = skips_keep.skip_keeps P closed code.Exhausted
after_transfer_keeps P closed key span _ = keeps_ret P unit

pub take_bytes_keeps : (P : State → Type 0) → Closed P → (x1 : Key) → (x2 : ℕ) → (x3 : List ℕ) → Preserves P (take_bytes x1 x2 x3)
take_bytes_keeps P closed key start bytes = keeps_seq P (in_filter (execute (operation.Transfer key start bytes))) (after_transfer key (span_at start (length bytes))) (keeps_lifted P (λ s. s.filter) with_filter (execute (operation.Transfer key start bytes)) (λ t i. i) (λ t1 i2. (operations_keep.execute_keeps (λ x. P (with_filter x t1)) (closed.on_filter t1 i2) (operation.Transfer key start bytes)))) (after_transfer_keeps P closed key (span_at start (length bytes)))

pub no_entries_keeps : (P : State → Type 0) → Closed P → (x1 : Key) → Preserves P (no_entries x1)
no_entries_keeps P closed key = do_op_keeps P closed (operation.Entries key [] false)

pub refuse_by_kind_keeps : (P : State → Type 0) → Closed P → (x1 : AskKind) → (x2 : Live) → (x3 : ℕ) → Preserves P (refuse_by_kind x1 x2 x3)
refuse_by_kind_keeps P closed ask_kind.Fetch a status = do_op_keeps P closed (operation.Refuse a.ask.key a.ask.span status)
refuse_by_kind_keeps P closed ask_kind.Validate a status = keeps_ret P unit
refuse_by_kind_keeps P closed ask_kind.List a status = no_entries_keeps P closed a.ask.key
refuse_by_kind_keeps P closed ask_kind.Dehydrate a status = keeps_ret P unit

pub refuse_live_keeps : (P : State → Type 0) → Closed P → (x1 : ℕ) → (x2 : Option Live) → Preserves P (refuse_live x1 x2)
refuse_live_keeps P closed status None = keeps_ret P unit
refuse_live_keeps P closed status (Some a) = refuse_by_kind_keeps P closed a.ask.kind a status

pub take_missing_keeps : (P : State → Type 0) → Closed P → (x1 : Key) → Preserves P (take_missing x1)
take_missing_keeps P closed key = record { keeps = λ s i_. ((refuse_live_keeps P closed 2 (live_ask s key))).keeps s i_ }

pub take_gone_keeps : (P : State → Type 0) → Closed P → (x1 : Key) → Preserves P (take_gone x1)
take_gone_keeps P closed key = record { keeps = λ s i_. ((refuse_live_keeps P closed (number_of code.VersionGone) (live_ask s key))).keeps s i_ }

pub after_listing_keeps : (P : State → Type 0) → Closed P → (x1 : Key) → (x2 : Shown) → Preserves P (after_listing x1 x2)
after_listing_keeps P closed key (shown.Refused code.TableFull) = skips_keep.skip_keeps P closed code.TableFull
after_listing_keeps P closed key (shown.Refused code.TooManyAsks) = skips_keep.skip_keeps P closed code.TooManyAsks
after_listing_keeps P closed key (shown.Refused code.Exhausted) = skips_keep.skip_keeps P closed code.Exhausted
after_listing_keeps P closed key (shown.Refused code.TooDeep) = keeps_then P (skip code.TooDeep) (no_entries key) (skips_keep.skip_keeps P closed code.TooDeep) (no_entries_keeps P closed key)
after_listing_keeps P closed key (shown.Refused c) = no_entries_keeps P closed key
after_listing_keeps P closed key _ = keeps_ret P unit

pub list_new_keeps : (P : State → Type 0) → Closed P → (x1 : Key) → (x2 : List Entry) → Preserves P (list_new x1 x2)
list_new_keeps P closed key es = record { keeps = λ s i_. ((keeps_seq P (in_filter (execute_with (with_seen_from s.filter.volume.next_item.0 es) (operation.Entries key (map new_item_of es) true))) (after_listing key) (keeps_lifted P (λ s. s.filter) with_filter (execute_with (with_seen_from s.filter.volume.next_item.0 es) (operation.Entries key (map new_item_of es) true)) (λ t i. i) (λ t1 i2. (operations_keep.execute_with_keeps (λ x. P (with_filter x t1)) (closed.on_filter t1 i2) (with_seen_from s.filter.volume.next_item.0 es) (operation.Entries key (map new_item_of es) true)))) (after_listing_keeps P closed key))).keeps s i_ }

pub take_listing_keeps : (P : State → Type 0) → Closed P → (x1 : Key) → (x2 : List Entry) → Preserves P (take_listing x1 x2)
take_listing_keeps P closed key es = record { keeps = λ s i_. ((list_new_keeps P closed key (filter (is_new (items_now s)) es))).keeps s i_ }
