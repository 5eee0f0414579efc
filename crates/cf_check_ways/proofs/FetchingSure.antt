-- The parts of `Fetching` are sure, each by its own parts.
use Rattle.std.proofs.Common.{refl}
use Rattle.std.specs.Prelude.{ℕ, true, false, List, [], length, map, filter, Option, Some, None}
use Rattle.cf_base.specs.Codes.{number_of}
use Rattle.cf_base.specs.declared.answers.Shown.{Shown}
use Rattle.cf_base.specs.declared.answers.Shown.TheVariants as shown
use Rattle.cf_base.specs.declared.codes.Code.{Code}
use Rattle.cf_base.specs.declared.codes.Code.TheVariants as code
use Rattle.cf_base.specs.declared.ids.Key.{Key}
use Rattle.cf_base.specs.declared.messages.Entry.{Entry}
use Rattle.cf_base.specs.declared.operations.Operation.{Operation}
use Rattle.cf_base.specs.declared.operations.Operation.TheVariants as operation
use Rattle.cf_base.specs.declared.spans.Span.{Span}
use Rattle.cf_base.specs.declared.waits.AskKind.{AskKind}
use Rattle.cf_base.specs.declared.waits.AskKind.TheVariants as ask_kind
use Rattle.cf_model.specs.Arrows.{seq, unit}
use Rattle.cf_model.specs.Requests.{Live}
use Rattle.cf_model.specs.Operations.{execute, execute_with}
use Rattle.cf_model.specs.Skips.{skip}
use Rattle.cf_model.specs.State.{in_filter, items_now}
use Rattle.cf_model.specs.Fetching.{after_listing, after_transfer, do_op, is_new, list_new, live_ask, new_item_of, no_entries, nothing_more, refuse_by_kind, refuse_for, refuse_live, span_at, take_bytes, take_gone, take_listing, take_missing, with_seen_from}
use Rattle.cf_check_ways.specs.Ways.{IsSure, of_state}
use Rattle.cf_check_ways.proofs.Sure.{sure_fixed, sure_ret, sure_seq, sure_then}
use Rattle.cf_check_ways.proofs.VolumeSteps.{sure_in_filter}
use Rattle.cf_check_ways.proofs.OperationsSure as operations_sure
use Rattle.cf_check_ways.proofs.SkipsSure as skips_sure

pub nothing_more_sure : (x1 : Shown) → IsSure of_state (nothing_more x1)
nothing_more_sure answer = sure_ret of_state unit

pub do_op_sure : (x1 : Operation) → IsSure of_state (do_op x1)
do_op_sure op = sure_seq of_state (in_filter (execute op)) nothing_more (sure_in_filter (execute op) (operations_sure.execute_sure op)) (nothing_more_sure)

pub refuse_for_sure : (x1 : Key) → (x2 : Span) → (x3 : Code) → IsSure of_state (refuse_for x1 x2 x3)
refuse_for_sure key span c = sure_then of_state (skip c) (do_op (operation.Refuse key span (number_of c))) (skips_sure.skip_sure c) (do_op_sure (operation.Refuse key span (number_of c)))

pub after_transfer_sure : (x1 : Key) → (x2 : Span) → (x3 : Shown) → IsSure of_state (after_transfer x1 x2 x3)
after_transfer_sure key span (shown.Refused code.Full) = refuse_for_sure key span code.Full
after_transfer_sure key span (shown.Refused code.TableFull) = refuse_for_sure key span code.TableFull
after_transfer_sure key span (shown.Refused code.TooManyAsks) = skips_sure.skip_sure code.TooManyAsks
after_transfer_sure key span (shown.Refused code.Exhausted) = skips_sure.skip_sure code.Exhausted
after_transfer_sure key span _ = sure_ret of_state unit

pub take_bytes_sure : (x1 : Key) → (x2 : ℕ) → (x3 : List ℕ) → IsSure of_state (take_bytes x1 x2 x3)
take_bytes_sure key start bytes = sure_seq of_state (in_filter (execute (operation.Transfer key start bytes))) (after_transfer key (span_at start (length bytes))) (sure_in_filter (execute (operation.Transfer key start bytes)) (operations_sure.execute_sure (operation.Transfer key start bytes))) (after_transfer_sure key (span_at start (length bytes)))

pub no_entries_sure : (x1 : Key) → IsSure of_state (no_entries x1)
no_entries_sure key = do_op_sure (operation.Entries key [] false)

pub refuse_by_kind_sure : (x1 : AskKind) → (x2 : Live) → (x3 : ℕ) → IsSure of_state (refuse_by_kind x1 x2 x3)
refuse_by_kind_sure ask_kind.Fetch a status = do_op_sure (operation.Refuse a.ask.key a.ask.span status)
refuse_by_kind_sure ask_kind.Validate a status = sure_ret of_state unit
refuse_by_kind_sure ask_kind.List a status = no_entries_sure a.ask.key
refuse_by_kind_sure ask_kind.Dehydrate a status = sure_ret of_state unit

pub refuse_live_sure : (x1 : ℕ) → (x2 : Option Live) → IsSure of_state (refuse_live x1 x2)
refuse_live_sure status None = sure_ret of_state unit
refuse_live_sure status (Some a) = refuse_by_kind_sure a.ask.kind a status

pub take_missing_sure : (x1 : Key) → IsSure of_state (take_missing x1)
take_missing_sure key = sure_fixed of_state (take_missing key) (λ x. refuse_live 2 (live_ask x key)) (λ s. refl) (λ x. refuse_live_sure 2 (live_ask x key))

pub take_gone_sure : (x1 : Key) → IsSure of_state (take_gone x1)
take_gone_sure key = sure_fixed of_state (take_gone key) (λ x. refuse_live (number_of code.VersionGone) (live_ask x key)) (λ s. refl) (λ x. refuse_live_sure (number_of code.VersionGone) (live_ask x key))

pub after_listing_sure : (x1 : Key) → (x2 : Shown) → IsSure of_state (after_listing x1 x2)
after_listing_sure key (shown.Refused code.TableFull) = skips_sure.skip_sure code.TableFull
after_listing_sure key (shown.Refused code.TooManyAsks) = skips_sure.skip_sure code.TooManyAsks
after_listing_sure key (shown.Refused code.Exhausted) = skips_sure.skip_sure code.Exhausted
after_listing_sure key (shown.Refused code.TooDeep) = sure_then of_state (skip code.TooDeep) (no_entries key) (skips_sure.skip_sure code.TooDeep) (no_entries_sure key)
after_listing_sure key (shown.Refused c) = no_entries_sure key
after_listing_sure key _ = sure_ret of_state unit

pub list_new_sure : (x1 : Key) → (x2 : List Entry) → IsSure of_state (list_new x1 x2)
list_new_sure key es = sure_fixed of_state (list_new key es) (λ x. seq (in_filter (execute_with (with_seen_from x.filter.volume.next_item.0 es) (operation.Entries key (map new_item_of es) true))) (after_listing key)) (λ s. refl) (λ x. sure_seq of_state (in_filter (execute_with (with_seen_from x.filter.volume.next_item.0 es) (operation.Entries key (map new_item_of es) true))) (after_listing key) (sure_in_filter (execute_with (with_seen_from x.filter.volume.next_item.0 es) (operation.Entries key (map new_item_of es) true)) (operations_sure.execute_with_sure (with_seen_from x.filter.volume.next_item.0 es) (operation.Entries key (map new_item_of es) true))) (after_listing_sure key))

pub take_listing_sure : (x1 : Key) → (x2 : List Entry) → IsSure of_state (take_listing x1 x2)
take_listing_sure key es = sure_fixed of_state (take_listing key es) (λ x. list_new key (filter (is_new (items_now x)) es)) (λ s. refl) (λ x. list_new_sure key (filter (is_new (items_now x)) es))
