-- The parts of `Fetching` keep identities named.
use Rattle.std.proofs.Common.{inr, ◌∷◌, refl}
use Rattle.std.specs.Prelude.{Bool, ℕ, true, false, List, [], length, map, filter, Option, Some, None}
use Rattle.cf_base.specs.Codes.{number_of}
use Rattle.cf_base.specs.declared.answers.Shown.{Shown}
use Rattle.cf_base.specs.declared.answers.Shown.TheVariants as shown
use Rattle.cf_base.specs.declared.codes.Code.{Code}
use Rattle.cf_base.specs.declared.codes.Code.TheVariants as code
use Rattle.cf_base.specs.declared.ids.Key.{Key}
use Rattle.cf_base.specs.declared.messages.Entry.{Entry}
use Rattle.cf_base.specs.declared.operations.Operation.{Operation}
use Rattle.cf_base.specs.declared.operations.Operation.TheVariants as operation
use Rattle.cf_base.specs.declared.spans.Span.{Span}
use Rattle.cf_base.specs.declared.waits.AskKind.{AskKind}
use Rattle.cf_base.specs.declared.waits.AskKind.TheVariants as ask_kind
use Rattle.cf_model.specs.Arrows.{Preserves, unit}
use Rattle.cf_model.specs.Fetching.{after_listing, after_transfer, do_op, is_new, list_new, live_ask, new_item_of, no_entries, nothing_more, refuse_by_kind, refuse_for, refuse_live, span_at, take_bytes, take_gone, take_listing, take_missing, with_seen_from}
use Rattle.cf_model.specs.Operations.{execute, execute_with}
use Rattle.cf_model.specs.Requests.{Live}
use Rattle.cf_model.specs.Skips.{skip}
use Rattle.cf_model.specs.State.{in_filter, items_now}
use Rattle.cf_model.proofs.ArrowLaws.{keeps_ret, keeps_seq, keeps_then}
use Rattle.cf_model_laws.specs.Invariant.{All}
use Rattle.cf_pair_identities.specs.Named.{GivesNew, IsNew, Named}
use Rattle.cf_pair_identities.proofs.NamedSteps.{in_filter_keeps}
use Rattle.cf_pair_identities.proofs.OperationsNamed as operations_named
use Rattle.cf_pair_identities.proofs.SkipsNamed as skips_named

pub nothing_more_keeps : (full : Bool) → (x1 : Shown) → Preserves (Named full) (nothing_more x1)
nothing_more_keeps full answer = keeps_ret (Named full) unit

pub do_op_keeps : (full : Bool) → (x1 : Operation) → GivesNew x1 → Preserves (Named full) (do_op x1)
do_op_keeps full op g = keeps_seq (Named full) (in_filter (execute op)) nothing_more (in_filter_keeps full (execute op) (operations_named.execute_keeps full op g)) (nothing_more_keeps full)

pub refuse_for_keeps : (full : Bool) → (x1 : Key) → (x2 : Span) → (x3 : Code) → Preserves (Named full) (refuse_for x1 x2 x3)
refuse_for_keeps full key span c = keeps_then (Named full) (skip c) (do_op (operation.Refuse key span (number_of c))) (skips_named.skip_keeps full c) (do_op_keeps full (operation.Refuse key span (number_of c)) tt)

pub after_transfer_keeps : (full : Bool) → (x1 : Key) → (x2 : Span) → (x3 : Shown) → Preserves (Named full) (after_transfer x1 x2 x3)
after_transfer_keeps full key span (shown.Refused code.Full) = refuse_for_keeps full key span code.Full
after_transfer_keeps full key span (shown.Refused code.TableFull) = refuse_for_keeps full key span code.TableFull
after_transfer_keeps full key span (shown.Refused code.TooManyAsks) = skips_named.skip_keeps full code.TooManyAsks
after_transfer_keeps full key span (shown.Refused code.Exhausted) = skips_named.skip_keeps full code.Exhausted
after_transfer_keeps full key span _ = keeps_ret (Named full) unit

pub take_bytes_keeps : (full : Bool) → (x1 : Key) → (x2 : ℕ) → (x3 : List ℕ) → Preserves (Named full) (take_bytes x1 x2 x3)
take_bytes_keeps full key start bytes =
    keeps_seq (Named full) (in_filter (execute (operation.Transfer key start bytes))) (after_transfer key (span_at start (length bytes)))
    (in_filter_keeps full (execute (operation.Transfer key start bytes)) (operations_named.execute_keeps full (operation.Transfer key start bytes) tt))
    (after_transfer_keeps full key (span_at start (length bytes)))

pub no_entries_keeps : (full : Bool) → (x1 : Key) → Preserves (Named full) (no_entries x1)
no_entries_keeps full key = do_op_keeps full (operation.Entries key [] false) tt

pub refuse_by_kind_keeps : (full : Bool) → (x1 : AskKind) → (x2 : Live) → (x3 : ℕ) → Preserves (Named full) (refuse_by_kind x1 x2 x3)
refuse_by_kind_keeps full ask_kind.Fetch a status = do_op_keeps full (operation.Refuse a.ask.key a.ask.span status) tt
refuse_by_kind_keeps full ask_kind.Validate a status = keeps_ret (Named full) unit
refuse_by_kind_keeps full ask_kind.List a status = no_entries_keeps full a.ask.key
refuse_by_kind_keeps full ask_kind.Dehydrate a status = keeps_ret (Named full) unit

pub refuse_live_keeps : (full : Bool) → (x1 : ℕ) → (x2 : Option Live) → Preserves (Named full) (refuse_live x1 x2)
refuse_live_keeps full status None = keeps_ret (Named full) unit
refuse_live_keeps full status (Some a) = refuse_by_kind_keeps full a.ask.kind a status

pub take_missing_keeps : (full : Bool) → (x1 : Key) → Preserves (Named full) (take_missing x1)
take_missing_keeps full key = record { keeps = λ s h. (refuse_live_keeps full 2 (live_ask s key)).keeps s h }

pub take_gone_keeps : (full : Bool) → (x1 : Key) → Preserves (Named full) (take_gone x1)
take_gone_keeps full key = record { keeps = λ s h. (refuse_live_keeps full (number_of code.VersionGone) (live_ask s key)).keeps s h }

pub after_listing_keeps : (full : Bool) → (x1 : Key) → (x2 : Shown) → Preserves (Named full) (after_listing x1 x2)
after_listing_keeps full key (shown.Refused code.TableFull) = skips_named.skip_keeps full code.TableFull
after_listing_keeps full key (shown.Refused code.TooManyAsks) = skips_named.skip_keeps full code.TooManyAsks
after_listing_keeps full key (shown.Refused code.Exhausted) = skips_named.skip_keeps full code.Exhausted
after_listing_keeps full key (shown.Refused code.TooDeep) = keeps_then (Named full) (skip code.TooDeep) (no_entries key) (skips_named.skip_keeps full code.TooDeep) (no_entries_keeps full key)
after_listing_keeps full key (shown.Refused c) = no_entries_keeps full key
after_listing_keeps full key _ = keeps_ret (Named full) unit

new_items : (es : List Entry) → All IsNew (map new_item_of es)
new_items [] = tt
new_items (e ∷ es) = (inr (e.dir, e.rid, e.version, (λ d. d), refl), new_items es)

pub list_new_keeps : (full : Bool) → (x1 : Key) → (x2 : List Entry) → Preserves (Named full) (list_new x1 x2)
list_new_keeps full key es = record { keeps = λ s h. (keeps_seq (Named full) (in_filter (execute_with (with_seen_from s.filter.volume.next_item.0 es) (operation.Entries key (map new_item_of es) true))) (after_listing key) (in_filter_keeps full (execute_with (with_seen_from s.filter.volume.next_item.0 es) (operation.Entries key (map new_item_of es) true)) (operations_named.execute_with_keeps full (with_seen_from s.filter.volume.next_item.0 es) (operation.Entries key (map new_item_of es) true) (new_items es))) (after_listing_keeps full key)).keeps s h }

pub take_listing_keeps : (full : Bool) → (x1 : Key) → (x2 : List Entry) → Preserves (Named full) (take_listing x1 x2)
take_listing_keeps full key es = record { keeps = λ s h. (list_new_keeps full key (filter (is_new (items_now s)) es)).keeps s h }
