-- What a reply to Fetch and to List does: each becomes one operation on its ask.
use Rattle.std.specs.Prelude.{ℕ, Bool, true, false, not, List, [], length, map, filter, Option, Some, None, is_some, ◌+◌, ◌∷◌}
use Rattle.cf_base.specs.Codes.{number_of}
use Rattle.cf_base.specs.declared.answers.Shown.{Shown}
use Rattle.cf_base.specs.declared.answers.Shown.TheVariants as shown
use Rattle.cf_base.specs.declared.codes.Code.{Code}
use Rattle.cf_base.specs.declared.codes.Code.TheVariants as code
use Rattle.cf_base.specs.declared.ids.Key.{Key}
use Rattle.cf_base.specs.declared.messages.Entry.{Entry}
use Rattle.cf_base.specs.declared.operations.NewItem.{NewItem}
use Rattle.cf_base.specs.declared.operations.Operation.{Operation}
use Rattle.cf_base.specs.declared.operations.Operation.TheVariants as operation
use Rattle.cf_base.specs.declared.spans.Span.{Span}
use Rattle.cf_base.specs.declared.waits.AskKind.{AskKind}
use Rattle.cf_base.specs.declared.waits.AskKind.TheVariants as ask_kind
use Rattle.cf_model.specs.Arrows.{Arrow, ret, seq, then_do, unit}
use Rattle.cf_model.specs.Requests.{Live, live_of}
use Rattle.cf_model.specs.Books.{Book, with_seen}
use Rattle.cf_model.specs.Identities.{by_target, entry_identity}
use Rattle.cf_model.specs.Items.{Item}
use Rattle.cf_model.specs.Operations.{execute, execute_with}
use Rattle.cf_model.specs.Skips.{skip}
use Rattle.cf_model.specs.State.{State, in_filter, items_now}

abbrev pub nothing_more : Shown → Arrow State (Unit {0})
nothing_more answer = ret unit

-- an operation, whatever it is answered
abbrev pub do_op : Operation → Arrow State (Unit {0})
do_op op = seq (in_filter (execute op)) nothing_more

abbrev pub live_ask : State → Key → Option Live
live_ask s key = live_of s.filter.waiting.asks key

-- Bytes: a Transfer

abbrev pub span_at : ℕ → ℕ → Span
span_at start len = record { start = start; len = len }

-- one that finds no room is followed by a Refuse of the same span with that code's number
abbrev pub refuse_for : Key → Span → Code → Arrow State (Unit {0})
refuse_for key span c = then_do (skip c) (do_op (operation.Refuse key span (number_of c)))

abbrev pub after_transfer : Key → Span → Shown → Arrow State (Unit {0})
after_transfer key span (shown.Refused code.Full) = refuse_for key span code.Full
after_transfer key span (shown.Refused code.TableFull) = refuse_for key span code.TableFull
after_transfer key span (shown.Refused code.TooManyAsks) = skip code.TooManyAsks
after_transfer key span (shown.Refused code.Exhausted) = skip code.Exhausted
after_transfer key span _ = ret unit

abbrev pub take_bytes : Key → ℕ → List ℕ → Arrow State (Unit {0})
take_bytes key start bytes = seq (in_filter (execute (operation.Transfer key start bytes))) (after_transfer key (span_at start (length bytes)))

-- Missing and Gone: no bytes for the whole ask, or no entries

abbrev pub no_entries : Key → Arrow State (Unit {0})
no_entries key = do_op (operation.Entries key [] false)

abbrev pub refuse_by_kind : AskKind → Live → ℕ → Arrow State (Unit {0})
refuse_by_kind ask_kind.Fetch a status = do_op (operation.Refuse a.ask.key a.ask.span status)
refuse_by_kind ask_kind.Validate a status = ret unit
refuse_by_kind ask_kind.List a status = no_entries a.ask.key
refuse_by_kind ask_kind.Dehydrate a status = ret unit

abbrev pub refuse_live : ℕ → Option Live → Arrow State (Unit {0})
refuse_live status None = ret unit
refuse_live status (Some a) = refuse_by_kind a.ask.kind a status

abbrev pub take_missing : Key → Arrow State (Unit {0})
take_missing key s = refuse_live 2 (live_ask s key) s

abbrev pub take_gone : Key → Arrow State (Unit {0})
take_gone key s = refuse_live (number_of code.VersionGone) (live_ask s key) s

-- Listing: Entries

abbrev pub new_item_of : Entry → NewItem
new_item_of e = record { name = e.name; dir = e.dir; size = e.len; identity = entry_identity e; mark = true }

abbrev pub is_new : List Item → Entry → Bool
is_new items e = not (is_some (by_target items e.rid))

-- the paths seen of new items, with the ids from this one on
abbrev pub with_seen_from : ℕ → List Entry → Book → Book
with_seen_from id [] b = b
with_seen_from id (e ∷ es) b = with_seen_from (id + 1) es (with_seen (record { item = record { 0 = id }; parent = e.parent; name = e.name }) b)

-- The ask stays live where there is no room, or no number; for any other cause there are no entries.
abbrev pub after_listing : Key → Shown → Arrow State (Unit {0})
after_listing key (shown.Refused code.TableFull) = skip code.TableFull
after_listing key (shown.Refused code.TooManyAsks) = skip code.TooManyAsks
after_listing key (shown.Refused code.Exhausted) = skip code.Exhausted
after_listing key (shown.Refused code.TooDeep) = then_do (skip code.TooDeep) (no_entries key)
after_listing key (shown.Refused c) = no_entries key
after_listing key _ = ret unit

-- entries whose items are here already are left out; the others are marked, and their paths are seen in the same step
abbrev pub list_new : Key → List Entry → Arrow State (Unit {0})
list_new key es s = seq (in_filter (execute_with (with_seen_from s.filter.volume.next_item.0 es) (operation.Entries key (map new_item_of es) true))) (after_listing key) s

abbrev pub take_listing : Key → List Entry → Arrow State (Unit {0})
take_listing key es s = list_new key (filter (is_new (items_now s)) es) s
