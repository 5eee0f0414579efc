-- Operations of a provider on a live ask.
use Rattle.std.specs.Prelude.{◌≡◌, ◌==◌, ◌+◌, ◌&&◌, ◌||◌, Bool, true, ℕ, List, [], ◌∷◌, length, slice_range, Option, Some, None, is_some}
use Rattle.std.specs.List.{list_all}
use Rattle.cf_ask_rule.specs.Plans.{Planned}
use Rattle.cf_base.specs.declared.answers.AuxRecord.{AuxRecord}
use Rattle.cf_base.specs.declared.answers.Shown.{Shown}
use Rattle.cf_base.specs.declared.answers.Shown.TheVariants as shown
use Rattle.cf_base.specs.declared.changes.Change.{Change}
use Rattle.cf_base.specs.declared.changes.Change.TheVariants as change
use Rattle.cf_base.specs.declared.codes.Code.{Code}
use Rattle.cf_base.specs.declared.codes.Code.TheVariants as code
use Rattle.cf_base.specs.declared.ids.ItemId.{ItemId}
use Rattle.cf_base.specs.declared.operations.Operation.{Operation}
use Rattle.cf_base.specs.declared.spans.Span.{Span}
use Rattle.cf_base.specs.declared.waits.Ask.{Ask}
use Rattle.cf_provider.specs.Checks.{base_at, check_of, span_named, tests_by}
use Rattle.cf_model.specs.Arrows.{Arrow, one, reading, ret, then_do}
use Rattle.cf_model.specs.Books.{Book}
use Rattle.cf_model.specs.Calls.{size_at}
use Rattle.cf_model.specs.Changes.{change as one_change, next_number, no_blocks, no_places, no_table}
use Rattle.cf_model.specs.Items.{Item, base_of, item_of}
use Rattle.cf_model.specs.Operations.{as_it_is, checked, done, is_outside, key_of, live_at, waiting_after, with_changes}
use Rattle.cf_model.specs.Requests.{Deed, Leaves, Live, Restarts, Waiting, no_numbers, too_many_asks}
use Rattle.cf_model.specs.Settling.{settle}
use Rattle.cf_model.specs.State.{Filter}
use Rattle.cf_model.specs.Words.{first_of, part}
use Rattle.cf_filter_steps.specs.Listing.{HasRecordsBeside}
use Rattle.cf_filter_steps.specs.Looking.{IsSeen}
use Rattle.cf_filter_steps.specs.Putting.{bytes_there, held_at}
use Rattle.cf_filter_steps.specs.Settled.{IsStepAfter}
use Rattle.cf_filter_steps.specs.Suiting.{Ready, Suits}

-- a change and the step after it

-- Why they are refused. Whether there would be too many asks counts where that is said.
abbrev pub change_tests : Bool → ItemId → Change → Deed → Filter → List (Bool × Code)
change_tests counts item c d s =
    let after : Waiting = waiting_after item d (with_changes (c ∷ []) s) in
    (no_table s.volume (c ∷ []), code.TableFull) ∷ (no_blocks s.volume (c ∷ []), code.Full) ∷ (counts && too_many_asks after, code.TooManyAsks)
    ∷ (no_places s.volume 1 || no_numbers after, code.Exhausted) ∷ []

abbrev pub change_refusal : Bool → ItemId → Change → Deed → Filter → Option Code
change_refusal counts item c d s = first_of (change_tests counts item c d s)

-- the code of the first of four refusals
abbrev pub change_code : Bool → Bool → Bool → Bool → Option Code
change_code table full many none = first_of ((table, code.TableFull) ∷ (full, code.Full) ∷ (many, code.TooManyAsks) ∷ (none, code.Exhausted) ∷ [])

abbrev pub changed_then : ItemId → Change → Deed → Arrow Filter Shown
changed_then item c d = then_do (one_change c) (then_do (settle item d) done)

abbrev pub operated : Bool → ItemId → Change → Deed → Arrow Filter Shown
operated counts item c d = checked (change_tests counts item c d) (changed_then item c d)

-- a change of the item that can be looked at and suits
pub record IsOperable (item : ItemId) (c : Change) (s : Filter) : Type 0 where
  pub seen : IsSeen c item
  pub suits : Suits c s.volume

-- and the plan of the step after it
pub record IsOperableBy (item : ItemId) (c : Change) (d : Deed) (p : Planned) (s : Filter) : Type 0 where
  pub operable : IsOperable item c s
  pub step : IsStepAfter item (c ∷ []) d p s

-- which nothing refuses
pub record MayChangeBy (item : ItemId) (c : Change) (d : Deed) (p : Planned) (s : Filter) : Type 0 where
  pub ready : Ready c s
  pub step : IsStepAfter item (c ∷ []) d p s

-- the size of an item, 0 of one that is not there
abbrev pub IsSizeOf : ItemId → ℕ → Filter → Type 0
IsSizeOf item size s = size_at item s ≡ size

abbrev pub restarted : ItemId → ℕ → Arrow Filter Shown
restarted item size = operated true item (change.Emptied item 0 size) Restarts

-- what is read of a span

-- each position of the span lies below the item's size, and is here
abbrev pub is_whole_in : Span → Item → Bool
is_whole_in asked i = (length (slice_range i.held asked.start (asked.start + asked.len)) == asked.len) && list_all is_some (slice_range i.held asked.start (asked.start + asked.len))

abbrev pub holds_all : ItemId → Span → Filter → Bool
holds_all item asked s = (length (held_at item asked s) == asked.len) && list_all is_some (held_at item asked s)

abbrev pub shows_there : ItemId → Span → Filter → Shown
shows_there item asked s = shown.Retrieved (bytes_there item asked s)

-- a read, after which no block leaves the ask, and its answer
abbrev pub leaves_none : Ask → Shown → Arrow Filter Shown
leaves_none ask answer = then_do (one as_it_is) (then_do (settle ask.item (Leaves ask.key [])) (ret answer))

abbrev pub retrieved : Ask → Span → Arrow Filter Shown
retrieved ask asked = reading (shows_there ask.item asked) (leaves_none ask)

-- an operation

-- the refusals that hang on the asks alone do not hold
abbrev pub Passes : Operation → Filter → Type 0
Passes op s = check_of op (base_at (live_at (key_of op) s) s) s.waiting ≡ None

-- these refusals, on a live ask
abbrev pub tests_on : Operation → Live → Filter → List (Bool × Code)
tests_on op a s = tests_by op (part base_of 0 (item_of s.volume.items a.ask.item)) a.ask.kind (is_outside a (span_named op).start (span_named op).len)

-- The ask that it answers is live, and these refusals do not hold. Where entries come, so do these records.
pub record IsLiveFor (f : Book → Book) (op : Operation) (ask : Ask) (records : List AuxRecord) (a : Live) (s : Filter) : Type 0 where
  pub live : live_at (key_of op) s ≡ Some a
  pub same : a.ask ≡ ask
  pub passes : first_of (tests_on op a s) ≡ None
  pub beside : HasRecordsBeside (next_number s.volume) s.volume.book records (f s.volume.book)

-- the book is given these records besides
abbrev pub Keeps : (Book → Book) → List AuxRecord → Filter → Type 0
Keeps f records s = HasRecordsBeside (next_number s.volume) s.volume.book records (f s.volume.book)
