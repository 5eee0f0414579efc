-- The refusals of an operation that hang on the waits and asks alone, and on the base length of the ask's file.
use Rattle.std.specs.Prelude.{ℕ, Bool, not, length, Option, Some, None, Result, Ok, Err, List, [], ◌∷◌, ◌+◌, ◌%◌, ◌||◌, ◌==◌}
use Rattle.cf_base.specs.declared.codes.Code.{Code}
use Rattle.cf_base.specs.declared.codes.Code.TheVariants as code
use Rattle.cf_base.specs.declared.operations.Operation.{Operation}
use Rattle.cf_base.specs.declared.operations.Operation.TheVariants as operation
use Rattle.cf_base.specs.declared.spans.Span.{Span}
use Rattle.cf_base.specs.declared.waits.AskKind.{AskKind}
use Rattle.cf_model.specs.Items.{base_of, item_of}
use Rattle.cf_model.specs.Missing.{no_span, span_of}
use Rattle.cf_model.specs.Operations.{is_outside, key_of}
use Rattle.cf_model.specs.Requests.{Live, Waiting, is_data, is_dehydrate, is_fetch, is_list, is_validate, live_of}
use Rattle.cf_model.specs.State.{Filter}
use Rattle.cf_model.specs.Words.{first_of, part}

-- empty, not from the start of a block, or neither to a block's end nor to the base length
abbrev pub is_misaligned_by : ℕ → ℕ → ℕ → Bool
is_misaligned_by base start len = (len == 0) || not (start % 4096 == 0) || not (((start + len) % 4096 == 0) || (start + len == base))

-- the span that an operation names, and an empty one where it names none
abbrev pub span_named : Operation → Span
span_named (operation.Transfer key at bytes) = span_of at (length bytes)
span_named (operation.Refuse key asked status) = asked
span_named (operation.Retrieve key asked) = asked
span_named (operation.Ack key asked good) = asked
span_named _ = no_span

abbrev pub whole_blocks : Bool → Bool → Bool → List (Bool × Code)
whole_blocks wrong misaligned outside = (wrong, code.WrongKind) ∷ (misaligned, code.Misaligned) ∷ (outside, code.OutsideAsk) ∷ []

-- by the kind of the ask, and whether it does not own all blocks of the span, in the order of the operation's row
abbrev pub tests_by : Operation → ℕ → AskKind → Bool → List (Bool × Code)
tests_by (operation.Transfer key at bytes) base kind outside = whole_blocks (not (is_fetch kind)) (is_misaligned_by base at (length bytes)) outside
tests_by (operation.Refuse key asked status) base kind outside = whole_blocks (not (is_fetch kind)) (is_misaligned_by base asked.start asked.len) outside
tests_by (operation.Retrieve key asked) base kind outside = (not (is_validate kind), code.WrongKind) ∷ (outside, code.OutsideAsk) ∷ []
tests_by (operation.Ack key asked good) base kind outside = whole_blocks (not (is_validate kind)) (is_misaligned_by base asked.start asked.len) outside
tests_by (operation.Restart key) base kind outside = (not (is_data kind), code.WrongKind) ∷ []
tests_by (operation.Entries key list good) base kind outside = (not (is_list kind), code.WrongKind) ∷ []
tests_by (operation.AckDehydrate key good) base kind outside = (not (is_dehydrate kind), code.WrongKind) ∷ []

abbrev pub check_on : Operation → ℕ → Option Live → Option Code
check_on op base None = Some code.StaleKey
check_on op base (Some a) = first_of (tests_by op base a.ask.kind (is_outside a (span_named op).start (span_named op).len))

-- the first refusal that holds, if there is one
abbrev pub check_of : Operation → ℕ → Waiting → Option Code
check_of op base s = check_on op base (live_of s.asks (key_of op))

-- why a result is refused
abbrev pub refusal : Result (Unit {0}) Code → Option Code
refusal (Ok u) = None
refusal (Err c) = Some c

-- the base length of the file of a live ask
abbrev pub base_at : Option Live → Filter → ℕ
base_at None s = 0
base_at (Some a) s = part base_of 0 (item_of s.volume.items a.ask.item)
