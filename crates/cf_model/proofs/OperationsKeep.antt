-- What the parts of `Operations` keep, each by what its own parts keep.
use Rattle.std.specs.Prelude.{ℕ, Bool, List, [], ◌∷◌, length, Option, Some, None}
use Rattle.cf_base.specs.declared.changes.Change.{Change}
use Rattle.cf_base.specs.declared.changes.Change.TheVariants as change
use Rattle.cf_base.specs.declared.answers.Shown.{Shown}
use Rattle.cf_base.specs.declared.answers.Shown.TheVariants as shown
use Rattle.cf_base.specs.declared.codes.Code.{Code}
use Rattle.cf_base.specs.declared.codes.Code.TheVariants as code
use Rattle.cf_base.specs.declared.operations.NewItem.{NewItem}
use Rattle.cf_base.specs.declared.operations.Operation.{Operation}
use Rattle.cf_base.specs.declared.operations.Operation.TheVariants as operation
use Rattle.cf_base.specs.declared.spans.Span.{Span}
use Rattle.cf_base.specs.declared.waits.Cause.TheVariants as cause
use Rattle.cf_model.specs.Arrows.{Arrow, one, reading, ret, then_do}
use Rattle.cf_model.specs.Requests.{Fails, Leaves, Live, Restarts}
use Rattle.cf_model.specs.Blocks.{blocks_of}
use Rattle.cf_model.specs.Books.{Book}
use Rattle.cf_model.specs.Changes.{change, changes, same_book}
use Rattle.cf_model.specs.Items.{bytes_held}
use Rattle.cf_model.specs.Settling.{settle}
use Rattle.cf_model.specs.State.{Filter}
use Rattle.cf_model.specs.Words.{first_of}
use Rattle.cf_model.specs.Operations.{ack, ack_change, ack_deed, ack_dehydrate, ack_tests, as_it_is, changes_listed, changes_with, checked, consent_by, consent_changes, consent_deed, consent_tests, done, entries, entries_by, entries_deed, entries_tests, execute, execute_with, held_in, key_of, live_at, on_ask, on_live, refuse, refuse_tests, restart, restart_by, restart_change, restart_tests, retrieve, retrieve_by, retrieve_tests, second_verdict, transfer, transfer_by, transfer_tests}
use Rattle.cf_model.proofs.Closed.{ClosedFilter}
use Rattle.cf_model.proofs.ArrowLaws.{keeps_each, keeps_one, keeps_reading, keeps_ret, keeps_then, keeps_unless}
use Rattle.cf_model.specs.Arrows.{Preserves}

pub checked_keeps : (P : Filter → Type 0) → ClosedFilter P → (x1 : (Filter → List (Bool × Code))) → (x2 : Arrow Filter Shown) → (Preserves P (x2)) → Preserves P (checked x1 x2)
checked_keeps P closed tests f f_keeps = record { keeps = λ s i_. ((keeps_unless P shown.Refused (first_of (tests s)) f f_keeps)).keeps s i_ }

pub done_keeps : (P : Filter → Type 0) → ClosedFilter P → Preserves P (done)
done_keeps P closed = keeps_ret P shown.Done

pub transfer_by_keeps : (P : Filter → Type 0) → ClosedFilter P → (x1 : Live) → (x2 : Change) → (x3 : List ℕ) → Preserves P (transfer_by x1 x2 x3)
transfer_by_keeps P closed a c blocks = keeps_then P (change c) (then_do (settle a.ask.item (Leaves a.ask.key blocks)) done) (closed.change same_book c) (keeps_then P (settle a.ask.item (Leaves a.ask.key blocks)) done (closed.settled a.ask.item (Leaves a.ask.key blocks)) (done_keeps P closed))

pub transfer_keeps : (P : Filter → Type 0) → ClosedFilter P → (x1 : Live) → (x2 : ℕ) → (x3 : List ℕ) → Preserves P (transfer x1 x2 x3)
transfer_keeps P closed a at bytes = let c : Change = change.Filled a.ask.item at bytes in (checked_keeps P closed (transfer_tests a c at (length bytes)) (transfer_by a c (blocks_of at (length bytes))) (transfer_by_keeps P closed a c (blocks_of at (length bytes))))

pub refuse_keeps : (P : Filter → Type 0) → ClosedFilter P → (x1 : Live) → (x2 : Span) → (x3 : ℕ) → Preserves P (refuse x1 x2 x3)
refuse_keeps P closed a asked status = checked_keeps P closed (refuse_tests a asked) (then_do (settle a.ask.item (Fails a.ask.key (blocks_of asked.start asked.len) (cause.Failed status))) done) (keeps_then P (settle a.ask.item (Fails a.ask.key (blocks_of asked.start asked.len) (cause.Failed status))) done (closed.settled a.ask.item (Fails a.ask.key (blocks_of asked.start asked.len) (cause.Failed status))) (done_keeps P closed))

pub retrieve_by_keeps : (P : Filter → Type 0) → ClosedFilter P → (x1 : Live) → (x2 : List (Option ℕ)) → Preserves P (retrieve_by x1 x2)
retrieve_by_keeps P closed a held = keeps_then P (one as_it_is) (then_do (settle a.ask.item (Leaves a.ask.key [])) (ret (shown.Retrieved (bytes_held held)))) (keeps_one P as_it_is (closed.keeps_as_it_is)) (keeps_then P (settle a.ask.item (Leaves a.ask.key [])) (ret (shown.Retrieved (bytes_held held))) (closed.settled a.ask.item (Leaves a.ask.key [])) (keeps_ret P (shown.Retrieved (bytes_held held))))

pub retrieve_keeps : (P : Filter → Type 0) → ClosedFilter P → (x1 : Live) → (x2 : Span) → Preserves P (retrieve x1 x2)
retrieve_keeps P closed a asked = checked_keeps P closed (retrieve_tests a asked) (reading (held_in a asked) (retrieve_by a)) (keeps_reading P (held_in a asked) (retrieve_by a) (retrieve_by_keeps P closed a))

pub ack_keeps : (P : Filter → Type 0) → ClosedFilter P → (x1 : Live) → (x2 : Span) → (x3 : Bool) → Preserves P (ack x1 x2 x3)
ack_keeps P closed a asked good = checked_keeps P closed (ack_tests a asked good) (then_do (change (ack_change a asked good)) (then_do (settle a.ask.item (ack_deed a asked good)) done)) (keeps_then P (change (ack_change a asked good)) (then_do (settle a.ask.item (ack_deed a asked good)) done) (closed.change same_book (ack_change a asked good)) (keeps_then P (settle a.ask.item (ack_deed a asked good)) done (closed.settled a.ask.item (ack_deed a asked good)) (done_keeps P closed)))

pub restart_by_keeps : (P : Filter → Type 0) → ClosedFilter P → (x1 : Live) → (x2 : Change) → Preserves P (restart_by x1 x2)
restart_by_keeps P closed a c = keeps_then P (change c) (then_do (settle a.ask.item Restarts) done) (closed.change same_book c) (keeps_then P (settle a.ask.item Restarts) done (closed.settled a.ask.item Restarts) (done_keeps P closed))

pub restart_keeps : (P : Filter → Type 0) → ClosedFilter P → (x1 : Live) → Preserves P (restart x1)
restart_keeps P closed a = checked_keeps P closed (restart_tests a) (reading (restart_change a) (restart_by a)) (keeps_reading P (restart_change a) (restart_by a) (restart_by_keeps P closed a))

pub changes_with_keeps : (P : Filter → Type 0) → ClosedFilter P → (x1 : (Book → Book)) → (x2 : List Change) → Preserves P (changes_with x1 x2)
changes_with_keeps P closed f [] = keeps_ret P (record {})
changes_with_keeps P closed f (c ∷ []) = closed.change f c
changes_with_keeps P closed f (c ∷ d ∷ cs) = keeps_then P (change c) (changes_with f (d ∷ cs)) (closed.change same_book c) (changes_with_keeps P closed f (d ∷ cs))

pub entries_by_keeps : (P : Filter → Type 0) → ClosedFilter P → (x1 : (Book → Book)) → (x2 : Live) → (x3 : List NewItem) → (x4 : Bool) → (x5 : List Change) → Preserves P (entries_by x1 x2 x3 x4 x5)
entries_by_keeps P closed f a list good cs = checked_keeps P closed (entries_tests f a list cs) (then_do (changes_with f cs) (then_do (settle a.ask.item (entries_deed a good)) done)) (keeps_then P (changes_with f cs) (then_do (settle a.ask.item (entries_deed a good)) done) (changes_with_keeps P closed f cs) (keeps_then P (settle a.ask.item (entries_deed a good)) done (closed.settled a.ask.item (entries_deed a good)) (done_keeps P closed)))

pub entries_keeps : (P : Filter → Type 0) → ClosedFilter P → (x1 : (Book → Book)) → (x2 : Live) → (x3 : List NewItem) → (x4 : Bool) → Preserves P (entries x1 x2 x3 x4)
entries_keeps P closed f a list good = keeps_reading P (changes_listed a list good) (entries_by f a list good) (entries_by_keeps P closed f a list good)

pub consent_by_keeps : (P : Filter → Type 0) → ClosedFilter P → (x1 : Live) → (x2 : Bool) → (x3 : Option Code) → Preserves P (consent_by x1 x2 x3)
consent_by_keeps P closed a good refusal = checked_keeps P closed (consent_tests a (consent_changes a good refusal)) (then_do (changes (consent_changes a good refusal)) (then_do (settle a.ask.item (consent_deed a good refusal)) done)) (keeps_then P (changes (consent_changes a good refusal)) (then_do (settle a.ask.item (consent_deed a good refusal)) done) (keeps_each P change (consent_changes a good refusal) (λ z. closed.change same_book z)) (keeps_then P (settle a.ask.item (consent_deed a good refusal)) done (closed.settled a.ask.item (consent_deed a good refusal)) (done_keeps P closed)))

pub ack_dehydrate_keeps : (P : Filter → Type 0) → ClosedFilter P → (x1 : Live) → (x2 : Bool) → Preserves P (ack_dehydrate x1 x2)
ack_dehydrate_keeps P closed a good = keeps_reading P (second_verdict a) (consent_by a good) (consent_by_keeps P closed a good)

pub on_ask_keeps : (P : Filter → Type 0) → ClosedFilter P → (x1 : (Book → Book)) → (x2 : Operation) → (x3 : Live) → Preserves P (on_ask x1 x2 x3)
on_ask_keeps P closed f (operation.Transfer key at bytes) a = transfer_keeps P closed a at bytes
on_ask_keeps P closed f (operation.Refuse key asked status) a = refuse_keeps P closed a asked status
on_ask_keeps P closed f (operation.Retrieve key asked) a = retrieve_keeps P closed a asked
on_ask_keeps P closed f (operation.Ack key asked good) a = ack_keeps P closed a asked good
on_ask_keeps P closed f (operation.Restart key) a = restart_keeps P closed a
on_ask_keeps P closed f (operation.Entries key list good) a = entries_keeps P closed f a list good
on_ask_keeps P closed f (operation.AckDehydrate key good) a = ack_dehydrate_keeps P closed a good

pub on_live_keeps : (P : Filter → Type 0) → ClosedFilter P → (x1 : (Book → Book)) → (x2 : Operation) → (x3 : Option Live) → Preserves P (on_live x1 x2 x3)
on_live_keeps P closed f op None = keeps_ret P (shown.Refused code.StaleKey)
on_live_keeps P closed f op (Some a) = on_ask_keeps P closed f op a

pub execute_with_keeps : (P : Filter → Type 0) → ClosedFilter P → (x1 : (Book → Book)) → (x2 : Operation) → Preserves P (execute_with x1 x2)
execute_with_keeps P closed f op = keeps_reading P (live_at (key_of op)) (on_live f op) (on_live_keeps P closed f op)

pub execute_keeps : (P : Filter → Type 0) → ClosedFilter P → (x1 : Operation) → Preserves P (execute x1)
execute_keeps P closed op = execute_with_keeps P closed same_book op
