-- What the parts of `Dehydration` keep, each by what its own parts keep.
use Rattle.std.specs.Prelude.{ℕ, Bool, true, false, List, Option, Some, None, min, ◌-◌}
use Rattle.cf_base.specs.declared.answers.Shown.TheVariants as shown
use Rattle.cf_base.specs.declared.changes.Change.TheVariants as change
use Rattle.cf_base.specs.declared.codes.Code.{Code}
use Rattle.cf_base.specs.declared.waits.End.TheVariants as end
use Rattle.cf_model.specs.Arrows.{reading, then_do}
use Rattle.cf_model.specs.Changes as volume
use Rattle.cf_model.specs.Items.{Item, size_of}
use Rattle.cf_model.specs.State.{Filter}
use Rattle.cf_model.specs.Waits.{Need, begin_now, begun}
use Rattle.cf_model.proofs.OperationsKeep as operations_keep
use Rattle.cf_model.proofs.WaitsKeep as waits_keep
use Rattle.cf_model.specs.Dehydration.{after_verdict, ask_consent, ask_tests, consent_need, dehydrate, dehydrate_item, dehydrate_range, emptied, empty_now, empty_range, empty_tests, has_bytes, is_connected, verdict_at, with_provider}
use Rattle.cf_model.proofs.Closed.{ClosedFilter}
use Rattle.cf_model.proofs.ArrowLaws.{keeps_choose, keeps_reading, keeps_ret, keeps_then, keeps_unless}
use Rattle.cf_model.specs.Arrows.{Preserves}
use Rattle.cf_model.specs.Changes.{same_book}
use Rattle.cf_model.specs.Changes.{change}

pub ask_consent_keeps : (P : Filter → Type 0) → ClosedFilter P → (x1 : Need) → Preserves P (ask_consent x1)
ask_consent_keeps P closed n = operations_keep.checked_keeps P closed (ask_tests n) (reading (begun n) (begin_now n)) (closed.begins n)

pub emptied_keeps : (P : Filter → Type 0) → ClosedFilter P → Preserves P (emptied)
emptied_keeps P closed = keeps_ret P (shown.Ended end.Emptied)

pub empty_now_keeps : (P : Filter → Type 0) → ClosedFilter P → (x1 : Item) → (x2 : ℕ) → (x3 : ℕ) → Preserves P (empty_now x1 x2 x3)
empty_now_keeps P closed i start len = operations_keep.checked_keeps P closed empty_tests (then_do (volume.change (change.Emptied i.id start len)) emptied) (keeps_then P (volume.change (change.Emptied i.id start len)) emptied (closed.change same_book (change.Emptied i.id start len)) (emptied_keeps P closed))

pub with_provider_keeps : (P : Filter → Type 0) → ClosedFilter P → (x1 : Item) → (x2 : ℕ) → (x3 : ℕ) → (x4 : Bool) → Preserves P (with_provider x1 x2 x3 x4)
with_provider_keeps P closed i start len true = ask_consent_keeps P closed (consent_need i start len)
with_provider_keeps P closed i start len false = empty_now_keeps P closed i start len

pub empty_range_keeps : (P : Filter → Type 0) → ClosedFilter P → (x1 : Item) → (x2 : ℕ) → (x3 : ℕ) → Preserves P (empty_range x1 x2 x3)
empty_range_keeps P closed i start len = keeps_choose P (has_bytes i start len) (reading is_connected (with_provider i start len)) emptied (keeps_reading P is_connected (with_provider i start len) (with_provider_keeps P closed i start len)) (emptied_keeps P closed)

pub after_verdict_keeps : (P : Filter → Type 0) → ClosedFilter P → (x1 : Item) → (x2 : ℕ) → (x3 : ℕ) → (x4 : Option Code) → Preserves P (after_verdict x1 x2 x3 x4)
after_verdict_keeps P closed i start len refusal = keeps_unless P shown.Refused refusal (empty_range i start (min len (size_of i - start))) (empty_range_keeps P closed i start (min len (size_of i - start)))

pub dehydrate_item_keeps : (P : Filter → Type 0) → ClosedFilter P → (x1 : Item) → (x2 : ℕ) → (x3 : ℕ) → Preserves P (dehydrate_item x1 x2 x3)
dehydrate_item_keeps P closed i start len = keeps_reading P (verdict_at i start len) (after_verdict i start len) (after_verdict_keeps P closed i start len)

pub dehydrate_range_keeps : (P : Filter → Type 0) → ClosedFilter P → (x1 : Option (ℕ × ℕ)) → (x2 : Item) → Preserves P (dehydrate_range x1 x2)
dehydrate_range_keeps P closed None i = dehydrate_item_keeps P closed i 0 (size_of i)
dehydrate_range_keeps P closed (Some r) i = dehydrate_item_keeps P closed i r.0 r.1

pub dehydrate_keeps : (P : Filter → Type 0) → ClosedFilter P → (x1 : List ℕ) → (x2 : Option (ℕ × ℕ)) → Preserves P (dehydrate x1 x2)
dehydrate_keeps P closed path range = waits_keep.on_file_keeps P closed path (dehydrate_range range) (dehydrate_range_keeps P closed range)
