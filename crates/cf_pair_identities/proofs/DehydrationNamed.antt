-- The parts of `Dehydration` keep identities named.
use Rattle.std.specs.Prelude.{ℕ, Bool, true, false, List, Option, Some, None, min, ◌-◌}
use Rattle.cf_base.specs.declared.answers.Shown.TheVariants as shown
use Rattle.cf_base.specs.declared.changes.Change.TheVariants as change
use Rattle.cf_base.specs.declared.codes.Code.{Code}
use Rattle.cf_base.specs.declared.waits.End.TheVariants as end
use Rattle.cf_model.specs.Arrows.{Preserves, reading, then_do}
use Rattle.cf_model.specs.Changes as volume
use Rattle.cf_model.specs.Changes.{change, same_book}
use Rattle.cf_model.specs.Dehydration.{after_verdict, ask_consent, ask_tests, consent_need, dehydrate, dehydrate_item, dehydrate_range, emptied, empty_now, empty_range, empty_tests, has_bytes, is_connected, verdict_at, with_provider}
use Rattle.cf_model.specs.Items.{Item, size_of}
use Rattle.cf_model.specs.Waits.{begin_now, begun, Need}
use Rattle.cf_model.proofs.ArrowLaws.{keeps_choose, keeps_reading, keeps_ret, keeps_then, keeps_unless}
use Rattle.cf_pair_identities.specs.Named.{NamedIn}
use Rattle.cf_pair_identities.proofs.NamedSteps.{begins_named, change_keeps}
use Rattle.cf_pair_identities.proofs.OperationsNamed as operations_named
use Rattle.cf_pair_identities.proofs.WaitsNamed as waits_named

pub ask_consent_keeps : (full : Bool) → (x1 : Need) → Preserves (NamedIn full) (ask_consent x1)
ask_consent_keeps full n = operations_named.checked_keeps full (ask_tests n) (reading (begun n) (begin_now n)) (begins_named full n)

pub emptied_keeps : (full : Bool) → Preserves (NamedIn full) (emptied)
emptied_keeps full = keeps_ret (NamedIn full) (shown.Ended end.Emptied)

pub empty_now_keeps : (full : Bool) → (x1 : Item) → (x2 : ℕ) → (x3 : ℕ) → Preserves (NamedIn full) (empty_now x1 x2 x3)
empty_now_keeps full i start len = operations_named.checked_keeps full empty_tests (then_do (volume.change (change.Emptied i.id start len)) emptied) (keeps_then (NamedIn full) (volume.change (change.Emptied i.id start len)) emptied (change_keeps full same_book (change.Emptied i.id start len) tt) (emptied_keeps full))

pub with_provider_keeps : (full : Bool) → (x1 : Item) → (x2 : ℕ) → (x3 : ℕ) → (x4 : Bool) → Preserves (NamedIn full) (with_provider x1 x2 x3 x4)
with_provider_keeps full i start len true = ask_consent_keeps full (consent_need i start len)
with_provider_keeps full i start len false = empty_now_keeps full i start len

pub empty_range_keeps : (full : Bool) → (x1 : Item) → (x2 : ℕ) → (x3 : ℕ) → Preserves (NamedIn full) (empty_range x1 x2 x3)
empty_range_keeps full i start len =
    keeps_choose (NamedIn full) (has_bytes i start len) (reading is_connected (with_provider i start len)) emptied
    (keeps_reading (NamedIn full) is_connected (with_provider i start len) (with_provider_keeps full i start len))
    (emptied_keeps full)

pub after_verdict_keeps : (full : Bool) → (x1 : Item) → (x2 : ℕ) → (x3 : ℕ) → (x4 : Option Code) → Preserves (NamedIn full) (after_verdict x1 x2 x3 x4)
after_verdict_keeps full i start len refusal = keeps_unless (NamedIn full) shown.Refused refusal (empty_range i start (min len (size_of i - start))) (empty_range_keeps full i start (min len (size_of i - start)))

pub dehydrate_item_keeps : (full : Bool) → (x1 : Item) → (x2 : ℕ) → (x3 : ℕ) → Preserves (NamedIn full) (dehydrate_item x1 x2 x3)
dehydrate_item_keeps full i start len = keeps_reading (NamedIn full) (verdict_at i start len) (after_verdict i start len) (after_verdict_keeps full i start len)

pub dehydrate_range_keeps : (full : Bool) → (x1 : Option (ℕ × ℕ)) → (x2 : Item) → Preserves (NamedIn full) (dehydrate_range x1 x2)
dehydrate_range_keeps full None i = dehydrate_item_keeps full i 0 (size_of i)
dehydrate_range_keeps full (Some r) i = dehydrate_item_keeps full i r.0 r.1

pub dehydrate_keeps : (full : Bool) → (x1 : List ℕ) → (x2 : Option (ℕ × ℕ)) → Preserves (NamedIn full) (dehydrate x1 x2)
dehydrate_keeps full path range = waits_named.on_file_keeps full path (dehydrate_range range) (dehydrate_range_keeps full range)
