-- The parts of `Dehydration` are sure, each by its own parts.
use Rattle.std.proofs.Common.{refl}
use Rattle.std.specs.Prelude.{ℕ, Bool, true, false, List, Option, Some, None, min, ◌-◌}
use Rattle.cf_base.specs.declared.answers.Shown.TheVariants as shown
use Rattle.cf_base.specs.declared.changes.Change.TheVariants as change
use Rattle.cf_base.specs.declared.codes.Code.{Code}
use Rattle.cf_base.specs.declared.waits.End.TheVariants as end
use Rattle.cf_model.specs.Arrows.{reading, then_do}
use Rattle.cf_model.specs.Changes.{same_book, change}
use Rattle.cf_model.specs.Changes as volume
use Rattle.cf_model.specs.Items.{Item, size_of}
use Rattle.cf_model.specs.Waits.{Need, begin_now, begun}
use Rattle.cf_model.specs.Dehydration.{after_verdict, ask_consent, ask_tests, consent_need, dehydrate, dehydrate_item, dehydrate_range, emptied, empty_now, empty_range, empty_tests, has_bytes, is_connected, verdict_at, with_provider}
use Rattle.cf_check_ways.specs.Ways.{IsSure, of_filter}
use Rattle.cf_check_ways.proofs.Sure.{reads_fixed, sure_choose, sure_reading, sure_ret, sure_then, sure_unless}
use Rattle.cf_check_ways.proofs.ChangesSure.{change_sure}
use Rattle.cf_check_ways.proofs.VolumeSteps.{begins_sure}
use Rattle.cf_check_ways.proofs.OperationsSure as operations_sure
use Rattle.cf_check_ways.proofs.WaitsSure as waits_sure

pub ask_consent_sure : (x1 : Need) → IsSure of_filter (ask_consent x1)
ask_consent_sure n = operations_sure.checked_sure (ask_tests n) (reading (begun n) (begin_now n)) (reads_fixed of_filter (ask_tests n) (λ s. refl)) (begins_sure n)

pub emptied_sure : IsSure of_filter (emptied)
emptied_sure = sure_ret of_filter (shown.Ended end.Emptied)

pub empty_now_sure : (x1 : Item) → (x2 : ℕ) → (x3 : ℕ) → IsSure of_filter (empty_now x1 x2 x3)
empty_now_sure i start len = operations_sure.checked_sure empty_tests (then_do (volume.change (change.Emptied i.id start len)) emptied) (reads_fixed of_filter empty_tests (λ s. refl)) (sure_then of_filter (volume.change (change.Emptied i.id start len)) emptied (change_sure same_book (change.Emptied i.id start len) (λ items. refl)) (emptied_sure))

pub with_provider_sure : (x1 : Item) → (x2 : ℕ) → (x3 : ℕ) → (x4 : Bool) → IsSure of_filter (with_provider x1 x2 x3 x4)
with_provider_sure i start len true = ask_consent_sure (consent_need i start len)
with_provider_sure i start len false = empty_now_sure i start len

pub empty_range_sure : (x1 : Item) → (x2 : ℕ) → (x3 : ℕ) → IsSure of_filter (empty_range x1 x2 x3)
empty_range_sure i start len = sure_choose of_filter (has_bytes i start len) (reading is_connected (with_provider i start len)) emptied (sure_reading of_filter is_connected (with_provider i start len) (reads_fixed of_filter is_connected (λ s. refl)) (with_provider_sure i start len)) (emptied_sure)

pub after_verdict_sure : (x1 : Item) → (x2 : ℕ) → (x3 : ℕ) → (x4 : Option Code) → IsSure of_filter (after_verdict x1 x2 x3 x4)
after_verdict_sure i start len refusal = sure_unless of_filter shown.Refused refusal (empty_range i start (min len (size_of i - start))) (empty_range_sure i start (min len (size_of i - start)))

pub dehydrate_item_sure : (x1 : Item) → (x2 : ℕ) → (x3 : ℕ) → IsSure of_filter (dehydrate_item x1 x2 x3)
dehydrate_item_sure i start len = sure_reading of_filter (verdict_at i start len) (after_verdict i start len) (reads_fixed of_filter (verdict_at i start len) (λ s. refl)) (after_verdict_sure i start len)

pub dehydrate_range_sure : (x1 : Option (ℕ × ℕ)) → (x2 : Item) → IsSure of_filter (dehydrate_range x1 x2)
dehydrate_range_sure None i = dehydrate_item_sure i 0 (size_of i)
dehydrate_range_sure (Some r) i = dehydrate_item_sure i r.0 r.1

pub dehydrate_sure : (x1 : List ℕ) → (x2 : Option (ℕ × ℕ)) → IsSure of_filter (dehydrate x1 x2)
dehydrate_sure path range = waits_sure.on_file_sure path (dehydrate_range range) (dehydrate_range_sure range)
