-- Dehydration: a file's bytes leave from a block on, where the provider consents.
use Rattle.std.specs.Prelude.{ℕ, Bool, true, false, List, [], ◌∷◌, Option, Some, None, is_some, min, slice_range, ◌+◌, ◌-◌}
use Rattle.std.specs.List.{list_any}
use Rattle.cf_base.specs.declared.answers.Shown.{Shown}
use Rattle.cf_base.specs.declared.answers.Shown.TheVariants as shown
use Rattle.cf_base.specs.declared.changes.Change.TheVariants as change
use Rattle.cf_base.specs.declared.codes.Code.{Code}
use Rattle.cf_base.specs.declared.codes.Code.TheVariants as code
use Rattle.cf_base.specs.declared.ids.ItemId.{ItemId}
use Rattle.cf_base.specs.declared.waits.End.TheVariants as end
use Rattle.cf_base.specs.declared.waits.WaitKind.TheVariants as wait_kind
use Rattle.cf_model.specs.Arrows.{Arrow, choose, reading, ret, then_do, unless}
use Rattle.cf_model.specs.Requests.{no_numbers}
use Rattle.cf_model.specs.Changes.{no_places}
use Rattle.cf_model.specs.Changes as volume
use Rattle.cf_model.specs.Items.{Item, size_of}
use Rattle.cf_model.specs.Missing.{span_of}
use Rattle.cf_model.specs.Numbers.{no_key}
use Rattle.cf_model.specs.Operations.{checked, in_use_beside}
use Rattle.cf_model.specs.State.{Filter}
use Rattle.cf_model.specs.Verdicts.{verdict}
use Rattle.cf_model.specs.Waits.{Need, begin_now, begun, on_file, plain_need}

-- an item is in use where a handle is open on it or any live wait names it
abbrev pub in_use : ItemId → Filter → Bool
in_use item s = in_use_beside item (record { 0 = no_key }) s

abbrev pub verdict_at : Item → ℕ → ℕ → Filter → Option Code
verdict_at i start len s = verdict s.policy i start len (in_use i.id s)

-- the provider is asked

abbrev pub consent_need : Item → ℕ → ℕ → Need
consent_need i start len = plain_need wait_kind.Dehydrate i.id (span_of start len)

abbrev pub ask_tests : Need → Filter → List (Bool × Code)
ask_tests n s = (no_numbers (begun n s).1, code.Exhausted) ∷ []

abbrev pub ask_consent : Need → Arrow Filter Shown
ask_consent n = checked (ask_tests n) (reading (begun n) (begin_now n))

-- no provider is there to be asked

abbrev pub empty_tests : Filter → List (Bool × Code)
empty_tests s = (no_places s.volume 1, code.Exhausted) ∷ []

abbrev pub emptied : Arrow Filter Shown
emptied = ret (shown.Ended end.Emptied)

abbrev pub empty_now : Item → ℕ → ℕ → Arrow Filter Shown
empty_now i start len = checked empty_tests (then_do (volume.change (change.Emptied i.id start len)) emptied)

abbrev pub with_provider : Item → ℕ → ℕ → Bool → Arrow Filter Shown
with_provider i start len true = ask_consent (consent_need i start len)
with_provider i start len false = empty_now i start len

abbrev pub is_connected : Filter → Bool
is_connected s = s.connected

abbrev pub has_bytes : Item → ℕ → ℕ → Bool
has_bytes i start len = list_any is_some (slice_range i.held start (start + len))

-- an allowed call: it is over at once where no byte of the range is here
abbrev pub empty_range : Item → ℕ → ℕ → Arrow Filter Shown
empty_range i start len = choose (has_bytes i start len) (reading is_connected (with_provider i start len)) emptied

abbrev pub after_verdict : Item → ℕ → ℕ → Option Code → Arrow Filter Shown
after_verdict i start len refusal = unless shown.Refused refusal (empty_range i start (min len (size_of i - start)))

-- a range of a file, cut to its size
abbrev pub dehydrate_item : Item → ℕ → ℕ → Arrow Filter Shown
dehydrate_item i start len = reading (verdict_at i start len) (after_verdict i start len)

-- without a range it is the whole file
abbrev pub dehydrate_range : Option (ℕ × ℕ) → Item → Arrow Filter Shown
dehydrate_range None i = dehydrate_item i 0 (size_of i)
dehydrate_range (Some r) i = dehydrate_item i r.0 r.1

abbrev pub dehydrate : List ℕ → Option (ℕ × ℕ) → Arrow Filter Shown
dehydrate path range = on_file path (dehydrate_range range)
