-- Auxiliary records that an engine puts.
use Rattle.std.specs.Prelude.{◌≡◌, ℕ, Bool, true, false, List, Option, Some, None, Result, Ok, Err, is_err}
use Rattle.cf_base.specs.declared.codes.Code.{Code}
use Rattle.cf_base.specs.declared.codes.Code.TheVariants as code
use Rattle.cf_base.specs.declared.codes.CallError.{CallError}
use Rattle.cf_base.specs.declared.codes.CallError.TheVariants as fail
use Rattle.cf_base.specs.declared.memory.OutOfMemory.{OutOfMemory}
use Rattle.cf_filter.specs.Calling.{Told}
use Rattle.cf_filter_machine.specs.Held.{Held}
use Rattle.cf_filter_machine.specs.Keeping.{IsKeptBook}
use Rattle.cf_model.specs.Arrows.{Arrow, attempt, outcome, unit}
use Rattle.cf_model.specs.Books.{Book, aux_records}
use Rattle.cf_model.specs.Changes.{next_number}
use Rattle.cf_model.specs.State.{Filter}
use Rattle.cf_filter_steps.specs.Answering.{Answers, Sense}
use Rattle.cf_volume.specs.Calls.{HasRecords, put_record}

-- The new book has this record in place of the one with its key, or none with the key, and all else as before. It is one that
-- a kept volume may have where the old one is.
pub record PutsRecord (key : List ℕ) (value : Option (List ℕ)) (f : Book → Book) (s : Filter) : Type 0 where
  pub has : HasRecords s.volume.book (put_record key value (aux_records s.volume.book)) (f s.volume.book)
  pub kept : IsKeptBook (next_number s.volume) s.volume.items s.volume.book → IsKeptBook (next_number s.volume) s.volume.items (f s.volume.book)

-- whether there was room, by what the volume answered; all that is no full table counts as out of memory
abbrev pub HasRoom : Result (Unit {0}) CallError → Result Bool OutOfMemory → Type 0
HasRoom r (Ok true) = r ≡ Ok unit
HasRoom r (Ok false) = r ≡ Err (fail.No code.TableFull)
HasRoom r (Err e) = Unit {0}

-- as a call tells it
abbrev pub put_told : Result Bool OutOfMemory → Told (Unit {0})
put_told (Ok true) = Ok (Ok unit)
put_told (Ok false) = Ok (Err code.TableFull)
put_told (Err e) = Err fail.OutOfMemory

-- and as a step does
abbrev pub aux_outcome : Result Bool OutOfMemory → Result (Option Code) CallError
aux_outcome (Ok true) = Ok None
aux_outcome (Ok false) = Ok (Some code.TableFull)
aux_outcome (Err e) = Err fail.OutOfMemory

-- of a record that is taken out, for which there is always room
abbrev pub drop_outcome : Result Bool OutOfMemory → Result (Unit {0}) CallError
drop_outcome (Ok true) = Ok unit
drop_outcome (Ok false) = Err fail.OutOfMemory
drop_outcome (Err e) = Err fail.OutOfMemory

-- After a call that was stopped it is refused as Broken, and changes nothing. Else, where the state has the property, it is one
-- step, or is refused exactly for that reason and changes nothing. It breaks the filter exactly where it is stopped.
pub record Attempts {D : Type 0} (S : Sense (Held D)) (P : Filter → Type 0) (why : Filter → Option Code) (step : Arrow Filter (Unit {0})) (old : Held D) (r : Result (Unit {0}) CallError) (new : Held D) : Type 0 where
  pub broken : old.desk.broken ≡ true → (r ≡ Err (fail.No code.Broken)) × (new ≡ old)
  pub does : old.desk.broken ≡ false → Answers S P (attempt why step) old (outcome r) new × (new.desk.broken ≡ is_err (outcome r))
  pub stays : old.desk.broken ≡ false → (s : Filter) → S.means old s → P s → (c : Code) → outcome r ≡ Ok (Some c) → new ≡ old
