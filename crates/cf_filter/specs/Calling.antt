-- What a call of a filter answers, and what it leaves.
use Rattle.std.specs.Prelude.{◌≡◌, Bool, true, false, List, Result, Ok, Err}
use Rattle.cf_base.specs.declared.answers.Shown.{Shown}
use Rattle.cf_base.specs.declared.answers.Shown.TheVariants as shown
use Rattle.cf_base.specs.declared.codes.Code.{Code}
use Rattle.cf_base.specs.declared.codes.Code.TheVariants as code
use Rattle.cf_base.specs.declared.codes.CallError.{CallError}
use Rattle.cf_base.specs.declared.codes.CallError.TheVariants.{No, OutOfMemory}
use Rattle.cf_base.specs.declared.notices.Notice.{Notice}
use Rattle.cf_filter_machine.specs.Held.{Held}
use Rattle.cf_model.specs.Arrows.{Arrow}
use Rattle.cf_model.specs.State.{Filter}
use Rattle.cf_filter_steps.specs.Answering.{Answers, Any, Sense}

-- What a part of a call gave, or why it was refused; or that the device or memory stopped it.
abbrev pub Told : Type 0 → Type 0
Told A = Result (Result A Code) CallError

-- in the words of the definitions
abbrev pub shown_by : {A : Type 0} → (A → Shown) → Told A → Result Shown CallError
shown_by show (Ok (Ok a)) = Ok (show a)
shown_by show (Ok (Err c)) = Ok (shown.Refused c)
shown_by show (Err e) = Err e

-- what the caller is answered
abbrev pub answer_of : {A : Type 0} → Told A → Result A CallError
answer_of (Ok (Ok a)) = Ok a
answer_of (Ok (Err c)) = Err (No c)
answer_of (Err e) = Err e

abbrev pub is_stopped : {A : Type 0} → Told A → Bool
is_stopped (Ok r) = false
is_stopped (Err e) = true

unfoldable pub shows_done : Unit {0} → Shown
shows_done u = shown.Done

-- the value that was shown, or out of memory
abbrev pub Takes : {A : Type 0} → (A → Shown) → Result Shown CallError → Told A → Type 0
Takes show q (Ok (Ok a)) = q ≡ Ok (show a)
Takes show q (Ok (Err c)) = q ≡ Ok (shown.Refused c)
Takes show q (Err (No c)) = q ≡ Err (No c)
Takes show q (Err OutOfMemory) = Unit {0}

unfoldable pub noted : {D : Type 0} → List Notice → Held D → Held D
noted notes x = record x { desk = record x.desk { notes = notes } }

unfoldable pub broken_by : {D : Type 0} → Bool → Held D → Held D
broken_by b x = record x { desk = record x.desk { broken = b } }

-- by lack of memory, where that is said
unfoldable pub stopped_by : {D : Type 0} → Bool → Held D → Held D
stopped_by lost x = record x { desk = record x.desk { broken = true; lost = lost } }

-- After a call that was stopped every call is refused as Broken, and changes nothing. Else the call does its part; it breaks
-- the filter exactly where the device or memory stops it.
pub record Calls {D A : Type 0} (S : Sense (Held D)) (show : A → Shown) (part : Arrow Filter Shown) (old : Held D) (r : Result A CallError) (new : Held D) : Type 0 where
  pub broken : old.desk.broken ≡ true → (r ≡ Err (No code.Broken)) × (new ≡ old)
  pub does : old.desk.broken ≡ false → (q : Told A) × (r ≡ answer_of q) × Answers S Any part old (shown_by show q) new × (new.desk.broken ≡ is_stopped q)

-- The same of a call that changes nothing.
pub record Asks {D A : Type 0} (S : Sense (Held D)) (show : A → Shown) (part : Arrow Filter Shown) (x : Held D) (r : Result A CallError) : Type 0 where
  pub broken : x.desk.broken ≡ true → r ≡ Err (No code.Broken)
  pub does : x.desk.broken ≡ false → (q : Told A) × (r ≡ answer_of q) × Answers S Any part x (shown_by show q) x
