-- Callbacks, and the calls that end with them.
use Rattle.std.specs.Prelude.{◌≡◌, ◌⊎◌, ℕ, true, false, List, Result, Ok, Err}
use Rattle.cf_base.specs.declared.answers.Shown.{Shown}
use Rattle.cf_base.specs.declared.codes.Code.TheVariants as code
use Rattle.cf_base.specs.declared.codes.CallError.{CallError}
use Rattle.cf_base.specs.declared.codes.CallError.TheVariants.{No, OutOfMemory}
use Rattle.cf_base.specs.declared.waits.Ask.{Ask}
use Rattle.cf_disk.specs.Disk.{State}
use Rattle.cf_engine_host.specs.Callbacks.{Answering, AnswersOn, CalledBack, CutBack, NoneFailed}
use Rattle.cf_filter.specs.Calling.{Told, answer_of, is_stopped, shown_by}
use Rattle.cf_filter_machine.specs.Held.{Held}
use Rattle.cf_filter_machine.specs.Lasting.{Lasts, Moved}
use Rattle.cf_filter_machine.specs.Sensing.{Rose, Stands, Stopped, sense}
use Rattle.cf_model.specs.Arrows.{Arrow}
use Rattle.cf_model.specs.Callbacks.{begin_call, result_of}
use Rattle.cf_model.specs.Numbers.{most}
use Rattle.cf_model.specs.Ports.{Act, Acts, HasFailed}
use Rattle.cf_model.specs.State.{Filter}
use Rattle.cf_model.specs.Trees.{Does, Ends, Stops}
use Rattle.cf_filter_steps.specs.Answering.{After}

-- one callback

abbrev pub TurnTo : {D P : Type 0} → (D → State) → Answering P → Ask → P → Held D → Filter → Result (Unit {0}) CallError → P → Held D → Filter → Type 0
TurnTo state answers ask p x s (Ok u) q y t = (acts : List Act) × Acts s acts t × NoneFailed acts × AnswersOn answers ask p s acts q × Stands state y t
TurnTo state answers ask p x s (Err (No c)) q y t =
    (c ≡ code.Device) × (acts : List Act) × Acts s acts t × HasFailed acts × AnswersOn answers ask p s acts q × Stopped state y t × Rose (state x.disk) (state y.disk)
TurnTo state answers ask p x s (Err OutOfMemory) q y t = Lasts (state y.disk) t.volume

pub record Turns {D P : Type 0} (state : D → State) (answers : Answering P) (ask : Ask) (p : P) (x : Held D) (r : Result (Unit {0}) CallError) (q : P) (y : Held D) : Type 0 where
  pub leads : (s : Filter) → Stands state x s → (t : Filter) × Moved (state x.disk) (state y.disk) s.volume t.volume × TurnTo state answers ask p x s r q y t

-- all callbacks, at most n

abbrev pub DrainsTo : {D P : Type 0} → ℕ → (D → State) → Answering P → P → Held D → Filter → Result (Unit {0}) CallError → P → Held D → Filter → Type 0
DrainsTo n state answers p x s (Ok u) q y t = CalledBack n answers p s q t × Stands state y t
DrainsTo n state answers p x s (Err (No c)) q y t = (c ≡ code.Device) × CutBack n answers p s q t × Stopped state y t × Rose (state x.disk) (state y.disk)
DrainsTo n state answers p x s (Err OutOfMemory) q y t = Lasts (state y.disk) t.volume

pub record Drains {D P : Type 0} (n : ℕ) (state : D → State) (answers : Answering P) (p : P) (x : Held D) (r : Result (Unit {0}) CallError) (q : P) (y : Held D) : Type 0 where
  pub leads : (s : Filter) → Stands state x s → (t : Filter) × Moved (state x.disk) (state y.disk) s.volume t.volume × DrainsTo n state answers p x s r q y t

-- a call's part and then its callbacks

-- the part leads from a state to one that is left of it
abbrev pub PartTo : {D : Type 0} → (D → State) → Arrow Filter Shown → Held D → Filter → Result Shown CallError → Held D → Type 0
PartTo state part x s r y = (t : Filter) × Does (part s) r t × Moved (state x.disk) (state y.disk) s.volume t.volume × After (sense state) x r y t

-- Of a wait that ended meanwhile the result is its end. Where the part itself is stopped no callback is called. Whatever
-- stopped the call, a device call failed since it began.
abbrev pub CallsTo : {D P : Type 0} → (D → State) → Answering P → Arrow Filter Shown → P → Held D → Filter → Result Shown CallError → P → Held D → Type 0
CallsTo state answers part p x s (Ok b) q y =
    (a : Shown) × (m t : Filter) × Ends (part s) a m × CalledBack most answers p m q t × (b ≡ result_of a t)
    × Moved (state x.disk) (state y.disk) s.volume t.volume × Stands state y (begin_call t)
CallsTo state answers part p x s (Err (No c)) q y =
    (c ≡ code.Device) × (t : Filter) × Moved (state x.disk) (state y.disk) s.volume t.volume × Stopped state y t × Rose (state x.disk) (state y.disk)
    × ((Stops (part s) t × (q ≡ p)) ⊎ ((a : Shown) × (m : Filter) × Ends (part s) a m × CutBack most answers p m q t))
CallsTo state answers part p x s (Err OutOfMemory) q y = (t : Filter) × Moved (state x.disk) (state y.disk) s.volume t.volume × Lasts (state y.disk) t.volume

-- where the state has the property
pub record CallsBack {D P : Type 0} (state : D → State) (answers : Answering P) (H : Filter → Type 0) (part : Arrow Filter Shown) (p : P) (x : Held D) (r : Result Shown CallError) (q : P) (y : Held D) : Type 0 where
  pub leads : (s : Filter) → Stands state x s → H s → CallsTo state answers part p x s r q y

-- A call of a filter that may call its provider. After a call that was stopped every call is refused as Broken, and nothing
-- changes. Else it does its part and the callbacks; it breaks the filter exactly where the device or memory stops it.
pub record Provides {D P A : Type 0} (state : D → State) (answers : Answering P) (H : Filter → Type 0) (show : A → Shown) (part : Arrow Filter Shown) (p : P) (old : Held D) (r : Result A CallError) (q : P) (new : Held D) : Type 0 where
  pub broken : old.desk.broken ≡ true → (r ≡ Err (No code.Broken)) × (new ≡ old) × (q ≡ p)
  pub does : old.desk.broken ≡ false → (told : Told A) × (r ≡ answer_of told) × CallsBack state answers H part p old (shown_by show told) q new × (new.desk.broken ≡ is_stopped told)
