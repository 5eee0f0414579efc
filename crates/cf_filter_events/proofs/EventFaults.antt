-- The asks of the remote that fail over events.
use Rattle.std.proofs.Common.{◌≡◌, ◌+◌, ℕ, Bool, true, false, [], sym, ap, subst, ◌∙◌, inl, inr, refl, arith}
use Rattle.std.specs.Prelude.{◌⊎◌, cond, IfOk, Result, Ok, Err}
use Rattle.cf_filter_events.specs.Actors.{Acts, IsActor, StepsBeside}
use Rattle.cf_filter_events.specs.Answered.{answer_with, answered_by}
use Rattle.cf_filter_events.specs.Counted.{StepsOn, known_as, known_by, meets_device}
use Rattle.cf_filter_events.specs.Faulted.{Faults, FaultsTo, LinesTo, faults_shown, is_remote_fault, local_as, local_by, meets_remote}
use Rattle.cf_filter_events.specs.Meaning.{Is, IsBegun, IsOff, IsOn}
use Rattle.cf_filter_events.specs.Pasts.{Past}
use Rattle.cf_filter_events.specs.declared.places.Acting.TheVariants as acting
use Rattle.cf_filter_events.specs.declared.places.Cut.{Cut}
use Rattle.cf_filter_events.specs.declared.places.RunningOn.{RunningOn as Run}
use Rattle.cf_filter_events.proofs.CallFaults.{rose_as, rose_same}
use Rattle.cf_filter_events.proofs.Wholes.{on_holds}
use Rattle.cf_base.specs.declared.answers.Answer.{Answer}
use Rattle.cf_base.specs.declared.answers.Shown.{Shown}
use Rattle.cf_base.specs.declared.answers.Shown.TheVariants as shown
use Rattle.cf_base.specs.declared.codes.Code.TheVariants as code
use Rattle.cf_base.specs.declared.codes.CallError.{CallError}
use Rattle.cf_base.specs.declared.codes.CallError.TheVariants.{No, OutOfMemory}
use Rattle.cf_base.specs.declared.events.Event.{Event}
use Rattle.cf_base.specs.declared.memory.OutOfMemory.{OutOfMemory as NoMemory}
use Rattle.cf_disk.specs.Disk.{State as Disk}
use Rattle.cf_engine_host.specs.Callbacks.{Answering}
use Rattle.cf_filter_machine.specs.Held.{Held}
use Rattle.cf_link.specs.Faults.{AsksFailed, faults_in}
use Rattle.cf_model.specs.State.{State}
use Rattle.cf_remote.specs.Told.{Told}
use Rattle.cf_volume.specs.Calls.{IsRefused, StopsOnly}

-- an answer that reports no fault

silent : (a : Answer) (before after : Told) → faults_shown a ≡ 0 → after ≡ before → FaultsTo (Ok a) before after
silent a before after none same = subst (λ (n : Told). AsksFailed (faults_shown a) before n) (sym same) (rose_same (faults_shown a) before none)

pub shows_none : (a : Answer) (r : Shown) → a ≡ answer_with r [] → meets_remote r ≡ false → faults_shown a ≡ 0
shows_none a r is plain = ap faults_shown is ∙ ap (λ (b : Bool). 0 + cond b 1 0) plain

pub shown_faults : (a : Answer) (r : Shown) (before after : Told) → a ≡ answer_with r [] → meets_remote r ≡ false → after ≡ before → FaultsTo (Ok a) before after
shown_faults a r before after is plain same = silent a before after (shows_none a r is plain) same

pub silent_faults : (r : Result Answer NoMemory) (before after : Told) → IfOk r (λ a. faults_shown a ≡ 0) → after ≡ before → FaultsTo r before after
silent_faults (Ok a) before after none same = silent a before after none same
silent_faults (Err m) before after none same = record {}

pub faults_always : {X : Type 0} (Is : Past → X → State → Type 0) (x : X) (r : Result Answer NoMemory) (before after : Told) → FaultsTo r before after → Faults Is x r before after
faults_always Is x r before after h = record { failed = λ past s is. h }

-- an opening that failed
pub failed_faults : (e : CallError) (n : Told) → StopsOnly e ⊎ (IsRefused e code.NotAVolume ⊎ IsRefused e code.Exhausted) → FaultsTo (answered_by (Err e) []) n n
failed_faults OutOfMemory n only = record {}
failed_faults (No k) n (inl stopped) = shown_faults (answer_with (shown.Refused k) []) (shown.Refused k) n n refl (ap is_remote_fault stopped) refl
failed_faults (No k) n (inr (inl absent)) = shown_faults (answer_with (shown.Refused k) []) (shown.Refused k) n n refl (ap is_remote_fault absent) refl
failed_faults (No k) n (inr (inr spent)) = shown_faults (answer_with (shown.Refused k) []) (shown.Refused k) n n refl (ap is_remote_fault spent) refl

-- what is known of the answer

known_faults : (b m : Bool) (a : Answer) (before after : Told) → FaultsTo (Ok a) before after → FaultsTo (known_as b m a) before after
known_faults true m a before after h = h
known_faults false true a before after h = record {}
known_faults false false a before after h = h

known_to : (b : Bool) (r : Result Answer NoMemory) (before after : Told) → FaultsTo r before after → FaultsTo (known_by b r) before after
known_to b (Ok a) before after h = known_faults b (meets_device a.shown) a before after h
known_to b (Err m) before after h = h

known_lines : (b m : Bool) (a : Answer) (before after : Told) → LinesTo (Ok a) before after → LinesTo (known_as b m a) before after
known_lines true m a before after h = h
known_lines false true a before after h = record {}
known_lines false false a before after h = h

lines_known : (b : Bool) (r : Result Answer NoMemory) (before after : Told) → LinesTo r before after → LinesTo (known_by b r) before after
lines_known b (Ok a) before after h = known_lines b (meets_device a.shown) a before after h
lines_known b (Err m) before after h = h

-- one that does not report a fault by its result reports those of its lines alone

pub lines_faults : (a : Answer) (before after : Told) → meets_remote a.shown ≡ false → AsksFailed (faults_in a.notes) before after → FaultsTo (Ok a) before after
lines_faults a before after is h =
    let none : ◌≡◌ {A = ℕ} (cond (meets_remote a.shown) 1 0) 0 = ap (λ (b : Bool). cond b 1 0) is in
    let all : faults_shown a ≡ faults_in a.notes = omega (arith, none) in
    rose_as (faults_shown a) (faults_in a.notes) before after all h

-- and one without lines that of its result
pub result_faults : (a : Answer) (before after : Told) → a.notes ≡ [] → AsksFailed (cond (meets_remote a.shown) 1 0) before after → FaultsTo (Ok a) before after
result_faults a before after none h =
    let lines : faults_in a.notes ≡ 0 = ap faults_in none in
    let all : faults_shown a ≡ cond (meets_remote a.shown) 1 0 = omega (arith, lines) in
    rose_as (faults_shown a) (cond (meets_remote a.shown) 1 0) before after all h

local_faults : (b : Bool) (a : Answer) (before after : Told) → meets_remote a.shown ≡ b → LinesTo (Ok a) before after → FaultsTo (local_as b a) before after
local_faults true a before after is h = record {}
local_faults false a before after is h = lines_faults a before after is h

local_to : (r : Result Answer NoMemory) (before after : Told) → LinesTo r before after → FaultsTo (local_by r) before after
local_to (Ok a) before after h = local_faults (meets_remote a.shown) a before after refl h
local_to (Err m) before after h = record {}

-- an event that needs no volume
pub beside_to : {A : Type 0} (acts : Acts A) (p q : A) (e : Event) (r a : Result Answer NoMemory) (s : State) → StepsBeside acts e p r q → a ≡ known_by false r → acts.holds p s → FaultsTo a (acts.remote p) (acts.remote q)
beside_to acts p q e r a s beside is holds = subst (λ (w : Result Answer NoMemory). FaultsTo w (acts.remote p) (acts.remote q)) (sym is) (known_to false r (acts.remote p) (acts.remote q) (beside.faults s holds))

module _ {D A : Type 0} (acts : Acts A) (state : D → Disk) where
  -- an event that the actor began
  pub begun_faults : (past : Past) (s : State) (e : Event) (n : Told) (x y : Run D A) (b : Bool) (r k a : Result Answer NoMemory) → acts.remote x.actor ≡ n → k ≡ known_by b r → a ≡ local_by k → StepsOn acts state e x r y → IsBegun acts state past x s → FaultsTo a n (acts.remote y.actor)
  begun_faults past s e n x y b r k a same known local h on =
      let lines = subst (λ (m : Told). LinesTo r m (acts.remote y.actor)) same (h.faults past s on) in
      let to = subst (λ (w : Result Answer NoMemory). LinesTo w n (acts.remote y.actor)) (sym known) (lines_known b r n (acts.remote y.actor) lines) in
      subst (λ (w : Result Answer NoMemory). FaultsTo w n (acts.remote y.actor)) (sym local) (local_to k n (acts.remote y.actor) to)

  pub on_faults : {answers : Answering A} (actor : IsActor answers acts) (x : Held D) (p q : A) (e : Event) (r a : Result Answer NoMemory) → StepsBeside acts e p r q → a ≡ known_by false r
      → Faults (IsOn acts state) (record { filter = x; actor = p }) a (acts.remote p) (acts.remote q)
  on_faults {answers} actor x p q e r a beside is = record { failed = λ past s on. beside_to acts p q e r a s beside is (on_holds answers acts actor state past (record { filter = x; actor = p }) s on) }

  -- of the world
  pub faults_over : (x : Run D A) (r : Result Answer NoMemory) (before after : Told) → Faults (IsOn acts state) x r before after → Faults (Is acts state) (acting.On x) r before after
  faults_over x r before after h = record { failed = λ past s on. h.failed past s on }

  pub faults_off : (x : Cut D A) (r : Result Answer NoMemory) (before after : Told) → Faults (IsOff acts state) x r before after → Faults (Is acts state) (acting.Off x) r before after
  faults_off x r before after h = record { failed = λ past s off. h.failed past s off }
