-- The disk's count of failed calls over calls of the filter.
use Rattle.std.proofs.Common.{◌≡◌, ◌≤◌, ◌+◌, ℕ, Bool, true, false, List, [], refl, sym, ap, subst, ◌∙◌, inl, inr, arith}
use Rattle.std.specs.Prelude.{◌⊎◌, IfOk, None, Option, Result, Ok, Err, Some, option_map}
use Rattle.cf_filter_events.specs.Answered.{answer_with, answered_by, showing}
use Rattle.cf_filter_events.specs.Counted.{CountsBy, CountsIf, CountsOver, CountsTo, Counts, GoesOn, StepsOn, arms, known_as, known_by, meets_device}
use Rattle.cf_filter_events.specs.Actors.{Acts, hushed}
use Rattle.cf_filter_events.specs.Faulted.{local_as, local_by, meets_remote}
use Rattle.cf_filter_events.specs.Meaning.{Is, IsBegun, IsOn}
use Rattle.cf_filter_events.specs.Pasts.{Past}
use Rattle.cf_filter_events.specs.Stepped.{SteppedTo, actor_of, disk_of}
use Rattle.cf_filter_events.specs.declared.places.Acting.{Acting}
use Rattle.cf_filter_events.specs.declared.places.Acting.TheVariants as acting
use Rattle.cf_filter_events.specs.declared.places.RunningOn.{RunningOn as Run}
use Rattle.cf_filter_events.proofs.Hushed.{stands_noted}
use Rattle.cf_base.specs.declared.answers.Answer.{Answer}
use Rattle.cf_base.specs.declared.answers.Shown.{Shown}
use Rattle.cf_base.specs.declared.codes.Code.TheVariants as code
use Rattle.cf_base.specs.declared.codes.CallError.{CallError}
use Rattle.cf_base.specs.declared.codes.CallError.TheVariants.{No, OutOfMemory}
use Rattle.cf_base.specs.declared.events.Event.{Event}
use Rattle.cf_base.specs.declared.memory.OutOfMemory.{OutOfMemory as NoMemory}
use Rattle.cf_base.specs.declared.notices.Notice.{Notice}
use Rattle.cf_base.specs.declared.policies.Mode.{Mode}
use Rattle.cf_disk.specs.Disk.{State as Disk, may_fail}
use Rattle.cf_engine_host.specs.Callbacks.{Answering}
use Rattle.cf_filter.specs.Calling.{Asks, Calls, Told, answer_of, is_stopped, noted, shown_by}
use Rattle.cf_filter.specs.Draining.{CallsTo, Provides}
use Rattle.cf_filter_machine.specs.Held.{Held}
use Rattle.cf_filter_machine.specs.Sensing.{Rose, Stands, sense}
use Rattle.cf_model.specs.Arrows.{Arrow, is_device}
use Rattle.cf_model.specs.State.{Filter, State}
use Rattle.cf_filter_steps.specs.Answering.{After, Any}
use Rattle.cf_volume.specs.Calls.{IsCause, IsRefused, Runs, StopsOnly}

never_both : {A : Type 0} → false ≡ true → A
never_both e = let z : false ≡ true = e in absurd cc

-- a disk that is not used
pub stays : (d : Disk) → GoesOn d d
stays d = (omega arith, omega arith, refl)

-- a disk after calls
pub ran_on : (d e : Disk) → Runs d e → GoesOn d e
ran_on d e runs = (runs.faults, runs.calm, runs.settings)

-- a power cut ends what was armed
pub cut_off : (d e : Disk) → e.faults ≡ d.faults → e.armed ≡ option_map (λ _. None) d.armed → e.settings ≡ d.settings → GoesOn d e
cut_off d e same armed settings = (omega (arith, same), by d.armed armed, settings) where
  by : (a : Option (Option ℕ)) → e.armed ≡ option_map (λ _. None) a → may_fail e.armed ≤ may_fail a
  by None is = omega (arith, ap may_fail is)
  by (Some n) is = omega (arith, ap may_fail is)

-- the count over a call that was stopped
abbrev RoseBy : {A : Type 0} → Told A → Disk → Disk → Type 0
RoseBy (Ok r) d e = Unit {0}
RoseBy (Err (No c)) d e = Rose d e
RoseBy (Err OutOfMemory) d e = Unit {0}

-- an answer that tells of no device call that failed
pub plain_counts : (a : Answer) (d e : Disk) → GoesOn d e → meets_device a.shown ≡ false → CountsTo (Ok a) d e
plain_counts a d e least plain = (least, λ met. never_both (sym plain ∙ met))

pub shown_counts : (a : Answer) (r : Shown) (d e : Disk) → a ≡ answer_with r [] → meets_device r ≡ false → GoesOn d e → CountsTo (Ok a) d e
shown_counts a r d e is plain goes = plain_counts a d e goes (ap (λ (b : Answer). meets_device b.shown) is ∙ plain)

pub counts_always : {X : Type 0} (Is : Past → X → State → Type 0) (x : X) (r : Result Answer NoMemory) (d e : Disk) → CountsTo r d e → Counts Is x r d e
counts_always Is x r d e h = record { counts = λ past s is. h }

-- of an event, which may be a stop

pub counts_by : (n : ℕ) (r : Result Answer NoMemory) (d e : Disk) → CountsTo r d e → CountsBy n r d e
counts_by n (Ok a) d e h = (h.0.0, omega (arith, h.0.1), h.1, h.0.2)
counts_by n (Err m) d e h = record {}

pub stop_counts : (calls : ℕ) (a : Answer) (r : Shown) (d e : Disk) → a ≡ answer_with r [] → meets_device r ≡ false → e.faults ≡ d.faults → e.armed ≡ option_map (λ _. Some calls) d.armed → e.settings ≡ d.settings → CountsBy 1 (Ok a) d e
stop_counts calls a r d e is plain same armed settings = (omega (arith, same), by d.armed armed, λ met. never_both (sym (ap (λ (b : Answer). meets_device b.shown) is ∙ plain) ∙ met), settings)
  where
    by : (o : Option (Option ℕ)) → e.armed ≡ option_map (λ _. Some calls) o → may_fail e.armed ≤ may_fail o + 1
    by None h = omega (arith, ap may_fail h)
    by (Some None) h = omega (arith, ap may_fail h)
    by (Some (Some n)) h = omega (arith, ap may_fail h)

pub counts_event : {X : Type 0} (Is : Past → X → State → Type 0) (e : Event) (x : X) (r : Result Answer NoMemory) (d f : Disk) → CountsBy (arms e) r d f → CountsOver Is e x r d f
counts_event Is e x r d f h = record { counts = λ past s is. h }

pub plain_if : (a : Answer) (b : Bool) (d : Disk) → meets_device a.shown ≡ false → CountsIf b (Ok a) d d
plain_if a b d plain = (stays d, λ broken met. never_both (sym plain ∙ met))

-- a filter that is not broken
whole_counts : (b : Bool) (r : Result Answer NoMemory) (d e : Disk) → GoesOn d e → b ≡ false → CountsIf b r d e
whole_counts b (Ok a) d e least whole = (least, λ broken met. never_both (sym whole ∙ broken))
whole_counts b (Err m) d e least whole = record {}

told_counts : {A : Type 0} (q : Told A) (show : A → Shown) (ns : List Notice) (b : Bool) (d e : Disk) → GoesOn d e → b ≡ is_stopped q → RoseBy q d e → CountsIf b (answered_by (showing show (answer_of q)) ns) d e
told_counts (Ok (Ok a)) show ns b d e least is rose = (least, λ broken met. never_both (sym is ∙ broken))
told_counts (Ok (Err c)) show ns b d e least is rose = (least, λ broken met. never_both (sym is ∙ broken))
told_counts (Err (No c)) show ns b d e least is rose = (least, λ broken met. rose)
told_counts (Err OutOfMemory) show ns b d e least is rose = record {}

-- a call after one that was stopped
broken_counts : {A : Type 0} (r : Result A CallError) (show : A → Shown) (ns : List Notice) (b : Bool) (d e : Disk) → r ≡ Err (No code.Broken) → GoesOn d e → CountsIf b (answered_by (showing show r) ns) d e
broken_counts {A} r show ns b d e is least =
    let h : CountsIf b (answered_by (showing show (Err (No code.Broken))) ns) d e = (least, λ broken met. never_both met) in
    subst (λ (w : Result A CallError). CountsIf b (answered_by (showing show w) ns) d e) (sym is) h

-- an opening that failed
pub failed_counts : (e : CallError) (c d : Disk) → GoesOn c d → StopsOnly e ⊎ (IsRefused e code.NotAVolume ⊎ IsRefused e code.Exhausted) → IsCause e c d → CountsTo (answered_by (Err e) []) c d
failed_counts OutOfMemory c d least only cause = record {}
failed_counts (No k) c d least (inl stopped) cause = (least, λ met. cause stopped)
failed_counts (No k) c d least (inr (inl absent)) cause = (least, λ met. never_both (sym (ap is_device absent) ∙ met))
failed_counts (No k) c d least (inr (inr spent)) cause = (least, λ met. never_both (sym (ap is_device spent) ∙ met))

module _ {D : Type 0} (state : D → Disk) where
  -- calls

  rose_after : {A : Type 0} (show : A → Shown) (q : Told A) (x y : Held D) (t : Filter) → After (sense state) x (shown_by show q) y t → RoseBy q (state x.disk) (state y.disk)
  rose_after show (Ok r) x y t h = record {}
  rose_after show (Err (No c)) x y t h = h.1
  rose_after show (Err OutOfMemory) x y t h = record {}

  same_least : (x y : Held D) → y ≡ x → GoesOn (state x.disk) (state y.disk)
  same_least x y same = subst (λ (z : Held D). GoesOn (state x.disk) (state z.disk)) (sym same) (stays (state x.disk))

  call_counts : {A : Type 0} (part : Arrow Filter Shown) (show : A → Shown) (ns : List Notice) (x y : Held D) (r : Result A CallError) (f : Filter) → Calls (sense state) show part x r y → (x.desk.broken ≡ false → Stands state x f)
      → CountsIf y.desk.broken (answered_by (showing show r) ns) (state x.disk) (state y.disk)
  call_counts {A} part show ns x y r f calls stands = by x.desk.broken refl
    where
      by : (b : Bool) → x.desk.broken ≡ b → CountsIf y.desk.broken (answered_by (showing show r) ns) (state x.disk) (state y.disk)
      by true is = let c = calls.broken is in broken_counts r show ns y.desk.broken (state x.disk) (state y.disk) c.0 (same_least x y c.1)
      by false is =
          let d = calls.does is in
          let h = d.2.leads f (stands is) (record {}) in
          subst (λ (w : Result A CallError). CountsIf y.desk.broken (answered_by (showing show w) ns) (state x.disk) (state y.disk)) (sym d.1)
          (told_counts d.0 show ns y.desk.broken (state x.disk) (state y.disk) (ran_on (state x.disk) (state y.disk) h.2.runs) d.3 (rose_after show d.0 x y h.0 h.3))

  rose_back : {P A : Type 0} (answers : Answering P) (part : Arrow Filter Shown) (show : A → Shown) (q : Told A) (p left : P) (x y : Held D) (s : Filter) → CallsTo state answers part p x s (shown_by show q) left y
      → GoesOn (state x.disk) (state y.disk) × RoseBy q (state x.disk) (state y.disk)
  rose_back answers part show (Ok (Ok a)) p left x y s h = (ran_on (state x.disk) (state y.disk) h.6.runs, record {})
  rose_back answers part show (Ok (Err c)) p left x y s h = (ran_on (state x.disk) (state y.disk) h.6.runs, record {})
  rose_back answers part show (Err (No c)) p left x y s h = (ran_on (state x.disk) (state y.disk) h.2.runs, h.4)
  rose_back answers part show (Err OutOfMemory) p left x y s h = (ran_on (state x.disk) (state y.disk) h.1.runs, record {})

  back_counts : {P A : Type 0} (answers : Answering P) (part : Arrow Filter Shown) (show : A → Shown) (ns : List Notice) (p left : P) (x y : Held D) (r : Result A CallError) (f : Filter) → Provides state answers Any show part p x r left y → (x.desk.broken ≡ false → Stands state x f)
      → CountsIf y.desk.broken (answered_by (showing show r) ns) (state x.disk) (state y.disk)
  back_counts {P} {A} answers part show ns p left x y r f calls stands = by x.desk.broken refl
    where
      by : (b : Bool) → x.desk.broken ≡ b → CountsIf y.desk.broken (answered_by (showing show r) ns) (state x.disk) (state y.disk)
      by true is = let c = calls.broken is in broken_counts r show ns y.desk.broken (state x.disk) (state y.disk) c.0 (same_least x y c.1)
      by false is =
          let d = calls.does is in
          let h = rose_back answers part show d.0 p left x y f (d.2.leads f (stands is) (record {})) in
          subst (λ (w : Result A CallError). CountsIf y.desk.broken (answered_by (showing show w) ns) (state x.disk) (state y.disk)) (sym d.1)
          (told_counts d.0 show ns y.desk.broken (state x.disk) (state y.disk) h.0 d.3 h.1)

  -- notes leave the disk
  as_noted : (ns : List Notice) (x y : Held D) (r : Result Answer NoMemory) → CountsIf (noted ns y).desk.broken r (state (noted [] x).disk) (state (noted ns y).disk) → CountsIf y.desk.broken r (state x.disk) (state y.disk)
  unfolding noted
  as_noted ns x y r h = h

  -- questions

  pub asks_count : {A : Type 0} (part : Arrow Filter Shown) (show : A → Shown) (x : Held D) (r : Result A CallError) → Asks (sense state) show part x r → CountsIf x.desk.broken (answered_by (showing show r) []) (state x.disk) (state x.disk)
  asks_count {A} part show x r asks = by x.desk.broken refl
    where
      by : (b : Bool) → x.desk.broken ≡ b → CountsIf x.desk.broken (answered_by (showing show r) []) (state x.disk) (state x.disk)
      by true is = broken_counts r show [] x.desk.broken (state x.disk) (state x.disk) (asks.broken is) (same_least x x refl)
      by false is = whole_counts x.desk.broken (answered_by (showing show r) []) (state x.disk) (state x.disk) (same_least x x refl) is

-- what is known of the answer

known_count : (b m : Bool) (a : Answer) (d e : Disk) → meets_device a.shown ≡ m → CountsIf b (Ok a) d e → CountsTo (known_as b m a) d e
known_count true m a d e is h = (h.0, λ met. h.1 refl met)
known_count false true a d e is h = record {}
known_count false false a d e is h = (h.0, λ met. never_both (sym is ∙ met))

known_to : (b : Bool) (r : Result Answer NoMemory) (d e : Disk) → CountsIf b r d e → CountsTo (known_by b r) d e
known_to b (Ok a) d e h = known_count b (meets_device a.shown) a d e refl h
known_to b (Err m) d e h = record {}

never_broken : (r : Result Answer NoMemory) (d : Disk) → CountsIf false r d d
never_broken (Ok b) d = (stays d, λ broken met. never_both broken)
never_broken (Err m) d = record {}

-- of an event that leaves the disk
pub known_same : (r a : Result Answer NoMemory) (d : Disk) → a ≡ known_by false r → CountsTo a d d
known_same r a d is = subst (λ (w : Result Answer NoMemory). CountsTo w d d) (sym is) (known_to false r d d (never_broken r d))

known_step : {X : Type 0} (m : Mode) (Is : X → State → Type 0) (e : Event) (s : State) (y : X) (b k : Bool) (a : Answer) → SteppedTo m Is e s (Ok a) y → SteppedTo m Is e s (known_as b k a) y
known_step m Is e s y true k a h = h
known_step m Is e s y false true a h = record {}
known_step m Is e s y false false a h = h

known_or : {X : Type 0} (m : Mode) (Is : X → State → Type 0) (e : Event) (s : State) (y : X) (b : Bool) (r : Result Answer NoMemory) → SteppedTo m Is e s r y → SteppedTo m Is e s (known_by b r) y
known_or m Is e s y b (Ok a) h = known_step m Is e s y b (meets_device a.shown) a h
known_or m Is e s y b (Err k) h = h

pub known_steps : {X : Type 0} (m : Mode) (Is : X → State → Type 0) (e : Event) (s : State) (y : X) (b : Bool) (r a : Result Answer NoMemory) → a ≡ known_by b r → SteppedTo m Is e s r y → SteppedTo m Is e s a y
known_steps m Is e s y b r a is h = subst (λ (w : Result Answer NoMemory). SteppedTo m Is e s w y) (sym is) (known_or m Is e s y b r h)

-- and where it does not report by its result that the remote failed

local_step : {X : Type 0} (m : Mode) (Is : X → State → Type 0) (e : Event) (s : State) (y : X) (b : Bool) (a : Answer) → SteppedTo m Is e s (Ok a) y → SteppedTo m Is e s (local_as b a) y
local_step m Is e s y true a h = record {}
local_step m Is e s y false a h = h

local_or : {X : Type 0} (m : Mode) (Is : X → State → Type 0) (e : Event) (s : State) (y : X) (r : Result Answer NoMemory) → SteppedTo m Is e s r y → SteppedTo m Is e s (local_by r) y
local_or m Is e s y (Ok a) h = local_step m Is e s y (meets_remote a.shown) a h
local_or m Is e s y (Err k) h = h

pub local_steps : {X : Type 0} (m : Mode) (Is : X → State → Type 0) (e : Event) (s : State) (y : X) (r a : Result Answer NoMemory) → a ≡ local_by r → SteppedTo m Is e s r y → SteppedTo m Is e s a y
local_steps m Is e s y r a is h = subst (λ (w : Result Answer NoMemory). SteppedTo m Is e s w y) (sym is) (local_or m Is e s y r h)

local_count : (b : Bool) (a : Answer) (d e : Disk) → CountsTo (Ok a) d e → CountsTo (local_as b a) d e
local_count true a d e h = record {}
local_count false a d e h = h

local_to : (r : Result Answer NoMemory) (d e : Disk) → CountsTo r d e → CountsTo (local_by r) d e
local_to (Ok a) d e h = local_count (meets_remote a.shown) a d e h
local_to (Err m) d e h = h

module _ {D A : Type 0} (acts : Acts A) (state : D → Disk) where
  noted_stands : (past : Past) (p : A) (x : Held D) (s : State) → IsBegun acts state past (record { filter = x; actor = p }) s → Stands state (noted [] x) (hushed s.filter)
  noted_stands past p x s on = stands_noted state x (hushed s.filter) on.quiet on.stands

  -- as the world makes them

  pub calls_count : {B : Type 0} (part : Arrow Filter Shown) (show : B → Shown) (p : A) (ns : List Notice) (x y : Held D) (r : Result B CallError) → Calls (sense state) show part (noted [] x) r (noted ns y)
      → (past : Past) (s : State) → IsBegun acts state past (record { filter = x; actor = p }) s → CountsIf y.desk.broken (answered_by (showing show r) ns) (state x.disk) (state y.disk)
  calls_count part show p ns x y r calls past s on =
      as_noted state ns x y (answered_by (showing show r) ns) (call_counts state part show ns (noted [] x) (noted ns y) r (hushed s.filter) calls (λ whole. noted_stands past p x s on))

  pub provides_count : {B : Type 0} (answers : Answering A) (part : Arrow Filter Shown) (show : B → Shown) (p left : A) (ns : List Notice) (x y : Held D) (r : Result B CallError) → Provides state answers Any show part p (noted [] x) r left (noted ns y)
      → (past : Past) (s : State) → IsBegun acts state past (record { filter = x; actor = p }) s → CountsIf y.desk.broken (answered_by (showing show r) ns) (state x.disk) (state y.disk)
  provides_count answers part show p left ns x y r calls past s on =
      as_noted state ns x y (answered_by (showing show r) ns) (back_counts state answers part show ns p left (noted [] x) (noted ns y) r (hushed s.filter) calls (λ whole. noted_stands past p x s on))

  pub plainly_count : {B : Type 0} (part : Arrow Filter Shown) (show : B → Shown) (p : A) (x y : Held D) (r : Result B CallError) → Calls (sense state) show part x r y
      → (past : Past) (s : State) → IsBegun acts state past (record { filter = x; actor = p }) s → CountsIf y.desk.broken (answered_by (showing show r) []) (state x.disk) (state y.disk)
  plainly_count part show p x y r calls past s on = call_counts state part show [] x y r (hushed s.filter) calls (λ whole. on.stands)

  -- an event that has begun, and what is known of its answer
  pub begun_counts : (past : Past) (s : State) (e : Event) (x y : Run D A) (b : Bool) (r k a : Result Answer NoMemory) → b ≡ y.filter.desk.broken → k ≡ known_by b r → a ≡ local_by k → StepsOn acts state e x r y → IsBegun acts state past x s
      → CountsTo a (state x.filter.disk) (state y.filter.disk)
  begun_counts past s e x y b r k a broken is local h on =
      let counts = subst (λ (o : Bool). CountsIf o r (state x.filter.disk) (state y.filter.disk)) (sym broken) (h.counts past s on) in
      let known = subst (λ (w : Result Answer NoMemory). CountsTo w (state x.filter.disk) (state y.filter.disk)) (sym is) (known_to b r (state x.filter.disk) (state y.filter.disk) counts) in
      subst (λ (w : Result Answer NoMemory). CountsTo w (state x.filter.disk) (state y.filter.disk)) (sym local) (local_to k (state x.filter.disk) (state y.filter.disk) known)

  -- of the open volume
  pub counts_over : (e : Event) (x : Run D A) (r : Result Answer NoMemory) (d f : Disk) → Counts (IsOn acts state) x r d f → CountsOver (Is acts state) e (acting.On x) r d f
  counts_over e x r d f h = record { counts = λ past s on. counts_by (arms e) r d f (h.counts past s on) }

  -- a restart that opened the volume
  pub opened_counts : (d : D) (x : Held D) (back : Acting D A) (r : Result Answer NoMemory) → Runs (state d) (state x.disk) → back ≡ acting.On (record { filter = x; actor = actor_of back }) → IfOk r (λ a. meets_device a.shown ≡ false) → CountsTo r (state d) (state (disk_of back))
  opened_counts d x back (Ok a) runs is plain = subst (λ (n : D). CountsTo (Ok a) (state d) (state n)) (sym (ap disk_of is)) (plain_counts a (state d) (state x.disk) (ran_on (state d) (state x.disk) runs) plain)
  opened_counts d x back (Err m) runs is plain = record {}
