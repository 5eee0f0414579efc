-- The asks of the remote that fail over calls of the filter and their callbacks.
use Rattle.std.proofs.Common.{◌≡◌, ◌+◌, ℕ, List, [], ◌∷◌, refl, sym, ap, subst, ◌∙◌, inl, inr, arith}
use Rattle.std.specs.Prelude.{◌⊎◌, Result, Ok, Err}
use Rattle.cf_filter_events.specs.Actors.{Acts, IsActor, hushed}
use Rattle.cf_filter_events.specs.Answered.{answered_by, showing}
use Rattle.cf_filter_events.specs.Faulted.{LinesTo}
use Rattle.cf_filter_events.specs.Meaning.{IsBegun}
use Rattle.cf_filter_events.specs.Pasts.{Past}
use Rattle.cf_filter_events.proofs.Hushed.{notes_told, stands_noted, stop_told, was_broken}
use Rattle.cf_base.specs.declared.answers.Shown.{Shown}
use Rattle.cf_base.specs.declared.answers.Shown.TheVariants as shown
use Rattle.cf_base.specs.declared.codes.CallError.{CallError}
use Rattle.cf_base.specs.declared.codes.CallError.TheVariants.{No, OutOfMemory}
use Rattle.cf_base.specs.declared.notices.Notice.{Notice}
use Rattle.cf_base.specs.declared.waits.Ask.{Ask}
use Rattle.cf_disk.specs.Disk.{State as Disk}
use Rattle.cf_engine_host.specs.Callbacks.{Answering, AnswersOn, CutBack, CutOff, Drained}
use Rattle.cf_engine_provider.specs.Agencies.{faults_among}
use Rattle.cf_engine_steps.proofs.QuietParts.{acts_lines, quiet_filter}
use Rattle.cf_engine_steps.specs.Faults.{Rose, fault_lines, rose_both, rose_none}
use Rattle.cf_filter.specs.Calling.{Calls, Told as Said, answer_of, noted, shown_by}
use Rattle.cf_filter.specs.Draining.{CallsTo, Provides}
use Rattle.cf_filter_machine.specs.Held.{Held}
use Rattle.cf_filter_machine.specs.Sensing.{sense}
use Rattle.cf_filter_steps.specs.Answering.{After, Any}
use Rattle.cf_link.proofs.FaultCounts as counts
use Rattle.cf_link.specs.Faults.{AsksFailed, faults_in}
use Rattle.cf_model.proofs.Closed.{ClosedFilter}
use Rattle.cf_model.proofs.TreeLaws.{kept_at_end, kept_at_stop}
use Rattle.cf_model.specs.Arrows.{Arrow, Preserves}
use Rattle.cf_model.specs.Callbacks.{begin_call}
use Rattle.cf_model.specs.Numbers.{most}
use Rattle.cf_model.specs.Ports.{Act, Acts as Goes, with_rest}
use Rattle.cf_model.specs.State.{Filter, State}
use Rattle.cf_model.specs.Trees.{Does, Ends, Stops}
use Rattle.cf_provider.specs.Sights.{callback_of}
use Rattle.cf_remote.specs.Told.{Told}

-- a part that is made of the filter's own steps: it keeps what each of these keeps
abbrev pub IsMade : Arrow Filter Shown → Type 1
IsMade part = (P : Filter → Type 0) → ClosedFilter P → Preserves P part

-- no line of a fault is added by such a part

abbrev Same : ℕ → Filter → Type 0
Same n s = fault_lines s ≡ n

lines_end : (part : Arrow Filter Shown) (s t : Filter) (a : Shown) → IsMade part → Ends (part s) a t → fault_lines t ≡ fault_lines s
lines_end part s t a made h = kept_at_end (Same (fault_lines s)) (part s) a t ((made (Same (fault_lines s)) (quiet_filter (fault_lines s))).keeps s refl) h

lines_stop : (part : Arrow Filter Shown) (s t : Filter) → IsMade part → Stops (part s) t → fault_lines t ≡ fault_lines s
lines_stop part s t made h = kept_at_stop (Same (fault_lines s)) (part s) t ((made (Same (fault_lines s)) (quiet_filter (fault_lines s))).keeps s refl) h

-- asks of which so many failed

pub rose_as : (n m : ℕ) (before after : Told) → n ≡ m → AsksFailed m before after → AsksFailed n before after
rose_as n m before after same h = subst (λ (k : ℕ). AsksFailed k before after) (sym same) h

pub rose_same : (n : ℕ) (before : Told) → n ≡ 0 → AsksFailed n before before
rose_same n before none = rose_as n 0 before before none (counts.failed_none before)

-- the lines of the state that the event left are those of the answer
pub rose_lines : (ns : List Notice) (s t : Filter) (before after : Told) → s.notes ≡ [] → t.notes ≡ ns → Rose before after (fault_lines s) (fault_lines t) → AsksFailed (faults_in ns) before after
rose_lines ns s t before after none notes h =
    let first : fault_lines s ≡ 0 = ap faults_in none in
    let last : faults_in ns ≡ fault_lines t = sym (ap faults_in notes) in
    let lines : fault_lines t ≡ fault_lines s + h.more = h.lines in
    rose_as (faults_in ns) h.more before after (omega (arith, first, last, lines)) h.failed

-- what a call told, with these notes

abbrev LinesOf : {A : Type 0} → Said A → List Notice → Told → Told → Type 0
LinesOf (Ok r) ns before after = AsksFailed (faults_in ns) before after
LinesOf (Err (No c)) ns before after = AsksFailed (faults_in ns) before after
LinesOf (Err OutOfMemory) ns before after = Unit {0}

lines_told : {A : Type 0} (q : Said A) (show : A → Shown) (ns : List Notice) (before after : Told) → LinesOf q ns before after → LinesTo (answered_by (showing show (answer_of q)) ns) before after
lines_told (Ok (Ok a)) show ns before after h = h
lines_told (Ok (Err c)) show ns before after h = h
lines_told (Err (No c)) show ns before after h = h
lines_told (Err OutOfMemory) show ns before after h = h

plain_lines : (r : Result Shown CallError) (n : Told) → LinesTo (answered_by r []) n n
plain_lines (Ok a) n = rose_same 0 n refl
plain_lines (Err (No c)) n = rose_same 0 n refl
plain_lines (Err OutOfMemory) n = record {}

module _ {D A : Type 0} (answers : Answering A) (acts : Acts A) (actor : IsActor answers acts) (state : D → Disk) where
  -- callbacks: the count rises with the lines

  abbrev RoseFor : A → A → Filter → Filter → Type 0
  RoseFor p q s t = Rose (acts.remote p) (acts.remote q) (fault_lines s) (fault_lines t)

  rose_run : (ask : Ask) (p q : A) (s t : Filter) (did : List Act) → AnswersOn answers ask p s did q → Goes s did t → RoseFor p q s t
  rose_run ask p q s t did h goes = record { more = faults_among did; lines = acts_lines did s t goes; failed = actor.faulted p q h.seen (callback_of ask s) did h.gives }

  rose_then : (p m q : A) (s u t : Filter) → RoseFor p m s u → RoseFor m q u t → RoseFor p q s t
  rose_then p m q s u t h k = rose_both (acts.remote p) (acts.remote m) (acts.remote q) (fault_lines s) (fault_lines u) (fault_lines t) h k

  rose_still : (p q : A) (s t : Filter) → q ≡ p → fault_lines t ≡ fault_lines s → RoseFor p q s t
  rose_still p q s t same lines = subst (λ (z : A). RoseFor p z s t) (sym same) (rose_none (acts.remote p) (fault_lines s) (fault_lines t) lines)

  rose_all : (runs : List (List Act)) (p q : A) (s t : Filter) → Drained answers p s runs q t → RoseFor p q s t
  rose_all [] p q s t h = rose_still p q s t h.2 (ap fault_lines h.1)
  rose_all (did ∷ more) p q s t h = rose_then p h.6 q s h.3 t (rose_run h.0 p h.6 (with_rest h.1 s) h.3 did h.7 h.4) (rose_all more h.6 q h.3 t h.8)

  rose_cut : (runs : List (List Act)) (p q : A) (s t : Filter) → CutOff answers p s runs q t → RoseFor p q s t
  rose_cut [] p q s t h = absurd h
  rose_cut (did ∷ []) p q s t h = rose_run h.0 p q (with_rest h.1 s) t did h.5 h.3
  rose_cut (did ∷ next ∷ more) p q s t h = rose_then p h.6 q s h.3 t (rose_run h.0 p h.6 (with_rest h.1 s) h.3 did h.7 h.4) (rose_cut (next ∷ more) h.6 q h.3 t h.8)

  -- a call's part, and then its callbacks

  rose_through : (part : Arrow Filter Shown) (p q : A) (s m t : Filter) (a : Shown) → IsMade part → Ends (part s) a m → RoseFor p q m t → RoseFor p q s t
  rose_through part p q s m t a made ends h = rose_then p p q s m t (rose_still p p s m refl (lines_end part s m a made ends)) h

  rose_back : {B : Type 0} (part : Arrow Filter Shown) (show : B → Shown) (told : Said B) (p q : A) (x y : Held D) (ns : List Notice) (s : Filter) → IsMade part → s.notes ≡ [] → CallsTo state answers part p x s (shown_by show told) q (noted ns y)
      → LinesOf told ns (acts.remote p) (acts.remote q)
  rose_back part show (Ok (Ok b)) p q x y ns s made none h =
      rose_lines ns s (begin_call h.2) (acts.remote p) (acts.remote q) none (notes_told state y ns (begin_call h.2) h.7) (rose_through part p q s h.1 h.2 h.0 made h.3 (rose_all h.4.runs p q h.1 h.2 h.4.drained))
  rose_back part show (Ok (Err c)) p q x y ns s made none h =
      rose_lines ns s (begin_call h.2) (acts.remote p) (acts.remote q) none (notes_told state y ns (begin_call h.2) h.7) (rose_through part p q s h.1 h.2 h.0 made h.3 (rose_all h.4.runs p q h.1 h.2 h.4.drained))
  rose_back part show (Err (No c)) p q x y ns s made none h = rose_lines ns s h.1 (acts.remote p) (acts.remote q) none (stop_told state y ns h.1 h.3) (by h.5)
    where
      by : (Stops (part s) h.1 × (q ≡ p)) ⊎ ((a : Shown) × (m : Filter) × Ends (part s) a m × CutBack most answers p m q h.1) → RoseFor p q s h.1
      by (inl first) = rose_still p q s h.1 first.1 (lines_stop part s h.1 made first.0)
      by (inr later) = rose_through part p q s later.1 h.1 later.0 made later.2 (rose_cut later.3.runs p q later.1 h.1 later.3.cut)
  rose_back part show (Err OutOfMemory) p q x y ns s made none h = record {}

  pub provides_faults : {B : Type 0} (part : Arrow Filter Shown) (show : B → Shown) (p q : A) (ns : List Notice) (x y : Held D) (r : Result B CallError) → IsMade part → Provides state answers Any show part p (noted [] x) r q (noted ns y)
      → (past : Past) (s : State) → IsBegun acts state past (record { filter = x; actor = p }) s → LinesTo (answered_by (showing show r) ns) (acts.remote p) (acts.remote q)
  provides_faults {B} part show p q ns x y r made calls past s on =
      let d = calls.does (was_broken state x ∙ on.whole) in
      let h = d.2.leads (hushed s.filter) (stands_noted state x (hushed s.filter) on.quiet on.stands) (record {}) in
      subst (λ (w : Result B CallError). LinesTo (answered_by (showing show w) ns) (acts.remote p) (acts.remote q)) (sym d.1)
      (lines_told d.0 show ns (acts.remote p) (acts.remote q) (rose_back part show d.0 p q (noted [] x) y ns (hushed s.filter) made refl h))

module _ {D A : Type 0} (acts : Acts A) (state : D → Disk) where
  -- calls without callbacks

  rose_call : {B : Type 0} (part : Arrow Filter Shown) (show : B → Shown) (told : Said B) (n : Told) (x y : Held D) (ns : List Notice) (s t : Filter) → IsMade part → s.notes ≡ [] → Does (part s) (shown_by show told) t → After (sense state) x (shown_by show told) (noted ns y) t → LinesOf told ns n n
  rose_call part show (Ok (Ok b)) n x y ns s t made none does after = rose_lines ns s t n n none (notes_told state y ns t after) (rose_none n (fault_lines s) (fault_lines t) (lines_end part s t (show b) made does))
  rose_call part show (Ok (Err c)) n x y ns s t made none does after = rose_lines ns s t n n none (notes_told state y ns t after) (rose_none n (fault_lines s) (fault_lines t) (lines_end part s t (shown.Refused c) made does))
  rose_call part show (Err (No c)) n x y ns s t made none does after = rose_lines ns s t n n none (stop_told state y ns t after.0) (rose_none n (fault_lines s) (fault_lines t) (lines_stop part s t made does.1))
  rose_call part show (Err OutOfMemory) n x y ns s t made none does after = record {}

  pub calls_faults : {B : Type 0} (part : Arrow Filter Shown) (show : B → Shown) (p : A) (ns : List Notice) (x y : Held D) (r : Result B CallError) → IsMade part → Calls (sense state) show part (noted [] x) r (noted ns y)
      → (past : Past) (s : State) → IsBegun acts state past (record { filter = x; actor = p }) s → LinesTo (answered_by (showing show r) ns) (acts.remote p) (acts.remote p)
  calls_faults {B} part show p ns x y r made calls past s on =
      let d = calls.does (was_broken state x ∙ on.whole) in
      let h = d.2.leads (hushed s.filter) (stands_noted state x (hushed s.filter) on.quiet on.stands) (record {}) in
      subst (λ (w : Result B CallError). LinesTo (answered_by (showing show w) ns) (acts.remote p) (acts.remote p)) (sym d.1)
      (lines_told d.0 show ns (acts.remote p) (acts.remote p) (rose_call part show d.0 (acts.remote p) (noted [] x) y ns (hushed s.filter) h.0 made refl h.1 h.3))

-- a call whose answer has no lines
pub plainly_faults : {A B : Type 0} (acts : Acts A) (show : B → Shown) (p : A) (r : Result B CallError) → LinesTo (answered_by (showing show r) []) (acts.remote p) (acts.remote p)
plainly_faults acts show p r = plain_lines (showing show r) (acts.remote p)
