-- Events of two devices that are done one after the other, and what was written of them.
use Rattle.std.proofs.Common.{◌≡◌, ℕ, suc, ◌+◌, ◌<◌, ◌≤◌, arith, length, drop, get_or, drop-cons, add-one, append_assoc, List, [], ◌∷◌, ◌++◌, sym, ap, subst, ◌∙◌, inl, inr}
use Rattle.std.specs.Prelude.{Option, Result, Ok, Err, IfErr, OnOk}
use Rattle.std.proofs.lemmas.Bool.{cases_lt}
use Rattle.std.proofs.lemmas.List.{append-nil, map-append}
use Rattle.cf_base.specs.declared.memory.OutOfMemory.{OutOfMemory as NoMemory}
use Rattle.cf_disk.specs.Disk.{State as Disk}
use Rattle.cf_io.specs.Moves.{AddsFront}
use Rattle.cf_pair_events.specs.declared.answers.PairAnswer.{PairAnswer}
use Rattle.cf_pair_events.specs.declared.events.PairEvent.{PairEvent}
use Rattle.cf_pair_run.proofs.PairTexts.{next_report}
use Rattle.cf_pair_run.proofs.WorldRuns.{run_lawful, run_more}
use Rattle.cf_pair_run.specs.Led.{HasRun}
use Rattle.cf_pair_run.specs.Runs.{IsLawful, Trace, events_of, report_of}
use Rattle.cf_pair_run.specs.UnderWay.{FrontPlayed, IsPut, IsUnderWay, PutFails, SomePlayed}
use Rattle.cf_pair_run.specs.Steps.{Steps}
use Rattle.cf_pair_run.specs.declared.worlds.PairWorld.{PairWorld}
use Rattle.cf_remote.specs.Told.{Told}
use Rattle.cf_world_plays.proofs.Drafted.{drafted_stops_here}
use Rattle.cf_world_plays.specs.Steps.{IsDrafted}
use Rattle.cf_world_plays.specs.declared.play_errors.PlayError.{PlayError}
use Rattle.cf_world_plays.specs.declared.play_errors.PlayError.TheVariants as play

next_rest : (all : List PairEvent) (i : ℕ) (event : PairEvent) → event ≡ get_or all i event → i < length all → drop i all ≡ event ∷ drop (suc i) all
next_rest all i event item lt = drop-cons all i event lt ∙ ap (λ x. x ∷ drop (suc i) all) (sym item)

-- one more event was done
next_event : (all : List PairEvent) (i : ℕ) (trace : Trace) (event : PairEvent) (a : PairAnswer) → event ≡ get_or all i event → i < length all → events_of trace ++ drop i all ≡ all → events_of (trace ++ (event, a) ∷ []) ++ drop (i + 1) all ≡ all
next_event all i trace event a item lt parts =
    let whole = rw (next_rest all i event item lt) at parts in
    let events : events_of (trace ++ (event, a) ∷ []) ≡ events_of trace ++ event ∷ [] = map-append _ trace ((event, a) ∷ []) in
    rw add-one (ap (λ x. x ++ drop (suc i) all) events ∙ append_assoc (events_of trace) (event ∷ []) (drop (suc i) all) ∙ whole)

-- all events are done
pub played_all : (all rest : List PairEvent) (trace : Trace) → events_of trace ++ rest ≡ all → rest ≡ [] → events_of trace ≡ all
played_all all rest trace parts none = sym (append-nil (events_of trace)) ∙ ap (λ x. events_of trace ++ x) (sym none) ∙ parts

front_at : (Said : Trace → Type 0) (all rest : List PairEvent) (trace : Trace) (old new : Option (List ℕ)) → events_of trace ++ rest ≡ all → Said trace → AddsFront old new (report_of trace) → FrontPlayed Said all old new
front_at Said all rest trace old new parts said written = record { trace = trace; more = rest; first = parts; said = said; written = written }

-- the run ends where what waited is not all written
pub played_stops : (Said : Trace → Type 0) (all rest : List PairEvent) (trace : Trace) (made : ℕ) (waiting : List ℕ) (old now new : Option (List ℕ)) → events_of trace ++ rest ≡ all → Said trace
    → IsDrafted (report_of trace) waiting made old now → AddsFront now new waiting → FrontPlayed Said all old new
played_stops Said all rest trace made waiting old now new parts said h k = front_at Said all rest trace old new parts said (drafted_stops_here (report_of trace) waiting made old now new h k)

module _ {D R : Type 0} (state : D → Disk) (told : R → Told) (first second : D) (remote : R) (all : List PairEvent) (i : ℕ) (event : PairEvent) (item : event ≡ get_or all i event) (lt : i < length all) (trace : Trace) (parts : events_of trace ++ drop i all ≡ all)
    (w next : PairWorld D R) (run : HasRun state told first second remote trace w) where
  -- the text of the answer waits
  pub put_more : (r : Result PairAnswer NoMemory) (waiting : List ℕ) (made : ℕ) (old now : Option (List ℕ)) → Steps state told event w r next → IsPut r (report_of trace) waiting made old now → IsUnderWay state told first second remote all (drop (i + 1) all) waiting made old now next
  put_more (Err m) waiting made old now steps h = absurd h
  put_more (Ok a) waiting made old now steps h = record {
    trace = trace ++ (event, a) ∷ [];
    run = run_more state told first second remote trace w next event a steps run;
    parts = next_event all i trace event a item lt parts;
    drafted = subst (λ x. IsDrafted x waiting made old now) (sym (next_report trace event a)) h;
  }

  early : (a : PairAnswer) (old new : Option (List ℕ)) (e : PlayError) → Steps state told event w (Ok a) next → PutFails (Ok a) (report_of trace) old new e → SomePlayed state told first second remote all old new next e
  early a old new play.SinkFault steps h =
      front_at (λ ps. HasRun state told first second remote ps next) all (drop (i + 1) all) (trace ++ (event, a) ∷ []) old new (next_event all i trace event a item lt parts) (run_more state told first second remote trace w next event a steps run)
      (subst (λ x. AddsFront old new x) (sym (next_report trace event a)) h)
  early a old new play.OutOfMemory steps h =
      front_at (IsLawful state told first second remote) all (drop (i + 1) all) (trace ++ (event, a) ∷ []) old new (next_event all i trace event a item lt parts)
      (run_lawful state told first second remote (trace ++ (event, a) ∷ []) next (run_more state told first second remote trace w next event a steps run))
      (subst (λ x. AddsFront old new x) (sym (next_report trace event a)) h)
  early a old new play.TooLong steps h = record {
    trace = trace;
    event = event;
    answer = a;
    more = drop (i + 1) all;
    first = next_event all i trace event a item lt parts;
    said = run_more state told first second remote trace w next event a steps run;
    written = h.1;
    passes = h.0;
  }

  -- it does not
  pub put_less : (r : Result PairAnswer NoMemory) (old new : Option (List ℕ)) (e : PlayError) → Steps state told event w r next → PutFails r (report_of trace) old new e → SomePlayed state told first second remote all old new next e
  put_less (Ok a) old new e steps h = early a old new e steps h
  put_less (Err m) old new e steps h =
      subst (λ (x : PlayError). SomePlayed state told first second remote all old new next x) (sym h.0)
      (front_at (IsLawful state told first second remote) all (drop i all) trace old new parts (run_lawful state told first second remote trace w run) h.1)

-- results

pub on_ok : {A E : Type 0} (r : Result A E) (P Q : Type 0) → (P → Q) → OnOk r P → OnOk r Q
on_ok (Ok x) P Q f h = f h
on_ok (Err e) P Q f h = h

pub if_err : {A E : Type 0} (r : Result A E) (P Q : E → Type 0) → ((e : E) → P e → Q e) → IfErr r P → IfErr r Q
if_err (Ok x) P Q f h = h
if_err (Err e) P Q f h = f e h

-- a count that rose later rose since before
pub rose_later : (a b c most : ℕ) → a ≤ b → b ≤ c → (b < most → b < c) → a < most → a < c
rose_later a b c most le more rose lt = elim (cases_lt b most) [
  | inl below ↦ omega (le, rose below, arith)
  | inr past ↦ omega (lt, past, more, arith)
]
