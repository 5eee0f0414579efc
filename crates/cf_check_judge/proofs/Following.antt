-- A run that is followed beside a report: how one event more settles it.
use Rattle.std.proofs.Common.{◌≡◌, ◌⊎◌, ◌≤◌, ◌<◌, ◌+◌, ◌&&◌, ◌==◌, ℕ, zero, suc, Bool, true, false, List, [], ◌∷◌, ◌++◌, drop, length, map, take, refl, sym, ◌∙◌, ap, subst, arith, inl, inr, append_assoc, append-nil, length-append, length-take-le}
use Rattle.std.specs.Prelude.{Option, Some, None, slice_get}
use Rattle.std.specs.List.{list_all}
use Rattle.std.proofs.lemmas.Bool.{eq-eqb, eqb-true}
use Rattle.std.proofs.lemmas.List.{length-map, map-append}
use Rattle.std.proofs.lemmas.List.Folds.{list_all-append}
use Rattle.cf_base.specs.declared.answers.Answer.{Answer}
use Rattle.cf_base.specs.declared.events.DeviceEvent.TheVariants as device
use Rattle.cf_base.specs.declared.events.Event.{Event}
use Rattle.cf_base.specs.declared.events.Event.TheVariants as event
use Rattle.cf_base.specs.declared.policies.Mode.TheVariants as mode
use Rattle.cf_model.specs.Events.{is_of}
use Rattle.cf_model.specs.Lawful.{IsStep, Runs}
use Rattle.cf_model.specs.Numbers.{most}
use Rattle.cf_model.specs.State.{State, start}
use Rattle.cf_model.specs.Store.{empty_remote}
use Rattle.cf_model.specs.Words.{is_empty}
use Rattle.cf_model.proofs.TraceLaws.{runs_push}
use Rattle.cf_report.specs.Texts.{text, texts}
use Rattle.cf_check_model.specs.Judging.{Accepted, IsAmbiguous, IsUndecided, IsVerdict, accepts, answer_of, event_of}
use Rattle.cf_check_model.specs.Reports.{Begins, DeviceFails, device_line, result_lines}
use Rattle.cf_check_model.specs.declared.verdicts.Verdict.TheVariants.{Unlawful, Undecided}
use Rattle.cf_check_model.proofs.Fronts.{texts_join}
use Rattle.cf_check_text.specs.Clean.{is_clean}
use Rattle.cf_check_text.proofs.Lines.{next_result}
use Rattle.cf_check_ways.specs.Ways.{Alike, fixed_state, of_state}
use Rattle.cf_check_traces.specs.Decided.{IsStopped, NoneStopped}
use Rattle.cf_check_traces.specs.Tests.{begins, is_resumed, resumes_next}
use Rattle.cf_check_traces.proofs.Accepting.{LastOf, last_of}
use Rattle.cf_check_traces.specs.Followed.{IsNext, ResumesAsAccepted}
use Rattle.cf_check_traces.proofs.Counts.{counts_as_told, counts_none, counts_untold, counts_where_light}
use Rattle.cf_check_traces.proofs.NextOnes.{only_next}
use Rattle.cf_check_traces.proofs.RunPoints.{start_same}
use Rattle.cf_check_traces.proofs.NextSteps.{goes_on}
use Rattle.cf_check_traces.proofs.SameRuns.{Front, front_of, last_event}
use Rattle.cf_check_traces.proofs.Testing.{begins_is, begins_so}
use Rattle.cf_check_judge.specs.Bytes.{same_bytes}
use Rattle.cf_check_judge.specs.Judge.{at_end, first_result, is_line}
use Rattle.cf_check_judge.proofs.Verdicts.{empty_verdict, lawful_verdict, open_verdict, wrong_verdict}
use Rattle.cf_check_judge.specs.Settled.{HasCount, IsAt}

-- tests of bytes

pub both : (a b : Bool) → (a && b) ≡ true → (a ≡ true) × (b ≡ true)
both true b e = (refl, e)
both false b e = let z : false ≡ true = e in absurd cc

same_so : (xs ys : List ℕ) → same_bytes xs ys ≡ true → xs ≡ ys
same_so [] [] h = refl
same_so [] (y ∷ ys) h = let z : false ≡ true = h in absurd cc
same_so (x ∷ xs) [] h = let z : false ≡ true = h in absurd cc
same_so (x ∷ xs) (y ∷ ys) h = let k = both (x == y) (same_bytes xs ys) h in ap (λ (z : ℕ). z ∷ xs) (eqb-true x y k.0) ∙ ap (λ (zs : List ℕ). y ∷ zs) (same_so xs ys k.1)

same_self : (xs : List ℕ) → same_bytes xs xs ≡ true
same_self [] = refl
same_self (x ∷ xs) = rw (eq-eqb x x refl) (same_self xs)

pub line_so : (expected : List ℕ) (o : Option (List ℕ)) → is_line expected o ≡ true → o ≡ Some expected
line_so expected None h = let z : false ≡ true = h in absurd cc
line_so expected (Some line) h = ap (λ (l : List ℕ). Some l) (sym (same_so expected line h))

pub line_not : (expected : List ℕ) (o : Option (List ℕ)) → is_line expected o ≡ false → o ≡ Some expected → ⊥
line_not expected o h e = let z : true ≡ false = sym (ap (is_line expected) e ∙ same_self expected) ∙ h in absurd cc

-- lists

take_front : {X : Type 0} (front back : List X) (n : ℕ) → length front ≡ n → take n (front ++ back) ≡ front
take_front [] back zero e = refl
take_front [] back (suc n) e = let z : 0 ≡ suc n = e in absurd cc
take_front (x ∷ front) back zero e = let z : suc (length front) ≡ 0 = e in absurd cc
take_front (x ∷ front) back (suc n) e = let z : suc (length front) ≡ suc n = e in ap (λ (ys : List _). x ∷ ys) (take_front front back n (omega (arith, z)))

none_more : (trace : List (Event × Answer)) (e : Event) (a : Answer) → NoneStopped trace → (IsStopped a → ⊥) → NoneStopped (trace ++ (e, a) ∷ [])
none_more [] e a none runs = (runs, record {})
none_more (p ∷ ps) e a none runs = (none.0, none_more ps e a none.1 runs)

-- the run that is followed, and what is settled so far

module _ (events : List Event) (report : List ℕ) (clusters : ℕ) (short : length report < most) where
  -- the next result line of the report
  told_next : (done : ℕ) (es : List Event) (trace : List (Event × Answer)) (s : State) (rest : List ℕ) → IsAt events report clusters done es trace s rest → slice_get (result_lines report) done ≡ first_result rest
  told_next done es trace s rest at =
      let long : length (map answer_of trace) ≡ done = length-map trace answer_of ∙ sym (length-map trace event_of) ∙ ap (λ (xs : List Event). length xs) at.run.events_are ∙ length-take-le done events at.run.there in
      ap (λ (xs : List ℕ). slice_get (result_lines xs) done) at.run.text_is ∙ ap (λ (k : ℕ). slice_get (result_lines (texts (map answer_of trace) ++ rest)) k) (sym long) ∙ next_result (map answer_of trace) rest at.clean

  -- the run is accepted while an event is left
  pub taken : (done : ℕ) (es : List Event) (trace : List (Event × Answer)) (s : State) (rest : List ℕ) → IsAt events report clusters done es trace s rest → done < length events → Accepted events report clusters done trace s
  taken done es trace s rest at below = record {
    there = at.run.there;
    events_are = at.run.events_are;
    lawful = at.run.lawful;
    kept = at.run.kept;
    front = (rest, at.run.text_is);
    whole = λ e. absurd (omega (arith, below, e));
  }

  pub left : (done : ℕ) (e : Event) (es : List Event) (trace : List (Event × Answer)) (s : State) (rest : List ℕ) → IsAt events report clusters done (e ∷ es) trace s rest → done < length events
  left done e es trace s rest at =
      let l : length events ≡ length (take done events) + length (e ∷ es) = ap (λ (xs : List Event). length xs) at.split ∙ length-append (take done events) (e ∷ es) in
      let m : length (take done events) ≡ done = length-take-le done events at.run.there in
      let k : length (e ∷ es) ≡ suc (length es) = refl in
      omega (arith, l, m, k)

  next_taken : (done : ℕ) (e : Event) (es : List Event) (trace : List (Event × Answer)) (s : State) (rest : List ℕ) → IsAt events report clusters done (e ∷ es) trace s rest → take (suc done) events ≡ take done events ++ e ∷ []
  next_taken done e es trace s rest at =
      let whole : events ≡ (take done events ++ e ∷ []) ++ es = at.split ∙ sym (append_assoc (take done events) (e ∷ []) es) in
      let m : length (take done events) ≡ done = length-take-le done events at.run.there in
      let n : length (take done events ++ e ∷ []) ≡ length (take done events) + 1 = length-append (take done events) (e ∷ []) in
      ap (take (suc done)) whole ∙ take_front (take done events ++ e ∷ []) es (suc done) (omega (arith, m, n))

  -- nothing can be said of the next event
  pub open_next : (done : ℕ) (e : Event) (es : List Event) (trace : List (Event × Answer)) (s : State) (rest : List ℕ) → IsAt events report clusters done (e ∷ es) trace s rest → first_result rest ≡ Some device_line → IsUndecided events report clusters (suc done)
  open_next done e es trace s rest at line = let below = left done e es trace s rest at in (below, inl ((trace, s, taken done (e ∷ es) trace s rest at below), told_next done (e ∷ es) trace s rest at ∙ line))

  pub closed_next : (done : ℕ) (es : List Event) (trace : List (Event × Answer)) (s : State) (rest : List ℕ) → IsAt events report clusters done es trace s rest → (first_result rest ≡ Some device_line → ⊥) → (IsAmbiguous events report clusters (suc done) → ⊥) → (m : ℕ) → m ≤ suc done → IsUndecided events report clusters m → ⊥
  closed_next done es trace s rest at other one zero le h = h
  closed_next done es trace s rest at other one (suc m) le h = by (at_or_below m done (omega (arith, le))) h
    where
      at_or_below : (x y : ℕ) → x ≤ y → (suc x ≤ y) ⊎ (x ≡ y)
      at_or_below zero zero k = inr refl
      at_or_below zero (suc y) k = inl (omega arith)
      at_or_below (suc x) zero k = absurd (omega (arith, k))
      at_or_below (suc x) (suc y) k = elim (at_or_below x y (omega (arith, k))) as (λ _. (suc (suc x) ≤ suc y) ⊎ (suc x ≡ suc y)) [ inl z ↦ inl (omega (arith, z)) | inr z ↦ inr (ap (λ (w : ℕ). suc w) z) ]

      by : (suc m ≤ done) ⊎ (m ≡ done) → IsUndecided events report clusters (suc m) → ⊥
      by (inl k) x = at.settled (suc m) k x
      by (inr k) (below, inl x) = other (sym (told_next done es trace s rest at) ∙ subst (λ (z : ℕ). DeviceFails report z) k x.1)
      by (inr k) (below, inr x) = one (subst (λ (z : ℕ). IsAmbiguous events report clusters (suc z)) k x)

  -- the answer of the judge's run

  -- where nothing more is accepted, or one thing alone, no restart is ambiguous
  pub not_ambiguous : (n : ℕ) → (accepts events report clusters n → ⊥) → IsAmbiguous events report clusters n → ⊥
  not_ambiguous n no_more x = no_more (x.2.0 ++ (event.Device device.Restart, x.2.1) ∷ [], x.0, x.2.5)

  one_book : (n : ℕ) (t : State) → ((more : List (Event × Answer)) (u : State) → Accepted events report clusters n more u → Alike of_state t u) → IsAmbiguous events report clusters n → ⊥
  one_book n t alone x =
      let left_one : Alike of_state t x.0 = alone (x.2.0 ++ (event.Device device.Restart, x.2.1) ∷ []) x.0 x.2.5 in
      let left_other : Alike of_state t x.1 = alone (x.3.0 ++ (event.Device device.Restart, x.3.1) ∷ []) x.1 x.3.5 in
      x.4 (sym (ap (λ (z : State). z.filter.volume.book) left_one) ∙ ap (λ (z : State). z.filter.volume.book) left_other)

  -- the judge goes on
  pub goes_next : (done : ℕ) (e : Event) (es : List Event) (trace : List (Event × Answer)) (s : State) (rest : List ℕ) → IsAt events report clusters done (e ∷ es) trace s rest → (first_result rest ≡ Some device_line → ⊥)
      → (a : Answer) (t : State) → IsNext events report clusters done s e a t rest → begins (text a) rest ≡ true → IsAt events report clusters (suc done) es (trace ++ (e, a) ∷ []) t (drop (length (text a)) rest)
  goes_next done e es trace s rest at other a t next so =
      let below = left done e es trace s rest at in
      let took = next_taken done e es trace s rest at in
      let whole : events ≡ (take done events ++ e ∷ []) ++ es = at.split ∙ sym (append_assoc (take done events) (e ∷ []) es) in
      let more = begins_so (text a) rest so in
      let rest_is : drop (length (text a)) rest ≡ more.0 = ap (drop (length (text a))) more.1 ∙ dropped (text a) more.0 in
      let joined : texts (map answer_of (trace ++ (e, a) ∷ [])) ≡ texts (map answer_of trace) ++ text a = texts_join trace ((e, a) ∷ []) ∙ ap (λ (xs : List ℕ). texts (map answer_of trace) ++ xs) (append-nil (text a)) in
      record {
        split = whole ∙ ap (λ (xs : List Event). xs ++ es) (sym took);
        run = record {
          there = omega (arith, below);
          events_are = map-append event_of trace ((e, a) ∷ []) ∙ ap (λ (xs : List Event). xs ++ e ∷ []) at.run.events_are ∙ sym took;
          lawful = runs_push mode.Replay (start mode.Replay empty_remote clusters) s t trace e a at.run.lawful next.step;
          kept = (both t.link.honest _ next.good).0;
          text_is = at.run.text_is ∙ ap (λ (xs : List ℕ). texts (map answer_of trace) ++ xs) more.1 ∙ sym (append_assoc (texts (map answer_of trace)) (text a) more.0)
              ∙ ap (λ (xs : List ℕ). xs ++ more.0) (sym joined) ∙ ap (λ (xs : List ℕ). texts (map answer_of (trace ++ (e, a) ∷ [])) ++ xs) (sym rest_is);
          none = none_more trace e a at.run.none next.runs;
          only = λ others u acc. only_next events report clusters short done trace s rest at.run e took a t next others u acc;
        };
        clean = ap (λ (xs : List Answer). list_all is_clean xs) (map-append answer_of trace ((e, a) ∷ [])) ∙ list_all-append is_clean (map answer_of trace) (a ∷ []) ∙ all_clean at.clean next.clean;
        settled = closed_next done (e ∷ es) trace s rest at other (one_book (suc done) t (λ others u acc. (only_next events report clusters short done trace s rest at.run e took a t next others u acc).1));
        before = λ k is. subst (λ (z : ℕ). accepts events report clusters z) (let z : suc done ≡ suc k = is in omega (arith, z)) (trace, s, taken done (e ∷ es) trace s rest at below);
      }
    where
      dropped : (front back : List ℕ) → drop (length front) (front ++ back) ≡ back
      dropped [] back = refl
      dropped (b ∷ bs) back = dropped bs back

      all_clean : list_all is_clean (map answer_of trace) ≡ true → is_clean a ≡ true → (list_all is_clean (map answer_of trace) && list_all is_clean (a ∷ [])) ≡ true
      all_clean x y = rw x (rw y refl)

  -- the answer to a restart has the count of each accepted one
  pub counts_of : (done : ℕ) (e : Event) (es : List Event) (trace : List (Event × Answer)) (s : State) (rest : List ℕ) → IsAt events report clusters done (e ∷ es) trace s rest → (a : Answer) (t : State) → IsStep mode.Replay s e a t → HasCount s e a rest → e ≡ event.Device device.Restart
      → ResumesAsAccepted events report clusters done a
  counts_of done e es trace s rest at a t step has is = by (subst (λ (z : Event). IsStep mode.Replay s z a t) is step) (subst (λ (z : Event). HasCount s z a rest) is has)
    where
      untold : (told next : Bool) → is_resumed a.shown ≡ told → resumes_next rest ≡ next → (told && next) ≡ false → ResumesAsAccepted events report clusters done a
      untold true next told goes h = counts_untold events report clusters short done trace s rest at.run a (goes ∙ h)
      untold false next told goes h = counts_none events report clusters done a told

      by : IsStep mode.Replay s (event.Device device.Restart) a t → HasCount s (event.Device device.Restart) a rest → ResumesAsAccepted events report clusters done a
      by restart (inl begun) = counts_as_told events report clusters short done trace s rest at.run a t restart (begins_so (text a) rest begun)
      by restart (inr (inl light)) = counts_where_light events report clusters short done trace s rest at.run light a t restart
      by restart (inr (inr none)) = untold (is_resumed a.shown) (resumes_next rest) refl refl none

  -- the report does not go on with it
  pub wrong_next : (done : ℕ) (e : Event) (es : List Event) (trace : List (Event × Answer)) (s : State) (rest : List ℕ) → IsAt events report clusters done (e ∷ es) trace s rest → (a : Answer) (t : State) → IsNext events report clusters done s e a t rest → begins (text a) rest ≡ false
      → accepts events report clusters (suc done) → ⊥
  wrong_next done e es trace s rest at a t next differs (others, u, acc) =
      let same = only_next events report clusters short done trace s rest at.run e (next_taken done e es trace s rest at) a t next others u acc in
      let front : Begins report (texts (map answer_of (trace ++ (e, a) ∷ []))) = subst (λ (xs : List (Event × Answer)). Begins report (texts (map answer_of xs))) same.0 acc.front in
      let z : true ≡ false = sym (begins_is (text a) rest (goes_on report rest trace trace (e, a) at.run.text_is refl front)) ∙ differs in
      absurd cc

  -- an event that the command has not
  pub foreign_next : (done : ℕ) (e : Event) (es : List Event) (trace : List (Event × Answer)) (s : State) (rest : List ℕ) → IsAt events report clusters done (e ∷ es) trace s rest → is_of mode.Replay e ≡ false → accepts events report clusters (suc done) → ⊥
  foreign_next done e es trace s rest at foreign (others, u, acc) =
      let l : LastOf others done = last_of others done (sym (length-map others event_of) ∙ ap (λ (xs : List Event). length xs) acc.events_are ∙ length-take-le (suc done) events acc.there) in
      let acc' : Accepted events report clusters (suc done) (l.front ++ l.last ∷ []) u = subst (λ (xs : List (Event × Answer)). Accepted events report clusters (suc done) xs u) l.is acc in
      let g : Front events report clusters done l.front l.last u = front_of events report clusters done l.front l.last u l.long acc' in
      let event_is : l.last.0 ≡ e = last_event (map event_of l.front) (take done events) l.last.0 e g.accepted.events_are (sym (map-append event_of l.front (l.last ∷ [])) ∙ acc'.events_are ∙ next_taken done e es trace s rest at) in
      let z : true ≡ false = sym g.step.0 ∙ ap (is_of mode.Replay) event_is ∙ foreign in
      absurd cc

  -- all events are done
  pub at_the_end : (done : ℕ) (trace : List (Event × Answer)) (s : State) (rest : List ℕ) → IsAt events report clusters done [] trace s rest → (none : Bool) → is_empty rest ≡ none → IsVerdict events report clusters (at_end none done)
  at_the_end done trace s rest at true is =
      let all : done ≡ length events = sym (length-take-le done events at.run.there) ∙ ap (λ (xs : List Event). length xs) (sym (append-nil (take done events)) ∙ sym at.split) in
      let rest_is : rest ≡ [] = empty rest is in
      let whole : report ≡ texts (map answer_of trace) = at.run.text_is ∙ ap (λ (xs : List ℕ). texts (map answer_of trace) ++ xs) rest_is ∙ append-nil (texts (map answer_of trace)) in
      let acc : Accepted events report clusters done trace s = record { there = at.run.there; events_are = at.run.events_are; lawful = at.run.lawful; kept = at.run.kept; front = (rest, at.run.text_is); whole = λ _. whole } in
      lawful_verdict events report clusters (subst (λ (k : ℕ). accepts events report clusters k) all (trace, s, acc)) (λ m le. at.settled m (let le' : m ≤ length events = le in omega (arith, le', all)))
    where
      empty : (xs : List ℕ) → is_empty xs ≡ true → xs ≡ []
      empty [] h = refl
      empty (x ∷ xs) h = let z : false ≡ true = h in absurd cc
  at_the_end done trace s rest at false is = by done all at (λ acc. wrong acc)
    where
      all : done ≡ length events
      all = sym (length-take-le done events at.run.there) ∙ ap (λ (xs : List Event). length xs) (sym (append-nil (take done events)) ∙ sym at.split)

      cancel_all : (xs ys : List ℕ) → xs ≡ xs ++ ys → ys ≡ []
      cancel_all [] ys e = sym e
      cancel_all (x ∷ xs) ys e = cancel_all xs ys (let z : x ∷ xs ≡ x ∷ (xs ++ ys) = e in cc)

      wrong : accepts events report clusters done → ⊥
      wrong (others, u, acc) =
          let same : others ≡ trace = (at.run.only others u acc).0 in
          let whole : report ≡ texts (map answer_of trace) = acc.whole all ∙ ap (λ (xs : List (Event × Answer)). texts (map answer_of xs)) same in
          let none : rest ≡ [] = cancel_all (texts (map answer_of trace)) rest (sym whole ∙ at.run.text_is) in
          let z : true ≡ false = ap is_empty (sym none) ∙ is in
          absurd cc

      by : (n : ℕ) → n ≡ length events → IsAt events report clusters n [] trace s rest → (accepts events report clusters n → ⊥) → IsVerdict events report clusters (Unlawful n)
      by zero e at' no' = empty_verdict events report clusters (at'.split) no'
      by (suc k) e at' no' = wrong_verdict events report clusters k (omega (arith, e)) (at'.before k refl) no' at'.settled

  pub at_start : IsAt events report clusters 0 events [] (start mode.Replay empty_remote clusters) report
  at_start = record {
    split = refl;
    run = record { there = omega arith; events_are = refl; lawful = refl; kept = refl; text_is = refl; none = record {}; only = λ more u acc. (no_events more acc.events_are, ap fixed_state (starts more u acc), start_same clusters (start mode.Replay empty_remote clusters) u refl (sym (starts more u acc))) };
    clean = refl;
    settled = λ m le h. none m le h;
    before = λ k is. let z : 0 ≡ suc k = is in absurd cc;
  }
    where
      none : (m : ℕ) → m ≤ 0 → IsUndecided events report clusters m → ⊥
      none zero le h = h
      none (suc m) le h = omega (arith, le)

      no_events : (more : List (Event × Answer)) → map event_of more ≡ [] → more ≡ []
      no_events [] e = refl
      no_events (p ∷ ps) e = let z : p.0 ∷ map event_of ps ≡ [] = e in absurd cc

      starts : (more : List (Event × Answer)) (u : State) → Accepted events report clusters 0 more u → start mode.Replay empty_remote clusters ≡ u
      starts more u acc = let runs : Runs mode.Replay (start mode.Replay empty_remote clusters) [] u = subst (λ (xs : List (Event × Answer)). Runs mode.Replay (start mode.Replay empty_remote clusters) xs u) (no_events more acc.events_are) acc.lawful in sym runs

  -- the verdicts at an event

  pub open_is : (done : ℕ) (e : Event) (es : List Event) (trace : List (Event × Answer)) (s : State) (rest : List ℕ) → IsAt events report clusters done (e ∷ es) trace s rest → is_line device_line (first_result rest) ≡ true → IsVerdict events report clusters (Undecided (suc done))
  open_is done e es trace s rest at line = open_verdict events report clusters done (open_next done e es trace s rest at (line_so device_line (first_result rest) line)) at.settled

  pub foreign_is : (done : ℕ) (e : Event) (es : List Event) (trace : List (Event × Answer)) (s : State) (rest : List ℕ) → IsAt events report clusters done (e ∷ es) trace s rest → is_line device_line (first_result rest) ≡ false → is_of mode.Replay e ≡ false → IsVerdict events report clusters (Unlawful (suc done))
  foreign_is done e es trace s rest at line foreign =
      wrong_verdict events report clusters done (left done e es trace s rest at) (trace, s, taken done (e ∷ es) trace s rest at (left done e es trace s rest at)) (foreign_next done e es trace s rest at foreign)
      (closed_next done (e ∷ es) trace s rest at (line_not device_line (first_result rest) line) (not_ambiguous (suc done) (foreign_next done e es trace s rest at foreign)))

  pub wrong_is : (done : ℕ) (e : Event) (es : List Event) (trace : List (Event × Answer)) (s : State) (rest : List ℕ) → IsAt events report clusters done (e ∷ es) trace s rest → is_line device_line (first_result rest) ≡ false → (a : Answer) (t : State) → IsNext events report clusters done s e a t rest → begins (text a) rest ≡ false
      → IsVerdict events report clusters (Unlawful (suc done))
  wrong_is done e es trace s rest at line a t next differs =
      wrong_verdict events report clusters done (left done e es trace s rest at) (trace, s, taken done (e ∷ es) trace s rest at (left done e es trace s rest at)) (wrong_next done e es trace s rest at a t next differs)
      (closed_next done (e ∷ es) trace s rest at (line_not device_line (first_result rest) line) (not_ambiguous (suc done) (wrong_next done e es trace s rest at a t next differs)))
