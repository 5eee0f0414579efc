-- Runs that one report accepts are alike, and a restart may open the same points after them.
use Rattle.std.proofs.Common.{◌≡◌, ◌≤◌, ◌<◌, ℕ, zero, suc, List, [], ◌∷◌, ◌++◌, length, map, take, refl, sym, ◌∙◌, ap, subst, arith, inl, inr, append_assoc, length-take-le, ◌⊎◌, ◌+◌, Bool, true, false}
use Rattle.std.proofs.lemmas.List.{length-map, map-append}
use Rattle.cf_base.specs.declared.answers.Answer.{Answer}
use Rattle.cf_base.specs.declared.events.Event.{Event}
use Rattle.cf_base.specs.declared.events.DeviceEvent.TheVariants as device
use Rattle.cf_base.specs.declared.events.Event.TheVariants as event
use Rattle.cf_base.specs.declared.policies.Mode.TheVariants as mode
use Rattle.cf_model.specs.Lawful.{IsStep, Runs}
use Rattle.cf_model.specs.Numbers.{most}
use Rattle.cf_model.specs.State.{State, start}
use Rattle.cf_model.specs.Store.{empty_remote}
use Rattle.cf_model.proofs.PointLaws.{started_with_points}
use Rattle.cf_model.proofs.TraceLaws.{runs_split}
use Rattle.cf_report.specs.Texts.{text, texts}
use Rattle.cf_check_model.specs.Judging.{Accepted, answer_of, event_of}
use Rattle.cf_check_model.specs.Reports.{Begins}
use Rattle.cf_check_model.proofs.Fronts.{texts_join}
use Rattle.cf_check_model.proofs.Kept.{kept_before}
use Rattle.cf_check_text.specs.Fronts.{Meet}
use Rattle.cf_check_text.proofs.Clashes.{meet_after, meet_less}
use Rattle.cf_check_ways.specs.Ways.{Alike, fixed_state, of_state, IsLaden, Parted, SamePoints, core_of, is_good}
use Rattle.cf_check_ways.proofs.PointSteps.{restarts_same, steps_keep}
use Rattle.cf_check_traces.specs.Decided.{IsSteady, IsStopped, NoneStopped}
use Rattle.cf_check_traces.proofs.Accepting.{LastOf, afresh, good_after, last_of}
use Rattle.cf_check_traces.proofs.Decisions.{step_decided, parted_texts, resumed_texts}
use Rattle.cf_check_traces.specs.Tests.{is_restart}
use Rattle.cf_check_traces.proofs.RunPoints.{first_fits, laden_run, start_same}

abbrev begin_at : ℕ → State
begin_at clusters = start mode.Replay empty_remote clusters

pub none_before : (front : List (Event × Answer)) (p : Event × Answer) → NoneStopped (front ++ p ∷ []) → NoneStopped front
none_before [] p h = record {}
none_before (q ∷ front) p h = (h.0, none_before front p h.1)

pub none_last : (front : List (Event × Answer)) (p : Event × Answer) → NoneStopped (front ++ p ∷ []) → IsStopped p.1 → ⊥
none_last [] p h = h.0
none_last (q ∷ front) p h = none_last front p h.1

events_front : (n : ℕ) (front back : List Event) (es : List Event) → length front ≡ n → front ++ back ≡ take (suc n) es → front ≡ take n es
events_front zero [] back es long e = refl
events_front zero (x ∷ front) back es long e = let z : suc (length front) ≡ 0 = long in absurd (omega (arith, z))
events_front (suc n) [] back es long e = let z : 0 ≡ suc n = long in absurd (omega (arith, z))
events_front (suc n) (x ∷ front) back [] long e = let z : x ∷ (front ++ back) ≡ [] = e in absurd cc
events_front (suc n) (x ∷ front) back (y ∷ es) long e =
    let heads : x ≡ y = let z : x ∷ (front ++ back) ≡ y ∷ take (suc n) es = e in cc in
    let tails : front ++ back ≡ take (suc n) es = let z : x ∷ (front ++ back) ≡ y ∷ take (suc n) es = e in cc in
    let long' : length front ≡ n = let z : suc (length front) ≡ suc n = long in omega (arith, z) in
    ap (λ (k : Event). k ∷ front) heads ∙ ap (λ (ks : List Event). y ∷ ks) (events_front n front back es long' tails)

pub last_event : (front other : List Event) (x y : Event) → front ≡ other → front ++ x ∷ [] ≡ other ++ y ∷ [] → x ≡ y
last_event front other x y same e = by other (subst (λ (fs : List Event). fs ++ x ∷ [] ≡ other ++ y ∷ []) same e)
  where
    by : (fs : List Event) → fs ++ x ∷ [] ≡ fs ++ y ∷ [] → x ≡ y
    by [] d = let z : x ∷ [] ≡ y ∷ [] = d in cc
    by (f ∷ fs) d = by fs (let z : f ∷ (fs ++ x ∷ []) ≡ f ∷ (fs ++ y ∷ []) = d in cc)

-- restarts

pub restart_is : (e : Event) → is_restart e ≡ true → e ≡ event.Device device.Restart
restart_is (event.Device device.Restart) h = refl
restart_is _ h = let z : false ≡ true = h in absurd cc

pub restart_not : (e : Event) → is_restart e ≡ false → e ≡ event.Device device.Restart → ⊥
restart_not e is h = let z : true ≡ false = sym (ap is_restart h) ∙ is in absurd cc

-- An accepted run of one event more: its front is accepted, and the event is a step after it.
pub record Front (events : List Event) (report : List ℕ) (clusters n : ℕ) (front : List (Event × Answer)) (p : Event × Answer) (t : State) : Type 0 where
  pub mid : State
  pub accepted : Accepted events report clusters n front mid
  pub runs : Runs mode.Replay (begin_at clusters) front mid
  pub step : IsStep mode.Replay mid p.0 p.1 t

pub front_of : (events : List Event) (report : List ℕ) (clusters n : ℕ) (front : List (Event × Answer)) (p : Event × Answer) (t : State) → length front ≡ n
    → Accepted events report clusters (suc n) (front ++ p ∷ []) t → Front events report clusters n front p t
front_of events report clusters n front p t long a =
    let x = runs_split mode.Replay (begin_at clusters) t front (p ∷ []) a.lawful in
    let there : suc n ≤ length events = a.there in
    let step : IsStep mode.Replay x.0 p.0 p.1 t = subst (λ (y : State). IsStep mode.Replay x.0 p.0 p.1 y) (sym x.2.2) x.2.1 in
    record {
      mid = x.0;
      accepted = record {
        there = omega (arith, there);
        events_are = events_front n (map event_of front) (p.0 ∷ []) events (length-map front event_of ∙ long) (sym (map-append event_of front (p ∷ [])) ∙ a.events_are);
        lawful = x.1;
        kept = kept_before mode.Replay x.0 (p ∷ []) t x.2 a.kept;
        front = (texts (map answer_of (p ∷ [])) ++ a.front.0, a.front.1 ∙ ap (λ (xs : List ℕ). xs ++ a.front.0) (texts_join front (p ∷ [])) ∙ append_assoc (texts (map answer_of front)) (texts (map answer_of (p ∷ []))) a.front.0);
        whole = λ e. absurd (omega (arith, there, e));
      };
      runs = x.1;
      step = step;
    }

-- the texts of two last answers go on from one place
pub last_texts : (report : List ℕ) (front other : List (Event × Answer)) (p q : Event × Answer) → front ≡ other → Begins report (texts (map answer_of (front ++ p ∷ []))) → Begins report (texts (map answer_of (other ++ q ∷ [])))
    → Meet (text p.1) (text q.1)
last_texts report front other p q same f g =
    let one : Begins report (texts (map answer_of front) ++ (text p.1 ++ [])) = (f.0, f.1 ∙ ap (λ (xs : List ℕ). xs ++ f.0) (texts_join front (p ∷ []))) in
    let two : Begins report (texts (map answer_of other) ++ (text q.1 ++ [])) = (g.0, g.1 ∙ ap (λ (xs : List ℕ). xs ++ g.0) (texts_join other (q ∷ []))) in
    let two' : Begins report (texts (map answer_of front) ++ (text q.1 ++ [])) = subst (λ (xs : List (Event × Answer)). Begins report (texts (map answer_of xs) ++ (text q.1 ++ []))) (sym same) two in
    meet_less (text p.1) (text q.1) [] [] (meet_after (texts (map answer_of front)) (text p.1 ++ []) (text q.1 ++ []) (report, one, two'))

module _ (events : List Event) (report : List ℕ) (clusters : ℕ) (short : length report < most) where
  pub steady : (trace : List (Event × Answer)) (t : State) → Runs mode.Replay (begin_at clusters) trace t → NoneStopped trace → IsSteady t
  steady trace t runs none = record { points = started_with_points mode.Replay empty_remote clusters trace t runs; opens = afresh (begin_at clusters) trace t runs none refl }

  -- one event more

  one_more : (n : ℕ) (front other : List (Event × Answer)) (p q : Event × Answer) (t u : State)
      → Accepted events report clusters (suc n) (front ++ p ∷ []) t → Accepted events report clusters (suc n) (other ++ q ∷ []) u → NoneStopped (front ++ p ∷ []) → NoneStopped (other ++ q ∷ [])
      → (f : Front events report clusters n front p t) → (g : Front events report clusters n other q u) → front ≡ other → Alike of_state f.mid g.mid → SamePoints (core_of f.mid.filter.volume) (core_of g.mid.filter.volume)
      → (front ++ p ∷ [] ≡ other ++ q ∷ []) × Alike of_state t u × SamePoints (core_of t.filter.volume) (core_of u.filter.volume)
  one_more n front other (e, a) (k, b) t u x y none none_too f g fronts alike same = by same_event (subst (λ (z : Event). IsStep mode.Replay g.mid z b u) (sym same_event) g.step) (is_restart e) refl
    where
      same_event : e ≡ k
      same_event = last_event (map event_of front) (map event_of other) e k (ap (map event_of) fronts) (sym (map-append event_of front ((e, a) ∷ [])) ∙ x.events_are ∙ sym y.events_are ∙ map-append event_of other ((k, b) ∷ []))

      joined : e ≡ k → a ≡ b → front ++ (e, a) ∷ [] ≡ other ++ (k, b) ∷ []
      joined i j = ap (λ (fs : List (Event × Answer)). fs ++ (e, a) ∷ []) fronts ∙ ap (λ (z : Event). other ++ (z, a) ∷ []) i ∙ ap (λ (z : Answer). other ++ (k, z) ∷ []) j

      meet : Meet (text a) (text b)
      meet = last_texts report front other (e, a) (k, b) fronts x.front y.front

      now : IsSteady f.mid
      now = steady front f.mid f.runs (none_before front (e, a) none)

      now_too : IsSteady g.mid
      now_too = steady other g.mid g.runs (none_before other (k, b) none_too)

      laden : IsLaden (core_of f.mid.filter.volume)
      laden = laden_run mode.Replay empty_remote clusters front f.mid f.runs (none_before front (e, a) none)

      laden_too : IsLaden (core_of g.mid.filter.volume)
      laden_too = laden_run mode.Replay empty_remote clusters other g.mid g.runs (none_before other (k, b) none_too)

      good : is_good t ≡ true
      good = good_after most report clusters (front ++ (e, a) ∷ []) t x.lawful none x.kept x.front short

      well : is_good u ≡ true
      well = good_after most report clusters (other ++ (k, b) ∷ []) u y.lawful none_too y.kept y.front short

      kept : (a ≡ b) × Alike of_state t u → SamePoints (core_of t.filter.volume) (core_of u.filter.volume) ⊎ Parted a.notes b.notes → e ≡ k → (front ++ (e, a) ∷ [] ≡ other ++ (k, b) ∷ []) × Alike of_state t u × SamePoints (core_of t.filter.volume) (core_of u.filter.volume)
      kept d (inl points) i = (joined i d.0, d.1, points)
      kept d (inr apart) i = absurd (parted_texts a b apart meet)

      by : e ≡ k → IsStep mode.Replay g.mid e b u → (restart : Bool) → is_restart e ≡ restart → (front ++ (e, a) ∷ [] ≡ other ++ (k, b) ∷ []) × Alike of_state t u × SamePoints (core_of t.filter.volume) (core_of u.filter.volume)
      by i step true is =
          let restart : e ≡ event.Device device.Restart = restart_is e is in
          let z = restarts_same mode.Replay f.mid g.mid a b t u alike now.opens now.points now_too.points laden laden_too same (first_fits mode.Replay empty_remote clusters front f.mid f.runs (none_before front (e, a) none))
          (subst (λ (z : Event). IsStep mode.Replay f.mid z a t) restart f.step) (subst (λ (z : Event). IsStep mode.Replay g.mid z b u) restart step) (none_last front (e, a) none) (none_last other (k, b) none_too)
          (λ told told_too r. resumed_texts f.mid g.mid a b t u told told_too r meet) in
          (joined i z.0, z.1, z.2)
      by i step false is =
          let other_event : e ≡ event.Device device.Restart → ⊥ = λ h. restart_not e is h in
          let points = steps_keep mode.Replay f.mid g.mid e a b t u other_event alike laden laden_too same f.step step good well (none_last front (e, a) none) (none_last other (k, b) none_too) in
          elim (step_decided mode.Replay f.mid g.mid e a b t u alike now now_too f.step step good well (none_last front (e, a) none) (none_last other (k, b) none_too) meet)
          as (λ _. (front ++ (e, a) ∷ [] ≡ other ++ (k, b) ∷ []) × Alike of_state t u × SamePoints (core_of t.filter.volume) (core_of u.filter.volume)) [ inl d ↦ kept d points i | inr d ↦ absurd (other_event d.0) ]

  -- runs of as many events that one report accepts, where no device failed
  pub same_runs : (n : ℕ) (trace more : List (Event × Answer)) (t u : State) → Accepted events report clusters n trace t → Accepted events report clusters n more u → NoneStopped trace → NoneStopped more
      → (trace ≡ more) × Alike of_state t u × SamePoints (core_of t.filter.volume) (core_of u.filter.volume)
  same_runs zero [] [] t u x y none none_too = (refl, ap fixed_state (x.lawful ∙ sym y.lawful), start_same clusters t u x.lawful y.lawful)
  same_runs zero (p ∷ ps) more t u x y none none_too = let z : p.0 ∷ map event_of ps ≡ [] = x.events_are in absurd cc
  same_runs zero [] (p ∷ ps) t u x y none none_too = let z : p.0 ∷ map event_of ps ≡ [] = y.events_are in absurd cc
  same_runs (suc n) trace more t u x y none none_too =
      let l : LastOf trace n = last_of trace n (long trace t x) in
      let m : LastOf more n = last_of more n (long more u y) in
      let x' : Accepted events report clusters (suc n) (l.front ++ l.last ∷ []) t = subst (λ (xs : List (Event × Answer)). Accepted events report clusters (suc n) xs t) l.is x in
      let y' : Accepted events report clusters (suc n) (m.front ++ m.last ∷ []) u = subst (λ (xs : List (Event × Answer)). Accepted events report clusters (suc n) xs u) m.is y in
      let none' : NoneStopped (l.front ++ l.last ∷ []) = subst NoneStopped l.is none in
      let none_too' : NoneStopped (m.front ++ m.last ∷ []) = subst NoneStopped m.is none_too in
      let f : Front events report clusters n l.front l.last t = front_of events report clusters n l.front l.last t l.long x' in
      let g : Front events report clusters n m.front m.last u = front_of events report clusters n m.front m.last u m.long y' in
      let before = same_runs n l.front m.front f.mid g.mid f.accepted g.accepted (none_before l.front l.last none') (none_before m.front m.last none_too') in
      let both = one_more n l.front m.front l.last m.last t u x' y' none' none_too' f g before.0 before.1 before.2 in
      (l.is ∙ both.0 ∙ sym m.is, both.1, both.2)
    where
      long : (xs : List (Event × Answer)) (w : State) → Accepted events report clusters (suc n) xs w → length xs ≡ suc n
      long xs w acc = sym (length-map xs event_of) ∙ ap (λ (es : List Event). length es) acc.events_are ∙ length-take-le (suc n) events acc.there
