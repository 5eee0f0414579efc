-- Traces: parts of them, and what leads to a step.
use Rattle.std.proofs.Common.{◌≡◌, ℕ, Bool, true, false, List, [], ◌∷◌, ◌++◌, refl, ◌∙◌, ap, subst}
use Rattle.std.specs.Prelude.{Some, None}
use Rattle.cf_base.specs.declared.answers.Answer.{Answer}
use Rattle.cf_base.specs.declared.answers.Shown.{Shown}
use Rattle.cf_base.specs.declared.answers.Shown.TheVariants as shown
use Rattle.cf_base.specs.declared.codes.Code.{Code}
use Rattle.cf_base.specs.declared.codes.Code.TheVariants as code
use Rattle.cf_base.specs.declared.events.Event.{Event}
use Rattle.cf_base.specs.declared.policies.Mode.{Mode}
use Rattle.cf_model.specs.Events.{answer_in, broken, choices_in, is_of, may_stop, needs_volume, no_volume, on_event, outcome, refusal, tree_of}
use Rattle.cf_model.specs.Lawful.{AreOf, IsStep, Lawful, Runs, after, trace_by}
use Rattle.cf_model.specs.State.{State, start}
use Rattle.cf_model.specs.Store.{Held}
use Rattle.cf_model.specs.Trees.{Choices, Ends, Stops, plainly, play}
use Rattle.cf_model.proofs.TreeLaws.{ends_played, stops_played}

-- the first events of a run are a run, and so are the others after them
pub runs_split : (m : Mode) (s t : State) (trace more : List (Event × Answer)) → Runs m s (trace ++ more) t → (mid : State) × Runs m s trace mid × Runs m mid more t
runs_split m s t [] more h = (s, refl, h)
runs_split m s t (p ∷ ps) more h = let x = runs_split m h.0 t ps more h.2 in (x.0, (h.0, h.1, x.1), x.2)

pub runs_join : (m : Mode) (s mid t : State) (trace more : List (Event × Answer)) → Runs m s trace mid → Runs m mid more t → Runs m s (trace ++ more) t
runs_join m s mid t [] more h k = subst (λ (x : State). Runs m x more t) h k
runs_join m s mid t (p ∷ ps) more h k = (h.0, h.1, runs_join m h.0 mid t ps more h.2 k)

-- one more event
pub runs_push : (m : Mode) (s mid t : State) (trace : List (Event × Answer)) (e : Event) (a : Answer) → Runs m s trace mid → IsStep m mid e a t → Runs m s (trace ++ (e, a) ∷ []) t
runs_push m s mid t trace e a h is = runs_join m s mid t trace ((e, a) ∷ []) h (t, is, refl)

pub lawful_front : (m : Mode) (remote : Held) (clusters : ℕ) (trace more : List (Event × Answer)) → Lawful m remote clusters (trace ++ more) → Lawful m remote clusters trace
lawful_front m remote clusters trace more h = let x = runs_split m (start m remote clusters) h.0 trace more h.1 in (x.0, x.1)

-- by choices
pub runs_by : (m : Mode) (s : State) (ps : List (Choices × Event)) → AreOf m ps → Runs m s (trace_by s ps) (after s ps)
runs_by m s [] h = refl
runs_by m s (p ∷ ps) h = ((on_event p.0 s p.1).0, (h.0, p.0, refl), runs_by m (on_event p.0 s p.1).0 ps h.1)

-- what leads to a step

pub refused_step : (m : Mode) (s : State) (e : Event) (c : Code) → is_of m e ≡ true → no_volume (needs_volume e) s.power ≡ Some c → IsStep m s e (refusal c) s
refused_step m s e c h n = (h, plainly, rw n refl)

chosen_plainly : (b : Bool) (forks : List Bool) (tellings : List _) → choices_in b (record { stop = None; forks = forks; tellings = tellings }) ≡ record { stop = None; forks = forks; tellings = tellings }
chosen_plainly true forks tellings = refl
chosen_plainly false forks tellings = refl

pub ended_step : (m : Mode) (s : State) (e : Event) (r : Shown) (t : State) → is_of m e ≡ true → no_volume (needs_volume e) s.power ≡ None → Ends (tree_of e s) r t → IsStep m s e (answer_in r t) t
ended_step m s e r t h n ends =
    let x = ends_played (tree_of e s) r t ends in (
      h,
      record { stop = None; forks = x.0; tellings = x.1 },
      rw n (ap (λ (c : Choices). outcome (play c (tree_of e s))) (chosen_plainly (may_stop e) x.0 x.1) ∙ ap outcome x.2),
    )

pub stopped_step : (m : Mode) (s : State) (e : Event) (t : State) → is_of m e ≡ true → may_stop e ≡ true → no_volume (needs_volume e) s.power ≡ None → Stops (tree_of e s) t → IsStep m s e (answer_in (shown.Refused code.Device) t) (broken t)
stopped_step m s e t h may n stops =
    let x = stops_played (tree_of e s) t stops in
    (h, record { stop = Some x.0; forks = x.1; tellings = x.2 }, rw n (rw may (ap outcome x.3)))
