-- The points that restarts may open in the states of a run in which no device failed.
use Rattle.std.proofs.Common.{◌≡◌, ℕ, true, false, List, [], ◌∷◌, refl, sym, ◌∙◌, ap, subst, arith, inl, inr}
use Rattle.cf_base.specs.declared.answers.Answer.{Answer}
use Rattle.cf_base.specs.declared.events.Event.{Event}
use Rattle.cf_base.specs.declared.policies.Mode.{Mode}
use Rattle.cf_base.specs.declared.policies.Mode.TheVariants as mode
use Rattle.cf_model.specs.Lawful.{Runs}
use Rattle.cf_model.specs.Points.{HasPoints, Opens}
use Rattle.cf_model.specs.State.{Point, State, start}
use Rattle.cf_model.specs.Store.{Held, empty_remote}
use Rattle.cf_model.proofs.PointLaws.{runs_have_points}
use Rattle.cf_model_room.specs.Rooms.{sure_count}
use Rattle.cf_model_room.proofs.Heavy.{not_heavy_first}
use Rattle.cf_check_ways.specs.Ways.{FirstFits, HadRoom, IsLaden, SamePoints, core_of}
use Rattle.cf_check_ways.proofs.PointSteps.{step_fits, step_laden}
use Rattle.cf_check_traces.specs.Decided.{NoneStopped}

-- in every state of a run in which no device failed, commits for room stand where the log is heavy

laden_from : (m : Mode) (s : State) (trace : List (Event × Answer)) (t : State) → Runs m s trace t → NoneStopped trace → HasPoints s.filter.volume → IsLaden (core_of s.filter.volume) → IsLaden (core_of t.filter.volume)
laden_from m s [] t h none has laden = subst (λ (x : State). IsLaden (core_of x.filter.volume)) (sym h) laden
laden_from m s (p ∷ ps) t h none has laden = laden_from m h.0 ps t h.2 none.1 (runs_have_points m s (p ∷ []) h.0 (h.0, h.1, refl) has) (step_laden m s p.0 p.1 h.0 h.1 none.0 has laden)

start_room : (m : Mode) (remote : Held) (clusters : ℕ) (p : Point) → Opens (start m remote clusters).filter.volume.points p → p.sure ≡ false → ⊥
start_room m remote clusters p (inl e) room = let z : true ≡ false = sym (ap (λ (x : Point). x.sure) e) ∙ room in cc
start_room m remote clusters p (inr h) room = h

pub laden_run : (m : Mode) (remote : Held) (clusters : ℕ) (trace : List (Event × Answer)) (t : State) → Runs m (start m remote clusters) trace t → NoneStopped trace → IsLaden (core_of t.filter.volume)
laden_run m remote clusters trace t runs none =
    laden_from m (start m remote clusters) trace t runs none (refl, omega arith)
    (record { items = refl; there = omega arith; load = omega arith; heavy = λ p is room. absurd (start_room m remote clusters p is room) })

-- each change had room

had_from : (m : Mode) (s : State) (trace : List (Event × Answer)) (t : State) → Runs m s trace t → NoneStopped trace → HadRoom (core_of s.filter.volume) → HadRoom (core_of t.filter.volume)
had_from m s [] t h none had = subst (λ (x : State). HadRoom (core_of x.filter.volume)) (sym h) had
had_from m s (p ∷ ps) t h none had = had_from m h.0 ps t h.2 none.1 (step_fits m s p.0 p.1 h.0 h.1 none.0 had)

pub had_run : (m : Mode) (remote : Held) (clusters : ℕ) (trace : List (Event × Answer)) (t : State) → Runs m (start m remote clusters) trace t → NoneStopped trace → HadRoom (core_of t.filter.volume)
had_run m remote clusters trace t runs none = had_from m (start m remote clusters) trace t runs none (record { items = refl; fits = refl })

-- so has the first behind the last sure point
pub first_fits : (m : Mode) (remote : Held) (clusters : ℕ) (trace : List (Event × Answer)) (t : State) → Runs m (start m remote clusters) trace t → NoneStopped trace → FirstFits (core_of t.filter.volume)
first_fits m remote clusters trace t runs none = not_heavy_first t.filter.volume.clusters (sure_count t.filter.volume.points) t.filter.volume.log (had_run m remote clusters trace t runs none).fits

-- at the start there is one point
pub start_same : (clusters : ℕ) (t u : State) → t ≡ start mode.Replay empty_remote clusters → u ≡ start mode.Replay empty_remote clusters → SamePoints (core_of t.filter.volume) (core_of u.filter.volume)
start_same clusters t u e d =
    subst (λ (x : State). SamePoints (core_of x.filter.volume) (core_of u.filter.volume)) (sym e)
    (subst (λ (x : State). SamePoints (core_of (start mode.Replay empty_remote clusters).filter.volume) (core_of x.filter.volume)) (sym d)
    (record { sure = refl; room = λ p q is is_too room room_too counts. absurd (start_room mode.Replay empty_remote clusters p is room) }))
