-- A link that is fair was fair before.
use Rattle.std.proofs.Common.{ℕ, List, [], ◌∷◌, refl}
use Rattle.cf_base.specs.declared.answers.Answer.{Answer}
use Rattle.cf_base.specs.declared.events.Event.{Event}
use Rattle.cf_base.specs.declared.policies.Mode.TheVariants as mode
use Rattle.cf_model.specs.Lawful.{IsStep, Runs}
use Rattle.cf_model.specs.State.{State, start}
use Rattle.cf_model.specs.Store.{Held}
use Rattle.cf_model_laws.specs.Invariant.{Invariant}
use Rattle.cf_model_laws.specs.Premises.{IsFair, IsFresh}
use Rattle.cf_model_laws.proofs.ContentLaws.{run_sound}
use Rattle.cf_model_laws.proofs.FairBefore.{fair_before}

pub run_was_fair : (remote : Held) (clusters : ℕ) (trace more : List (Event × Answer)) (s t : State) → Runs mode.Replay (start mode.Replay remote clusters) trace s → IsFresh remote → Runs mode.Replay s more t → IsFair t.link → IsFair s.link
run_was_fair remote clusters trace more s t runs fresh later fair = fair_before s more t (run_sound remote clusters trace s runs fresh) later fair

pub step_fair : (s : State) (e : Event) (a : Answer) (t : State) → IsStep mode.Replay s e a t → Invariant s → IsFair t.link → IsFair s.link
step_fair s e a t step h = fair_before s ((e, a) ∷ []) t h (t, step, refl)
