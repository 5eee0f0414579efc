-- Silent events of `sync` and `work` leave settled states.
use Rattle.std.proofs.Common.{◌≡◌, ℕ, true, false, List}
use Rattle.std.specs.List.{list_any}
use Rattle.cf_base.specs.declared.answers.Answer.{Answer}
use Rattle.cf_base.specs.declared.answers.Shown.TheVariants as shown
use Rattle.cf_base.specs.declared.events.EngineEvent.TheVariants as engine
use Rattle.cf_base.specs.declared.events.Event.{Event}
use Rattle.cf_base.specs.declared.events.Event.TheVariants as event
use Rattle.cf_base.specs.declared.policies.Mode.TheVariants as mode
use Rattle.cf_model.specs.Lawful.{IsStep, Runs}
use Rattle.cf_model.specs.Messages.{no_number}
use Rattle.cf_model.specs.Settled.{is_settled}
use Rattle.cf_model.specs.State.{State, start}
use Rattle.cf_model.specs.Store.{Held}
use Rattle.cf_model_laws.specs.Keys.{AreKeysWithin}
use Rattle.cf_model_laws.specs.Premises.{IsFair, IsFresh}
use Rattle.cf_model_laws.proofs.ContentLaws.{run_sound}
use Rattle.cf_model_convergence.specs.Agreeing.{IsHereUnlessBuried, IsKeptUp, IsPassedHere}
use Rattle.cf_model_convergence.specs.Hearing.{ArePlainWaits, is_heard}
use Rattle.cf_model_convergence.specs.Quiet.{is_accepted, is_count}
use Rattle.cf_model_convergence.specs.Tidy.{IsTidy}
use Rattle.cf_model_convergence.proofs.FairBefore.{step_fair}
use Rattle.cf_model_convergence.proofs.WorksCalm.{run_silent, run_silent_all, work_silent as work_told, work_silent_all as work_told_all}
use Rattle.cf_model_agreement.proofs.KnownGuarded.{run_kept_up}

before : (remote : Held) (clusters : ℕ) (trace : List (Event × Answer)) (s : State) (e : Event) (a : Answer) (t : State) → Runs mode.Replay (start mode.Replay remote clusters) trace s → IsFresh remote → IsTidy remote → IsStep mode.Replay s e a t → IsFair t.link → IsKeptUp s
before remote clusters trace s e a t runs fresh tidy step fair = run_kept_up remote clusters trace s runs fresh tidy (step_fair s e a t step (run_sound remote clusters trace s runs fresh) fair)

pub sync_silent : (remote : Held) (clusters : ℕ) (trace : List (Event × Answer)) (s : State) (a : Answer) (t : State) → Runs mode.Replay (start mode.Replay remote clusters) trace s → IsFresh remote → IsTidy remote → s.link.inline ≡ true → AreKeysWithin s.filter → ArePlainWaits s → IsStep mode.Replay s (event.Engine engine.Sync) a t → IsFair t.link → is_count a.shown ≡ true → list_any is_heard a.notes ≡ false → no_number t ≡ false → (is_settled false t ≡ true) × (a.shown ≡ shown.Count 0)
sync_silent remote clusters trace s a t runs fresh tidy inline keys plain step fair shows silent left = let k = run_silent remote clusters trace s a t runs fresh tidy inline keys plain (before remote clusters trace s (event.Engine engine.Sync) a t runs fresh tidy step fair) step fair shows silent left in (k.0, k.1)

pub sync_silent_all : (remote : Held) (clusters : ℕ) (trace : List (Event × Answer)) (s : State) (a : Answer) (t : State) → Runs mode.Replay (start mode.Replay remote clusters) trace s → IsFresh remote → IsTidy remote → s.link.inline ≡ true → AreKeysWithin s.filter → ArePlainWaits s → IsHereUnlessBuried s → IsStep mode.Replay s (event.Engine engine.Sync) a t → IsFair t.link → is_count a.shown ≡ true → list_any is_heard a.notes ≡ false → no_number t ≡ false → (is_settled true t ≡ true) × IsPassedHere t
sync_silent_all remote clusters trace s a t runs fresh tidy inline keys plain here step fair shows silent left = run_silent_all remote clusters trace s a t runs fresh tidy inline keys plain (before remote clusters trace s (event.Engine engine.Sync) a t runs fresh tidy step fair) here step fair shows silent left

pub work_silent : (remote : Held) (clusters : ℕ) (trace : List (Event × Answer)) (s : State) (a : Answer) (t : State) → Runs mode.Replay (start mode.Replay remote clusters) trace s → IsFresh remote → IsTidy remote → s.link.inline ≡ true → AreKeysWithin s.filter → ArePlainWaits s → IsStep mode.Replay s (event.Engine engine.Work) a t → IsFair t.link → is_accepted a.shown ≡ true → list_any is_heard a.notes ≡ false → no_number t ≡ false → is_settled false t ≡ true
work_silent remote clusters trace s a t runs fresh tidy inline keys plain step fair shows silent left = (work_told remote clusters trace s a t runs fresh tidy inline keys plain (before remote clusters trace s (event.Engine engine.Work) a t runs fresh tidy step fair) step fair shows silent left).0

pub work_silent_all : (remote : Held) (clusters : ℕ) (trace : List (Event × Answer)) (s : State) (a : Answer) (t : State) → Runs mode.Replay (start mode.Replay remote clusters) trace s → IsFresh remote → IsTidy remote → s.link.inline ≡ true → AreKeysWithin s.filter → ArePlainWaits s → IsHereUnlessBuried s → IsStep mode.Replay s (event.Engine engine.Work) a t → IsFair t.link → is_accepted a.shown ≡ true → list_any is_heard a.notes ≡ false → no_number t ≡ false → (is_settled true t ≡ true) × IsPassedHere t
work_silent_all remote clusters trace s a t runs fresh tidy inline keys plain here step fair shows silent left = work_told_all remote clusters trace s a t runs fresh tidy inline keys plain (before remote clusters trace s (event.Engine engine.Work) a t runs fresh tidy step fair) here step fair shows silent left
