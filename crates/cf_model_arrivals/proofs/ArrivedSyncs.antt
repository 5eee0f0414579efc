-- A silent `sync` or `work` leaves a state that is settled as a whole, where no directory was made unpopulated.
use Rattle.std.proofs.Common.{◌≡◌, ℕ, false, List, true}
use Rattle.std.specs.List.{list_any}
use Rattle.cf_base.specs.declared.answers.Answer.{Answer}
use Rattle.cf_base.specs.declared.events.EngineEvent.TheVariants as engine
use Rattle.cf_base.specs.declared.events.Event.{Event}
use Rattle.cf_base.specs.declared.events.Event.TheVariants as event
use Rattle.cf_base.specs.declared.policies.Mode.TheVariants as mode
use Rattle.cf_model.specs.Lawful.{IsStep, Runs}
use Rattle.cf_model.specs.Messages.{no_number}
use Rattle.cf_model.specs.Settled.{is_settled}
use Rattle.cf_model.specs.State.{State, start}
use Rattle.cf_model.specs.Store.{Held}
use Rattle.cf_model_laws.specs.Keys.{AreKeysWithin}
use Rattle.cf_model_laws.specs.Premises.{IsFair, IsFresh}
use Rattle.cf_model_laws.proofs.ContentLaws.{run_sound}
use Rattle.cf_model_convergence.specs.Hearing.{ArePlainWaits, is_heard}
use Rattle.cf_model_convergence.specs.Quiet.{is_accepted, is_always_populated, is_count}
use Rattle.cf_model_convergence.specs.Tidy.{IsTidy}
use Rattle.cf_model_convergence.proofs.FairBefore.{step_fair}
use Rattle.cf_model_agreement.proofs.KnownSyncs.{sync_silent_all, work_silent_all}
use Rattle.cf_model_quiet.specs.LastPass.{ends_silent}
use Rattle.cf_model_quiet.proofs.SilentSyncs.{run_left}
use Rattle.cf_model_arrivals.proofs.ArrivalsRuns.{IsArrivedIn, arrived_here, arrived_rest, run_arrived}

pub sync_settles_whole : (remote : Held) (clusters : ℕ) (trace : List (Event × Answer)) (s : State) (a : Answer) (t : State) → Runs mode.Replay (start mode.Replay remote clusters) trace s → IsFresh remote → IsTidy remote → is_always_populated trace ≡ true → s.link.inline ≡ true → AreKeysWithin s.filter → ArePlainWaits s
    → IsStep mode.Replay s (event.Engine engine.Sync) a t → IsFair t.link → is_count a.shown ≡ true → list_any is_heard a.notes ≡ false → no_number t ≡ false → is_settled true t ≡ true
sync_settles_whole remote clusters trace s a t runs fresh tidy always inline keys plain step fair counted silent left =
    let was : IsFair s.link = step_fair s (event.Engine engine.Sync) a t step (run_sound remote clusters trace s runs fresh) fair in
    (sync_silent_all remote clusters trace s a t runs fresh tidy inline keys plain (arrived_here s (run_arrived remote clusters trace s runs fresh tidy always) was) step fair counted silent left).0

pub work_settles_whole : (remote : Held) (clusters : ℕ) (trace : List (Event × Answer)) (s : State) (a : Answer) (t : State) → Runs mode.Replay (start mode.Replay remote clusters) trace s → IsFresh remote → IsTidy remote → is_always_populated trace ≡ true → s.link.inline ≡ true → AreKeysWithin s.filter → ArePlainWaits s
    → IsStep mode.Replay s (event.Engine engine.Work) a t → IsFair t.link → is_accepted a.shown ≡ true → list_any is_heard a.notes ≡ false → no_number t ≡ false → is_settled true t ≡ true
work_settles_whole remote clusters trace s a t runs fresh tidy always inline keys plain step fair accepted silent left =
    let was : IsFair s.link = step_fair s (event.Engine engine.Work) a t step (run_sound remote clusters trace s runs fresh) fair in
    (work_silent_all remote clusters trace s a t runs fresh tidy inline keys plain (arrived_here s (run_arrived remote clusters trace s runs fresh tidy always) was) step fair accepted silent left).0

-- so does a `sync` of which the last pass is silent
pub quiet_settles_whole : (remote : Held) (clusters : ℕ) (trace : List (Event × Answer)) (s : State) (a : Answer) (t : State) → Runs mode.Replay (start mode.Replay remote clusters) trace s → IsFresh remote → IsTidy remote → is_always_populated trace ≡ true → s.link.inline ≡ true → AreKeysWithin s.filter → ArePlainWaits s
    → IsStep mode.Replay s (event.Engine engine.Sync) a t → IsFair t.link → is_count a.shown ≡ true → ends_silent a.notes ≡ true → no_number t ≡ false → is_settled true t ≡ true
quiet_settles_whole remote clusters trace s a t runs fresh tidy always inline keys plain step fair counted silent left =
    (run_left IsArrivedIn arrived_rest.closed arrived_rest.entering true (λ m h was e. arrived_here m h was) remote clusters trace s a t runs fresh tidy inline keys plain (arrived_rest.begins s (run_arrived remote clusters trace s runs fresh tidy always)) step fair counted silent left).0.0
