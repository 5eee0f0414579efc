-- A pass only adds to the notes and the log.
use Rattle.cf_base.specs.declared.answers.Answer.{Answer}
use Rattle.std.proofs.Common.{ℕ, List}
use Rattle.cf_base.specs.declared.events.Event.{Event}
use Rattle.cf_base.specs.declared.policies.Mode.TheVariants as mode
use Rattle.cf_model.specs.Lawful.{Runs}
use Rattle.cf_model.specs.Passes.{pass, sync_passes}
use Rattle.cf_model.specs.State.{State, start}
use Rattle.cf_model.specs.Store.{Held}
use Rattle.cf_model.specs.Trees.{Keeps}
use Rattle.cf_model_laws.specs.Invariant.{Invariant}
use Rattle.cf_model_laws.specs.Premises.{IsFresh}
use Rattle.cf_model_laws.proofs.ContentLaws.{keeps_weaker, run_sound, sound_whole}
use Rattle.cf_model_laws.proofs.PassesGuarded.{pass_keeps, sync_passes_keeps}
use Rattle.cf_model_convergence.specs.Adding.{AddsTo}
use Rattle.cf_model_convergence.proofs.AddingGuarded.{In, entering_adds, guarded_adds, itself}

pub pass_adds : (remote : Held) (clusters : ℕ) (trace : List (Event × Answer)) (s : State) → Runs mode.Replay (start mode.Replay remote clusters) trace s → IsFresh remote → Keeps (AddsTo s) (pass s)
pass_adds remote clusters trace s runs fresh =
    keeps_weaker (λ t. Invariant t × In s.filter t.filter) (AddsTo s) (λ t h. h.1) (pass s)
    ((pass_keeps (λ t. Invariant t × In s.filter t.filter) (guarded_adds s.filter Invariant sound_whole.closed) (entering_adds s.filter Invariant sound_whole.entering)).keeps s (run_sound remote clusters trace s runs fresh, itself s.filter))

pub passes_add : (remote : Held) (clusters : ℕ) (trace : List (Event × Answer)) (s : State) → Runs mode.Replay (start mode.Replay remote clusters) trace s → IsFresh remote → Keeps (AddsTo s) (sync_passes s)
passes_add remote clusters trace s runs fresh =
    keeps_weaker (λ t. Invariant t × In s.filter t.filter) (AddsTo s) (λ t h. h.1) (sync_passes s)
    ((sync_passes_keeps (λ t. Invariant t × In s.filter t.filter) (guarded_adds s.filter Invariant sound_whole.closed) (entering_adds s.filter Invariant sound_whole.entering)).keeps s (run_sound remote clusters trace s runs fresh, itself s.filter))
