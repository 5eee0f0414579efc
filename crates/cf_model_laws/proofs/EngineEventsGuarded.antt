-- What the parts of `EngineEvents` keep in `replay`, each by what its own parts keep.
use Rattle.std.specs.Prelude.{Bool}
use Rattle.cf_base.specs.declared.answers.Shown.TheVariants as shown
use Rattle.cf_base.specs.declared.events.EngineEvent.{EngineEvent}
use Rattle.cf_base.specs.declared.events.EngineEvent.TheVariants as engine
use Rattle.cf_model.specs.Arrows.{noted, ret, Preserves}
use Rattle.cf_model.specs.State.{State}
use Rattle.cf_model_laws.proofs.PassesGuarded as passes_keep
use Rattle.cf_model_laws.proofs.SpaceGuarded as space_keep
use Rattle.cf_model.specs.EngineEvents.{engine_event, set_link, with_inline}
use Rattle.cf_model_laws.proofs.Guarded.{Commanding, Entering, Guarded}
use Rattle.cf_model.proofs.ArrowLaws.{keeps_noted, keeps_ret, keeps_then}

pub set_link_keeps : (P : State → Type 0) → Commanding P → (x1 : Bool) → Preserves P (set_link x1)
set_link_keeps P commanding inline = keeps_then P (noted (with_inline inline)) (ret shown.Done) (keeps_noted P (with_inline inline) (commanding.inlines inline)) (keeps_ret P shown.Done)

pub engine_event_keeps : (P : State → Type 0) → Guarded P → Entering P → Commanding P → (x1 : EngineEvent) → Preserves P (engine_event x1)
engine_event_keeps P closed entering commanding (engine.Link inline) = set_link_keeps P commanding inline
engine_event_keeps P closed entering commanding (engine.Arrive message) = passes_keep.arrive_keeps P closed message
engine_event_keeps P closed entering commanding (engine.Deliver message) = passes_keep.deliver_keeps P closed message
engine_event_keeps P closed entering commanding engine.Work = passes_keep.work_keeps P closed entering
engine_event_keeps P closed entering commanding engine.Sync = passes_keep.sync_keeps P closed entering
engine_event_keeps P closed entering commanding (engine.Space blocks) = space_keep.space_keeps P closed commanding blocks
