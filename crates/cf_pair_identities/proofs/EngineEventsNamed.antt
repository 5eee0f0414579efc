-- The parts of `EngineEvents` keep identities named.
use Rattle.std.specs.Prelude.{Bool}
use Rattle.cf_base.specs.declared.answers.Shown.TheVariants as shown
use Rattle.cf_base.specs.declared.events.EngineEvent.{EngineEvent}
use Rattle.cf_base.specs.declared.events.EngineEvent.TheVariants as engine
use Rattle.cf_model.specs.Arrows.{noted, Preserves, ret}
use Rattle.cf_model.specs.EngineEvents.{engine_event, set_link, with_inline}
use Rattle.cf_model.proofs.ArrowLaws.{keeps_noted, keeps_ret, keeps_then}
use Rattle.cf_pair_identities.specs.Named.{Named}
use Rattle.cf_pair_identities.proofs.PassesNamed as passes_named
use Rattle.cf_pair_identities.proofs.SpaceNamed as space_named

pub set_link_keeps : (full : Bool) → (x1 : Bool) → Preserves (Named full) (set_link x1)
set_link_keeps full inline = keeps_then (Named full) (noted (with_inline inline)) (ret shown.Done) (keeps_noted (Named full) (with_inline inline) (λ s h. h)) (keeps_ret (Named full) shown.Done)

pub engine_event_keeps : (full : Bool) → (x1 : EngineEvent) → Preserves (Named full) (engine_event x1)
engine_event_keeps full (engine.Link inline) = set_link_keeps full inline
engine_event_keeps full (engine.Arrive message) = passes_named.arrive_keeps full message
engine_event_keeps full (engine.Deliver message) = passes_named.deliver_keeps full message
engine_event_keeps full engine.Work = passes_named.work_keeps full
engine_event_keeps full engine.Sync = passes_named.sync_keeps full
engine_event_keeps full (engine.Space blocks) = space_named.space_keeps full blocks
