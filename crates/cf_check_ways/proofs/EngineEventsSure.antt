-- The parts of `EngineEvents` are sure, each by its own parts.
use Rattle.std.proofs.Common.{refl}
use Rattle.std.specs.Prelude.{Bool}
use Rattle.cf_base.specs.declared.answers.Shown.TheVariants as shown
use Rattle.cf_base.specs.declared.events.EngineEvent.{EngineEvent}
use Rattle.cf_base.specs.declared.events.EngineEvent.TheVariants as engine
use Rattle.cf_model.specs.Arrows.{noted, ret}
use Rattle.cf_model.specs.EngineEvents.{engine_event, set_link, with_inline}
use Rattle.cf_check_ways.specs.Ways.{IsSure, of_state}
use Rattle.cf_check_ways.proofs.Sure.{plain_quiet, sure_noted, sure_ret, sure_then}
use Rattle.cf_check_ways.proofs.PassesSure as passes_sure
use Rattle.cf_check_ways.proofs.SpaceSure as space_sure

pub set_link_sure : (x1 : Bool) → IsSure of_state (set_link x1)
set_link_sure inline = sure_then of_state (noted (with_inline inline)) (ret shown.Done) (sure_noted of_state (with_inline inline) (plain_quiet of_state (with_inline inline) (λ s. refl) (λ s. refl) (λ s. refl) (λ s. refl) (λ s. refl) (λ s. refl))) (sure_ret of_state shown.Done)

pub engine_event_sure : (x1 : EngineEvent) → IsSure of_state (engine_event x1)
engine_event_sure (engine.Link inline) = set_link_sure inline
engine_event_sure (engine.Arrive message) = passes_sure.arrive_sure message
engine_event_sure (engine.Deliver message) = passes_sure.deliver_sure message
engine_event_sure engine.Work = passes_sure.work_sure
engine_event_sure engine.Sync = passes_sure.sync_sure
engine_event_sure (engine.Space blocks) = space_sure.space_sure blocks
