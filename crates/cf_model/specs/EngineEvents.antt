-- Events of the engine and of its messages.
use Rattle.std.specs.Prelude.{Bool}
use Rattle.cf_base.specs.declared.answers.Shown.{Shown}
use Rattle.cf_base.specs.declared.answers.Shown.TheVariants as shown
use Rattle.cf_base.specs.declared.events.EngineEvent.{EngineEvent}
use Rattle.cf_base.specs.declared.events.EngineEvent.TheVariants as engine
use Rattle.cf_model.specs.Arrows.{Arrow, noted, ret, then_do}
use Rattle.cf_model.specs.Passes.{arrive, deliver, sync, work}
use Rattle.cf_model.specs.Space.{space}
use Rattle.cf_model.specs.State.{State, with_link}
pub use Rattle.cf_model.specs.Peers.{peer_event}

abbrev pub with_inline : Bool → State → State
with_inline inline s = with_link (record s.link { inline = inline }) s

-- whether requests arrive and replies are delivered at once
abbrev pub set_link : Bool → Arrow State Shown
set_link inline = then_do (noted (with_inline inline)) (ret shown.Done)

abbrev pub engine_event : EngineEvent → Arrow State Shown
engine_event (engine.Link inline) = set_link inline
engine_event (engine.Arrive message) = arrive message
engine_event (engine.Deliver message) = deliver message
engine_event engine.Work = work
engine_event engine.Sync = sync
engine_event (engine.Space blocks) = space blocks
