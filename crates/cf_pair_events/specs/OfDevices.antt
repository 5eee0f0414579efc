-- Which events a device may have in a script of two.
use Rattle.std.specs.Prelude.{Bool, true, false}
use Rattle.cf_base.specs.declared.events.EngineEvent.TheVariants as engine
use Rattle.cf_base.specs.declared.events.Event.{Event}
use Rattle.cf_base.specs.declared.events.Event.TheVariants as event

-- an event of one device is none of the remote, and makes no room
abbrev pub is_of_device : Event → Bool
is_of_device (event.Call c) = true
is_of_device (event.Device e) = true
is_of_device (event.Engine (engine.Space blocks)) = false
is_of_device (event.Engine (engine.Link inline)) = true
is_of_device (event.Engine (engine.Arrive message)) = true
is_of_device (event.Engine (engine.Deliver message)) = true
is_of_device (event.Engine engine.Work) = true
is_of_device (event.Engine engine.Sync) = true
is_of_device (event.Peer e) = false
is_of_device (event.Provider e) = false
