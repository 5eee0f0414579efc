-- What each event does, and what it answers.
use Rattle.std.specs.Prelude.{Bool, true, false, [], ◌∷◌, ◌++◌, Option, Some, None}
use Rattle.cf_base.specs.declared.answers.Answer.{Answer}
use Rattle.cf_base.specs.declared.answers.Shown.{Shown}
use Rattle.cf_base.specs.declared.answers.Shown.TheVariants as shown
use Rattle.cf_base.specs.declared.calls.Call.{Call}
use Rattle.cf_base.specs.declared.calls.Call.TheVariants as call
use Rattle.cf_base.specs.declared.codes.Code.{Code}
use Rattle.cf_base.specs.declared.codes.Code.TheVariants as code
use Rattle.cf_base.specs.declared.events.DeviceEvent.{DeviceEvent}
use Rattle.cf_base.specs.declared.events.DeviceEvent.TheVariants as device
use Rattle.cf_base.specs.declared.events.EngineEvent.{EngineEvent}
use Rattle.cf_base.specs.declared.events.EngineEvent.TheVariants as engine
use Rattle.cf_base.specs.declared.events.Event.{Event}
use Rattle.cf_base.specs.declared.events.Event.TheVariants as event
use Rattle.cf_base.specs.declared.events.ProviderEvent.{ProviderEvent}
use Rattle.cf_base.specs.declared.events.ProviderEvent.TheVariants as provider
use Rattle.cf_base.specs.declared.operations.Operation.{Operation}
use Rattle.cf_base.specs.declared.policies.Mode.{Mode}
use Rattle.cf_base.specs.declared.policies.Mode.TheVariants as mode
use Rattle.cf_model.specs.Arrows.{Arrow, noted, reading, ret, then_do}
use Rattle.cf_model.specs.Callbacks.{calling, mode_of}
use Rattle.cf_model.specs.Calls.{delete, df, flush, info, open_file, ranges, rename, set_pin, set_policy, set_size, used, write}
use Rattle.cf_model.specs.Placements.{convert, create, keep_full, mark, revert, unmark, update}
use Rattle.cf_model.specs.Dehydration.{dehydrate}
use Rattle.cf_model.specs.EngineEvents.{engine_event, peer_event}
use Rattle.cf_model.specs.Missing.{span_of}
use Rattle.cf_model.specs.Operations.{execute}
use Rattle.cf_model.specs.Plans.{NewDir, NewFile, NewPlaceholder, NewPlaceholderDir}
use Rattle.cf_model.specs.Restarts.{crash, restart}
use Rattle.cf_model.specs.State.{Broken, Off, On, Power, State, in_filter, nothing_yet, with_filter}
use Rattle.cf_model.specs.Trees.{Choices, Tree, play}
use Rattle.cf_model.specs.Waits.{cancel, close, connect, get, hydrate, list, read, tick}

-- calls of an application

abbrev pub call_in : Mode → Call → Arrow State Shown
call_in m (call.Open path) = in_filter (open_file path)
call_in m (call.Close handle) = calling (close handle)
call_in m (call.Cancel wait) = calling (cancel wait)
call_in m (call.Tick ticks) = calling (tick ticks)
call_in m (call.Read handle offset len) = calling (read handle (span_of offset len))
call_in m (call.Get path offset len) = calling (get path (span_of offset len))
call_in m (call.Write handle offset bytes) = calling (write handle offset bytes)
call_in m (call.Size handle size) = calling (set_size handle size)
call_in m call.Flush = in_filter flush
call_in m (call.Create path) = in_filter (create path NewFile)
call_in m (call.Mkdir path) = in_filter (create path NewDir)
call_in m (call.Delete path) = in_filter (delete m path)
call_in m (call.Rename from to) = in_filter (rename from to)
call_in m (call.List path) = calling (list path)
call_in m (call.Pin path pin reach) = in_filter (set_pin path pin reach)
call_in m (call.Hydrate path) = calling (hydrate path)
call_in m (call.Dehydrate path range) = calling (dehydrate path range)
call_in m (call.Info path) = in_filter (info path)
call_in m (call.Ranges path class) = in_filter (ranges path class)
call_in m call.Df = in_filter df
call_in m (call.Policy policy) = in_filter (set_policy m policy)
call_in m (call.Keep path on) = calling (keep_full path on)
call_in m (call.Used path) = in_filter (used path)
call_in m (call.Connect on) = in_filter (connect on)

abbrev pub call_by : Call → Mode → Arrow State Shown
call_by c m = call_in m c

abbrev pub call_now : Call → Arrow State Shown
call_now c = reading mode_of (call_by c)

-- events of a provider

abbrev pub with_planned : Bool → Operation → State → State
with_planned own op s = record s { plan = s.plan ++ (own, op) ∷ [] }

abbrev pub provider_event : ProviderEvent → Arrow State Shown
provider_event (provider.Place path size identity in_sync) = in_filter (create path (NewPlaceholder size identity in_sync))
provider_event (provider.PlaceDir path identity in_sync) = in_filter (create path (NewPlaceholderDir identity in_sync))
provider_event (provider.Convert path identity) = in_filter (convert path identity)
provider_event (provider.Revert path) = in_filter (revert path)
provider_event (provider.Update path identity size) = in_filter (update path identity size)
provider_event (provider.Mark path number) = calling (mark path number)
provider_event (provider.Unmark path) = in_filter (unmark path)
provider_event (provider.Do operation) = calling (execute operation)
provider_event (provider.Plan own operation) = then_do (noted (with_planned own operation)) (ret shown.Done)

-- events of the device; when an armed device fails is what the rules leave open

abbrev pub device_event : DeviceEvent → Arrow State Shown
device_event (device.Stop calls) = ret shown.Done
device_event (device.Crash choice) = crash
device_event device.Restart = restart

abbrev pub event_now : Event → Arrow State Shown
event_now (event.Call c) = call_now c
event_now (event.Device e) = device_event e
event_now (event.Peer e) = peer_event e
event_now (event.Engine e) = engine_event e
event_now (event.Provider e) = provider_event e

-- which events there are in a mode

abbrev pub is_of : Mode → Event → Bool
is_of mode.Replay (event.Call c) = true
is_of mode.Replay (event.Device e) = true
is_of mode.Replay (event.Peer e) = true
is_of mode.Replay (event.Engine e) = true
is_of mode.Replay (event.Provider e) = false
is_of mode.Filter (event.Call c) = true
is_of mode.Filter (event.Device e) = true
is_of mode.Filter (event.Peer e) = false
is_of mode.Filter (event.Engine e) = false
is_of mode.Filter (event.Provider e) = true

-- which events need the volume

abbrev pub engine_needs : EngineEvent → Bool
engine_needs (engine.Link inline) = false
engine_needs (engine.Arrive message) = false
engine_needs (engine.Deliver message) = true
engine_needs engine.Work = true
engine_needs engine.Sync = true
engine_needs (engine.Space blocks) = true

abbrev pub needs_volume : Event → Bool
needs_volume (event.Call c) = true
needs_volume (event.Device e) = false
needs_volume (event.Peer e) = false
needs_volume (event.Engine e) = engine_needs e
needs_volume (event.Provider e) = true

-- the device may stop in an event that needs the volume, and in a restart
abbrev pub may_stop : Event → Bool
may_stop (event.Device device.Restart) = true
may_stop e = needs_volume e

abbrev pub choices_in : Bool → Choices → Choices
choices_in true c = c
choices_in false c = record c { stop = None }

-- why an event that needs the volume is refused before all else
abbrev pub no_power : Power → Option Code
no_power On = None
no_power Broken = Some code.Broken
no_power Off = Some code.Off

abbrev pub no_volume : Bool → Power → Option Code
no_volume false p = None
no_volume true p = no_power p

-- answers

-- the event begins: nothing is told of it yet
abbrev pub begun : State → State
begun s = record (with_filter (record s.filter { notes = [] }) s) { running = nothing_yet }

abbrev pub refusal : Code → Answer
refusal c = record { notes = []; shown = shown.Refused c; stray = None }

abbrev pub answer_in : Shown → State → Answer
answer_in r s = record { notes = s.filter.notes; shown = r; stray = s.running.stray }

-- a stop of the device leaves the volume broken, and off where it was off
abbrev pub broken_by : Power → Power
broken_by Off = Off
broken_by _ = Broken

abbrev pub broken : State → State
broken s = record s { power = broken_by s.power }

-- the event's answer and the state that it leaves: an event that the device stops has the lines of its steps so far
abbrev pub outcome : Option Shown × State → State × Answer
outcome (Some r, s) = (s, answer_in r s)
outcome (None, s) = (broken s, answer_in (shown.Refused code.Device) s)

-- what the event does where it is not refused for want of the volume
abbrev pub tree_of : Event → State → Tree State Shown
tree_of e s = event_now e (begun s)

abbrev pub answered : Option Code → Choices → State → Event → State × Answer
answered (Some r) c s e = (s, refusal r)
answered None c s e = outcome (play (choices_in (may_stop e) c) (tree_of e s))

-- the state that an event leaves and its answer, by what happens of what the rules leave open
abbrev pub on_event : Choices → State → Event → State × Answer
on_event c s e = answered (no_volume (needs_volume e) s.power) c s e
