-- Small scripts of `replay` with an empty remote, and what they report.
use Rattle.std.specs.Prelude.{ℕ, false, List, None, codes, map}
use Rattle.cf_base.specs.declared.calls.Call.TheVariants as call
use Rattle.cf_base.specs.declared.events.DeviceEvent.TheVariants as device
use Rattle.cf_base.specs.declared.events.EngineEvent.TheVariants as engine
use Rattle.cf_base.specs.declared.events.Event.{Event}
use Rattle.cf_base.specs.declared.events.Event.TheVariants as event
use Rattle.cf_base.specs.declared.events.PeerEvent.TheVariants as peer
use Rattle.cf_base.specs.declared.ids.Handle.{Handle}
use Rattle.cf_base.specs.declared.policies.Choice.TheVariants as choice
use Rattle.cf_base.specs.declared.policies.Mode.TheVariants as mode
use Rattle.cf_model.specs.Lawful.{after, trace_by, usual}
use Rattle.cf_model.specs.State.{State, start}
use Rattle.cf_model.specs.Store.{empty_remote}
use Rattle.cf_model_headline.specs.Reports.{Report}

abbrev pub from_start : State
from_start = start mode.Replay empty_remote 15616

abbrev pub reported : List Event → Report
reported events = trace_by from_start (map usual events)

abbrev pub left_by : List Event → State
left_by events = after from_start (map usual events)

abbrev pub first_handle : Handle
first_handle = record { 0 = record { epoch = 1; number = 1 } }

abbrev pub create_f : Event
create_f = event.Call (call.Create (codes "/f"))

abbrev pub open_f : Event
open_f = event.Call (call.Open (codes "/f"))

abbrev pub write_a : Event
write_a = event.Call (call.Write first_handle 0 (codes "a"))

abbrev pub get_f : Event
get_f = event.Call (call.Get (codes "/f") 0 1)

abbrev pub flush : Event
flush = event.Call call.Flush

abbrev pub count_blocks : Event
count_blocks = event.Call call.Df

abbrev pub crash : Event
crash = event.Device (device.Crash choice.Keep)

abbrev pub restart : Event
restart = event.Device device.Restart

-- another device makes a file of two bytes
abbrev pub put_a : Event
put_a = event.Peer (peer.Put (codes "/a") (codes "hi"))

-- another device makes a file of the name that one here has
abbrev pub put_f : Event
put_f = event.Peer (peer.Put (codes "/f") (codes "hi"))

abbrev pub sync : Event
sync = event.Engine engine.Sync

abbrev pub info_a : Event
info_a = event.Call (call.Info (codes "/a"))

abbrev pub open_a : Event
open_a = event.Call (call.Open (codes "/a"))

abbrev pub dehydrate_a : Event
dehydrate_a = event.Call (call.Dehydrate (codes "/a") None)

abbrev pub queue : Event
queue = event.Engine (engine.Link false)

abbrev pub get_a : Event
get_a = event.Call (call.Get (codes "/a") 0 2)

abbrev pub arrive : ℕ → Event
arrive m = event.Engine (engine.Arrive m)

abbrev pub deliver : ℕ → Event
deliver m = event.Engine (engine.Deliver m)
