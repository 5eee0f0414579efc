-- Reports of runs of the definitions.
use Rattle.std.specs.Prelude.{true, false, List, [], ◌∷◌, None, Option, codes, map}
use Rattle.std.specs.List.{flat_map}
use Rattle.cf_base.specs.declared.calls.Call.TheVariants as call
use Rattle.cf_base.specs.declared.events.DeviceEvent.TheVariants as device
use Rattle.cf_base.specs.declared.events.EngineEvent.TheVariants as engine
use Rattle.cf_base.specs.declared.events.Event.{Event}
use Rattle.cf_base.specs.declared.events.Event.TheVariants as event
use Rattle.cf_base.specs.declared.events.PeerEvent.TheVariants as peer
use Rattle.cf_base.specs.declared.policies.Choice.TheVariants as crash
use Rattle.cf_check_judge.specs.Judge.{judge}
use Rattle.cf_check_model.specs.Rows.{first_handle, from_start}
use Rattle.cf_check_model.specs.declared.verdicts.Verdict.{Verdict}
use Rattle.cf_model.specs.Lawful.{answers}
use Rattle.cf_model.specs.Trees.{AsItKeeps, Faults, Telling}
use Rattle.cf_report.specs.Texts.{text}

-- the verdict on the report of a run in which the remote does the same in each event
abbrev pub own_verdict : List Telling → List Event → Option Verdict
own_verdict tellings events =
    judge events (flat_map text (answers from_start (map (λ (e : Event). (record { stop = None; forks = []; tellings = tellings }, e)) events))) 15616

abbrev pub of_calls : List Event
of_calls =
    event.Call (call.Mkdir (codes "/d"))
    ∷ event.Call (call.Create (codes "/d/f"))
    ∷ event.Call (call.Create (codes "/a\nb"))
    ∷ event.Call (call.Open (codes "/d/f"))
    ∷ event.Call (call.Write first_handle 0 (codes "hello"))
    ∷ event.Call (call.Read first_handle 1 3)
    ∷ event.Call (call.Size first_handle 2)
    ∷ event.Call (call.Rename (codes "/d/f") (codes "/g"))
    ∷ event.Call (call.List (codes "/"))
    ∷ event.Call (call.Info (codes "/g"))
    ∷ event.Call call.Df
    ∷ event.Call (call.Delete (codes "/g"))
    ∷ event.Call (call.Close first_handle)
    ∷ event.Call (call.Delete (codes "/g"))
    ∷ event.Call (call.Tick 3)
    ∷ []

abbrev pub of_engine : List Event
of_engine =
    event.Call (call.Mkdir (codes "/d"))
    ∷ event.Call (call.Create (codes "/d/f"))
    ∷ event.Engine engine.Work
    ∷ event.Engine engine.Work
    ∷ event.Peer (peer.Put (codes "/p") (codes "hello"))
    ∷ event.Peer (peer.Stat (codes "/d"))
    ∷ event.Engine engine.Sync
    ∷ event.Call (call.Get (codes "/p") 0 5)
    ∷ event.Call (call.Dehydrate (codes "/p") None)
    ∷ event.Engine (engine.Space 1)
    ∷ event.Peer (peer.Remove (codes "/p"))
    ∷ event.Engine engine.Sync
    ∷ []

-- messages that are held
abbrev pub of_link : List Event
of_link =
    event.Engine (engine.Link false)
    ∷ event.Call (call.Mkdir (codes "/d"))
    ∷ event.Engine engine.Work
    ∷ event.Engine (engine.Arrive 1)
    ∷ event.Engine (engine.Deliver 2)
    ∷ event.Engine (engine.Arrive 7)
    ∷ event.Engine (engine.Link true)
    ∷ event.Engine engine.Work
    ∷ []

abbrev pub of_device : List Event
of_device =
    event.Call (call.Mkdir (codes "/d"))
    ∷ event.Engine engine.Work
    ∷ event.Device (device.Crash crash.Keep)
    ∷ event.Call call.Flush
    ∷ event.Device device.Restart
    ∷ event.Engine engine.Work
    ∷ []

abbrev pub fails_second : List Telling
fails_second = AsItKeeps ∷ Faults ∷ []

-- held messages that come under an inline link
abbrev pub of_link_later : List Event
of_link_later =
    event.Engine (engine.Link false)
    ∷ event.Call (call.Mkdir (codes "/d"))
    ∷ event.Call (call.Create (codes "/f"))
    ∷ event.Engine engine.Work
    ∷ event.Engine (engine.Link true)
    ∷ event.Engine (engine.Arrive 1)
    ∷ event.Engine engine.Work
    ∷ event.Engine (engine.Arrive 1)
    ∷ event.Engine engine.Work
    ∷ event.Engine engine.Sync
    ∷ []

abbrev pub of_more_calls : List Event
of_more_calls =
    event.Peer (peer.Put (codes "/p") (codes "hello"))
    ∷ event.Engine engine.Sync
    ∷ event.Call (call.Hydrate (codes "/p"))
    ∷ event.Call (call.Rename (codes "/p") (codes "/q"))
    ∷ event.Engine engine.Work
    ∷ event.Peer (peer.Move (codes "/q") (codes "/r"))
    ∷ event.Peer (peer.Keep 0)
    ∷ event.Call (call.Delete (codes "/q"))
    ∷ event.Engine engine.Work
    ∷ event.Call (call.Mkdir (codes "/q"))
    ∷ event.Engine engine.Work
    ∷ event.Engine engine.Sync
    ∷ event.Device (device.Crash crash.Drop)
    ∷ event.Device device.Restart
    ∷ event.Engine engine.Sync
    ∷ []

-- a held reply that comes under an inline link
abbrev pub of_reply_later : List Event
of_reply_later =
    event.Engine (engine.Link false)
    ∷ event.Call (call.Mkdir (codes "/d"))
    ∷ event.Call (call.Create (codes "/f"))
    ∷ event.Engine engine.Work
    ∷ event.Engine (engine.Deliver 1)
    ∷ event.Engine (engine.Arrive 1)
    ∷ event.Engine (engine.Link true)
    ∷ event.Engine (engine.Deliver 2)
    ∷ event.Engine (engine.Arrive 2)
    ∷ event.Engine (engine.Arrive 3)
    ∷ event.Engine engine.Work
    ∷ []
