-- Small scripts with their reports.
use Rattle.std.specs.Prelude.{ℕ, List, [], ◌∷◌, ◌++◌, codes}
use Rattle.cf_base.specs.declared.calls.Call.TheVariants as call
use Rattle.cf_base.specs.declared.events.DeviceEvent.TheVariants as device
use Rattle.cf_base.specs.declared.events.EngineEvent.TheVariants as engine
use Rattle.cf_base.specs.declared.events.Event.{Event}
use Rattle.cf_base.specs.declared.events.Event.TheVariants as event
use Rattle.cf_base.specs.declared.events.PeerEvent.TheVariants as peer
use Rattle.cf_base.specs.declared.policies.Choice.TheVariants as crash
use Rattle.cf_check_model.specs.Rows.{first_handle, line}

-- a file is made and flushed, the power is cut, and the volume is opened again
abbrev pub flushed : List Event
flushed =
    event.Call (call.Create (codes "/n"))
    ∷ event.Call call.Flush
    ∷ event.Call (call.Mkdir (codes "/d"))
    ∷ event.Device (device.Crash crash.Drop)
    ∷ event.Device device.Restart
    ∷ []

abbrev pub before_restart : List ℕ
before_restart =
    line (codes "- change 1.1 make 2 1 n file 0 -")
    ++ line (codes "= ok 2")
    ++ line (codes "= ok 1")
    ++ line (codes "- change 1.2 make 3 1 d dir 0 -")
    ++ line (codes "= ok 3")
    ++ line (codes "= ok")

-- a request of a sync fails
abbrev pub failing : List Event
failing = event.Peer (peer.MakeDir (codes "/d")) ∷ event.Engine engine.Sync ∷ event.Peer (peer.Stat (codes "/d")) ∷ []

abbrev pub failing_report : List ℕ
failing_report =
    line (codes "= ok 2 0")
    ++ line (codes "- sent 1 feed")
    ++ line (codes "- fault 1")
    ++ line (codes "= ok 0")
    ++ line (codes "= refused RemoteFault")

-- events that ask no remote
abbrev pub bad_path : List Event
bad_path = event.Peer (peer.MakeDir (codes "/")) ∷ []

abbrev pub flush_alone : List Event
flush_alone = event.Call call.Flush ∷ []

-- what was made since the last flush is not there after a restart
abbrev pub unflushed : List Event
unflushed = event.Call (call.Create (codes "/n")) ∷ event.Device (device.Crash crash.Keep) ∷ event.Device device.Restart ∷ []

abbrev pub before_opening : List ℕ
before_opening = line (codes "- change 1.1 make 2 1 n file 0 -") ++ line (codes "= ok 2") ++ line (codes "= ok")

-- A block is written three times. With two clusters the third write may need a commit for room, so a restart may resume with the three changes
-- before it.
abbrev pub writes : List Event
writes =
    event.Call (call.Create (codes "/n"))
    ∷ event.Call (call.Open (codes "/n"))
    ∷ event.Call (call.Write first_handle 0 (codes "a"))
    ∷ event.Call (call.Write first_handle 0 (codes "b"))
    ∷ event.Call (call.Write first_handle 0 (codes "c"))
    ∷ []

abbrev pub writes_report : List ℕ
writes_report =
    line (codes "- change 1.1 make 2 1 n file 0 -")
    ++ line (codes "= ok 2")
    ++ line (codes "= ok 1.1")
    ++ line (codes "- change 1.2 write 2 0 1")
    ++ line (codes "= ok")
    ++ line (codes "- change 1.3 write 2 0 1")
    ++ line (codes "= ok")
    ++ line (codes "- change 1.4 write 2 0 1")
    ++ line (codes "= ok")

abbrev pub written : List Event
written = writes ++ event.Device (device.Crash crash.Drop) ∷ event.Device device.Restart ∷ []

abbrev pub written_report : List ℕ
written_report = writes_report ++ line (codes "= ok")

-- so written, and flushed
abbrev pub written_and_flushed : List Event
written_and_flushed = writes ++ event.Call call.Flush ∷ event.Device (device.Crash crash.Drop) ∷ event.Device device.Restart ∷ []

abbrev pub written_and_flushed_report : List ℕ
written_and_flushed_report = writes_report ++ line (codes "= ok 4") ++ line (codes "= ok")

-- the second request of a sync fails
abbrev pub upload_fails : List Event
upload_fails = event.Call (call.Mkdir (codes "/d")) ∷ event.Engine engine.Work ∷ []

abbrev pub upload_report : List ℕ
upload_report =
    line (codes "- change 1.1 make 2 1 d dir 0 -")
    ++ line (codes "= ok 2")
    ++ line (codes "- sent 1 feed")
    ++ line (codes "- sent 2 reply 1")
    ++ line (codes "- change 1.2 convert 2 000000000000000000000000000000000000000000000000")
    ++ line (codes "- sent 3 mkdir")
    ++ line (codes "- fault 3")
    ++ line (codes "= ok")

abbrev pub restart_alone : List Event
restart_alone = event.Device device.Restart ∷ []

-- a failure without a request
abbrev pub early_fault : List ℕ
early_fault =
    line (codes "- change 1.1 make 2 1 d dir 0 -")
    ++ line (codes "= ok 2")
    ++ line (codes "- fault 1")
    ++ line (codes "= ok")

-- a request that is told as another's failure
abbrev pub later_fault : List ℕ
later_fault =
    line (codes "- change 1.1 make 2 1 d dir 0 -")
    ++ line (codes "= ok 2")
    ++ line (codes "- sent 1 feed")
    ++ line (codes "- fault 2")
    ++ line (codes "= ok")

-- a line that an event of another device does not have
abbrev pub make_alone : List Event
make_alone = event.Peer (peer.MakeDir (codes "/d")) ∷ []

-- a report that ends in the line of a failure
abbrev pub cut_at_fault : List ℕ
cut_at_fault = line (codes "= ok 2 0") ++ line (codes "- sent 1 feed") ++ codes "- fault 1"
