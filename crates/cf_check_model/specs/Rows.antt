-- A small script, its report, and the same report with another last line.
use Rattle.std.specs.Prelude.{ℕ, List, [], ◌∷◌, ◌++◌, codes}
use Rattle.cf_base.specs.declared.calls.Call.TheVariants as call
use Rattle.cf_base.specs.declared.events.EngineEvent.TheVariants as engine
use Rattle.cf_base.specs.declared.events.Event.{Event}
use Rattle.cf_base.specs.declared.events.Event.TheVariants as event
use Rattle.cf_base.specs.declared.events.PeerEvent.TheVariants as peer
use Rattle.cf_base.specs.declared.ids.Handle.{Handle}
use Rattle.cf_base.specs.declared.policies.Mode.TheVariants as mode
use Rattle.cf_model.specs.State.{State, start}
use Rattle.cf_model.specs.Store.{empty_remote}

abbrev pub from_start : State
from_start = start mode.Replay empty_remote 15616

abbrev pub first_handle : Handle
first_handle = record { 0 = record { epoch = 1; number = 1 } }

-- a file of another device comes here by a sync and is read
abbrev pub inline_read : List Event
inline_read =
    event.Peer (peer.Put (codes "/a") (codes "hello"))
    ∷ event.Engine engine.Sync
    ∷ event.Call (call.Open (codes "/a"))
    ∷ event.Call (call.Read first_handle 0 5)
    ∷ []

abbrev pub line : List ℕ → List ℕ
line text = text ++ 10 ∷ []

-- of the last event all but its last line
abbrev pub after_open : List ℕ
after_open =
    line (codes "- ask 1.1 fetch 2 0 5")
    ++ line (codes "- sent 5 fetch")
    ++ line (codes "- sent 6 reply 5")
    ++ line (codes "- change 1.3 fill 2 0 5")

-- the report of all but the last line
abbrev pub before_last : List ℕ
before_last =
    line (codes "= ok 2 1")
    ++ line (codes "- sent 1 feed")
    ++ line (codes "- sent 2 reply 1")
    ++ line (codes "- change 1.1 make 2 1 a pfile 5 000000000000000200000000000000020000000000000001")
    ++ line (codes "- change 1.2 mark 2 1.1")
    ++ line (codes "- sent 3 feed")
    ++ line (codes "- sent 4 reply 3")
    ++ line (codes "= ok 0")
    ++ line (codes "= ok 1.1")
    ++ after_open

abbrev pub read_report : List ℕ
read_report = before_last ++ line (codes "= data 68656c6c6f")

-- another byte was read
abbrev pub changed_report : List ℕ
changed_report = before_last ++ line (codes "= data 68656c6c70")
