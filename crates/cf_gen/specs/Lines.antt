-- The lines of made scripts, as they are written and as events.
use Rattle.std.specs.Prelude.{ℕ, List, [], ◌∷◌, ◌++◌, codes, map, replicate}
use Rattle.std.specs.Fmt.{decimal}
use Rattle.hex.specs.Hex.{encode_lower}
use Rattle.cf_base.specs.declared.policies.Choice.TheVariants as choice
use Rattle.cf_base.specs.declared.calls.Call.TheVariants as call
use Rattle.cf_base.specs.declared.events.DeviceEvent.TheVariants as device
use Rattle.cf_base.specs.declared.events.PeerEvent.TheVariants as peer
use Rattle.cf_base.specs.declared.events.EngineEvent.TheVariants as engine
use Rattle.cf_base.specs.declared.events.Event.{Event}
use Rattle.cf_base.specs.declared.events.Event.TheVariants as event
use Rattle.cf_script_words.specs.Texts.{key_text, line_of}
use Rattle.cf_gen.specs.declared.lines.Line.{Line}
use Rattle.cf_gen.specs.declared.lines.Line.TheVariants.{Close, Crash, Flush, Open, Put, Read, Restart, Size, Sync, Write}

abbrev pub path_of : ℕ → List ℕ
path_of file = codes "/g" ++ decimal file

-- a byte, and how often it stands
abbrev pub repeated : ℕ → ℕ → List ℕ
repeated byte count = encode_lower (byte ∷ []) ++ 42 ∷ decimal count

abbrev pub words_of : Line → List (List ℕ)
words_of (Put file byte count) = codes "peer" ∷ codes "put" ∷ path_of file ∷ repeated byte count ∷ []
words_of Sync = codes "sync" ∷ []
words_of Flush = codes "flush" ∷ []
words_of (Open file) = codes "open" ∷ path_of file ∷ []
words_of (Close handle) = codes "close" ∷ key_text handle ∷ []
words_of (Read handle offset len) = codes "read" ∷ key_text handle ∷ decimal offset ∷ decimal len ∷ []
words_of (Write handle offset byte count) = codes "write" ∷ key_text handle ∷ decimal offset ∷ repeated byte count ∷ []
words_of (Size handle size) = codes "size" ∷ key_text handle ∷ decimal size ∷ []
words_of (Crash seed) = codes "crash" ∷ codes "mix" ∷ decimal seed ∷ []
words_of Restart = codes "restart" ∷ []

abbrev pub event_of : Line → Event
event_of (Put file byte count) = event.Peer (peer.Put (path_of file) (replicate count byte))
event_of Sync = event.Engine engine.Sync
event_of Flush = event.Call call.Flush
event_of (Open file) = event.Call (call.Open (path_of file))
event_of (Close handle) = event.Call (call.Close (record { 0 = handle }))
event_of (Read handle offset len) = event.Call (call.Read (record { 0 = handle }) offset len)
event_of (Write handle offset byte count) = event.Call (call.Write (record { 0 = handle }) offset (replicate count byte))
event_of (Size handle size) = event.Call (call.Size (record { 0 = handle }) size)
event_of (Crash seed) = event.Device (device.Crash (choice.Mix seed))
event_of Restart = event.Device device.Restart

-- one line an event
abbrev pub text_of : List Line → List ℕ
text_of [] = []
text_of (line ∷ lines) = line_of (words_of line) ++ 10 ∷ text_of lines

abbrev pub events_of : List Line → List Event
events_of lines = map event_of lines
