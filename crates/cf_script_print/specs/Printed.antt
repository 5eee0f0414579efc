-- How events are written.
use Rattle.std.specs.Prelude.{ℕ, Bool, true, false, List, [], ◌∷◌, ◌++◌, codes, Option, Some, None}
use Rattle.std.specs.Fmt.{decimal}
use Rattle.cf_base.specs.declared.ids.Key.{Key}
use Rattle.cf_base.specs.declared.policies.Choice.{Choice}
use Rattle.cf_base.specs.declared.policies.Choice.TheVariants as choice
use Rattle.cf_base.specs.declared.operations.Operation.{Operation}
use Rattle.cf_base.specs.declared.operations.Operation.TheVariants as operation
use Rattle.cf_base.specs.declared.calls.Call.{Call}
use Rattle.cf_base.specs.declared.calls.Call.TheVariants as call
use Rattle.cf_base.specs.declared.events.DeviceEvent.{DeviceEvent}
use Rattle.cf_base.specs.declared.events.DeviceEvent.TheVariants as device
use Rattle.cf_base.specs.declared.events.PeerEvent.{PeerEvent}
use Rattle.cf_base.specs.declared.events.PeerEvent.TheVariants as peer
use Rattle.cf_base.specs.declared.events.EngineEvent.{EngineEvent}
use Rattle.cf_base.specs.declared.events.EngineEvent.TheVariants as engine
use Rattle.cf_base.specs.declared.events.ProviderEvent.{ProviderEvent}
use Rattle.cf_base.specs.declared.events.ProviderEvent.TheVariants as provider
use Rattle.cf_base.specs.declared.events.Event.{Event}
use Rattle.cf_base.specs.declared.events.Event.TheVariants as event
use Rattle.cf_script_words.specs.Words.{pair_text, plain_text, escaped}
use Rattle.cf_script_words.specs.Names.{pin_name, reach_words, class_name, hydration_name, population_name, modifier_words, yes_name, good_name, link_name}
use Rattle.cf_script_words.specs.Entries.{entry_words}
use Rattle.cf_script_words.specs.Texts.{key_text, in_sync_words, plan_key_text, line_of}

abbrev pub range_words : Option (ℕ × ℕ) → List (List ℕ)
range_words None = []
range_words (Some range) = decimal range.0 ∷ decimal range.1 ∷ []

abbrev pub size_words : Option ℕ → List (List ℕ)
size_words None = []
size_words (Some size) = decimal size ∷ []

abbrev pub connect_name : Bool → List ℕ
connect_name true = codes "connect"
connect_name false = codes "disconnect"

abbrev pub call_words : Call → List (List ℕ)
call_words (call.Open path) = codes "open" ∷ escaped path ∷ []
call_words (call.Close handle) = codes "close" ∷ key_text handle.0 ∷ []
call_words (call.Cancel wait) = codes "cancel" ∷ key_text wait.0 ∷ []
call_words (call.Tick ticks) = codes "tick" ∷ decimal ticks ∷ []
call_words (call.Read handle offset len) = codes "read" ∷ key_text handle.0 ∷ decimal offset ∷ decimal len ∷ []
call_words (call.Get path offset len) = codes "get" ∷ escaped path ∷ decimal offset ∷ decimal len ∷ []
call_words (call.Write handle offset bytes) = codes "write" ∷ key_text handle.0 ∷ decimal offset ∷ plain_text bytes ∷ []
call_words (call.Size handle size) = codes "size" ∷ key_text handle.0 ∷ decimal size ∷ []
call_words call.Flush = codes "flush" ∷ []
call_words (call.Create path) = codes "create" ∷ escaped path ∷ []
call_words (call.Mkdir path) = codes "mkdir" ∷ escaped path ∷ []
call_words (call.Delete path) = codes "delete" ∷ escaped path ∷ []
call_words (call.Rename from to) = codes "rename" ∷ escaped from ∷ escaped to ∷ []
call_words (call.List path) = codes "list" ∷ escaped path ∷ []
call_words (call.Pin path pin reach) = codes "pin" ∷ escaped path ∷ pin_name pin ∷ reach_words reach
call_words (call.Hydrate path) = codes "hydrate" ∷ escaped path ∷ []
call_words (call.Dehydrate path range) = codes "dehydrate" ∷ escaped path ∷ range_words range
call_words (call.Info path) = codes "info" ∷ escaped path ∷ []
call_words (call.Ranges path class) = codes "ranges" ∷ escaped path ∷ class_name class ∷ []
call_words call.Df = codes "df" ∷ []
call_words (call.Policy policy) = codes "policy" ∷ hydration_name policy.hydration ∷ population_name policy.population ∷ modifier_words policy.validate policy.restart policy.auto
call_words (call.Keep path on) = codes "keep" ∷ escaped path ∷ yes_name on ∷ []
call_words (call.Used path) = codes "used" ∷ escaped path ∷ []
call_words (call.Connect on) = connect_name on ∷ []

abbrev pub choice_words : Choice → List (List ℕ)
choice_words choice.Keep = codes "keep" ∷ []
choice_words choice.Drop = codes "drop" ∷ []
choice_words (choice.Mix seed) = codes "mix" ∷ decimal seed ∷ []

abbrev pub device_words : DeviceEvent → List (List ℕ)
device_words (device.Stop calls) = codes "stop" ∷ decimal calls ∷ []
device_words (device.Crash choice) = codes "crash" ∷ choice_words choice
device_words device.Restart = codes "restart" ∷ []

abbrev pub peer_words : PeerEvent → List (List ℕ)
peer_words (peer.Put path bytes) = codes "put" ∷ escaped path ∷ plain_text bytes ∷ []
peer_words (peer.MakeDir path) = codes "mkdir" ∷ escaped path ∷ []
peer_words (peer.Move from to) = codes "move" ∷ escaped from ∷ escaped to ∷ []
peer_words (peer.Remove path) = codes "remove" ∷ escaped path ∷ []
peer_words (peer.Stat path) = codes "stat" ∷ escaped path ∷ []
peer_words (peer.Keep count) = codes "keep" ∷ decimal count ∷ []

abbrev pub engine_words : EngineEvent → List (List ℕ)
engine_words (engine.Link inline) = codes "link" ∷ link_name inline ∷ []
engine_words (engine.Arrive message) = codes "arrive" ∷ decimal message ∷ []
engine_words (engine.Deliver message) = codes "deliver" ∷ decimal message ∷ []
engine_words engine.Work = codes "work" ∷ []
engine_words engine.Sync = codes "sync" ∷ []
engine_words (engine.Space blocks) = codes "space" ∷ decimal blocks ∷ []

-- an operation with this word for its key
abbrev pub operation_words : List ℕ → Operation → List (List ℕ)
operation_words key (operation.Transfer k at bytes) = codes "transfer" ∷ key ∷ decimal at ∷ plain_text bytes ∷ []
operation_words key (operation.Refuse k span status) = codes "fail" ∷ key ∷ decimal span.start ∷ decimal span.len ∷ decimal status ∷ []
operation_words key (operation.Retrieve k span) = codes "retrieve" ∷ key ∷ decimal span.start ∷ decimal span.len ∷ []
operation_words key (operation.Ack k span good) = codes "ack" ∷ key ∷ decimal span.start ∷ decimal span.len ∷ good_name good ∷ []
operation_words key (operation.Restart k) = codes "rehydrate" ∷ key ∷ []
operation_words key (operation.Entries k list good) = codes "entries" ∷ key ∷ good_name good ∷ entry_words list
operation_words key (operation.AckDehydrate k good) = codes "ackdehydrate" ∷ key ∷ good_name good ∷ []

-- the ask that the operation answers
abbrev pub key_of : Operation → Key
key_of (operation.Transfer key at bytes) = key
key_of (operation.Refuse key span status) = key
key_of (operation.Retrieve key span) = key
key_of (operation.Ack key span good) = key
key_of (operation.Restart key) = key
key_of (operation.Entries key list good) = key
key_of (operation.AckDehydrate key good) = key

abbrev pub provider_words : ProviderEvent → List (List ℕ)
provider_words (provider.Place path size identity in_sync) = codes "place" ∷ escaped path ∷ decimal size ∷ plain_text identity ∷ in_sync_words in_sync
provider_words (provider.PlaceDir path identity in_sync) = codes "placedir" ∷ escaped path ∷ plain_text identity ∷ in_sync_words in_sync
provider_words (provider.Convert path identity) = codes "convert" ∷ escaped path ∷ plain_text identity ∷ []
provider_words (provider.Revert path) = codes "revert" ∷ escaped path ∷ []
provider_words (provider.Update path identity size) = codes "update" ∷ escaped path ∷ plain_text identity ∷ size_words size
provider_words (provider.Mark path number) = codes "mark" ∷ escaped path ∷ pair_text number.epoch number.place ∷ []
provider_words (provider.Unmark path) = codes "unmark" ∷ escaped path ∷ []
provider_words (provider.Do op) = codes "do" ∷ operation_words (key_text (key_of op)) op
provider_words (provider.Plan own op) = codes "plan" ∷ operation_words (plan_key_text own (key_of op)) op

abbrev pub event_words : Event → List (List ℕ)
event_words (event.Call e) = call_words e
event_words (event.Device e) = device_words e
event_words (event.Peer e) = codes "peer" ∷ peer_words e
event_words (event.Engine e) = engine_words e
event_words (event.Provider e) = provider_words e

-- one line an event
abbrev pub printed : List Event → List ℕ
printed [] = []
printed (e ∷ es) = line_of (event_words e) ++ 10 ∷ printed es
