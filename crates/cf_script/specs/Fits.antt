-- The events that the language can spell.
use Rattle.std.specs.Prelude.{◌≡◌, ℕ, ◌<◌, ◌≤◌, ◌^◌, Bool, true, false, List, [], ◌∷◌, IsTrue, Option, Some, None}
use Rattle.std.specs.Str.{IsUtf8}
use Rattle.hex.specs.Hex.{IsBytes}
use Rattle.cf_base.specs.declared.ids.Key.{Key}
use Rattle.cf_base.specs.declared.spans.Span.{Span}
use Rattle.cf_base.specs.declared.policies.Choice.{Choice}
use Rattle.cf_base.specs.declared.policies.Choice.TheVariants as choice
use Rattle.cf_base.specs.declared.policies.Mode.{Mode}
use Rattle.cf_base.specs.declared.policies.Mode.TheVariants as mode
use Rattle.cf_base.specs.declared.operations.NewItem.{NewItem}
use Rattle.cf_base.specs.declared.operations.Operation.{Operation}
use Rattle.cf_base.specs.declared.operations.Operation.TheVariants as operation
use Rattle.cf_base.specs.declared.calls.Call.{Call}
use Rattle.cf_base.specs.declared.calls.Call.TheVariants as call
use Rattle.cf_base.specs.declared.events.DeviceEvent.{DeviceEvent}
use Rattle.cf_base.specs.declared.events.DeviceEvent.TheVariants as device
use Rattle.cf_base.specs.declared.events.PeerEvent.{PeerEvent}
use Rattle.cf_base.specs.declared.events.PeerEvent.TheVariants as peer
use Rattle.cf_base.specs.declared.events.EngineEvent.{EngineEvent}
use Rattle.cf_base.specs.declared.events.EngineEvent.TheVariants as engine
use Rattle.cf_base.specs.declared.events.ProviderEvent.{ProviderEvent}
use Rattle.cf_base.specs.declared.events.ProviderEvent.TheVariants as provider
use Rattle.cf_base.specs.declared.events.Event.{Event}
use Rattle.cf_base.specs.declared.events.Event.TheVariants as event
use Rattle.cf_script_words.specs.Words.{has_slash}
use Rattle.cf_script.specs.Script.{is_plain}
use Rattle.cf_script_print.specs.Printed.{key_of}

abbrev pub Fits : ℕ → Type 0
Fits n = n < 2 ^ 32

abbrev pub KeyFits : Key → Type 0
KeyFits key = Fits key.epoch × Fits key.number

-- a text without control bytes that begins with a slash
abbrev pub PathFits : List ℕ → Type 0
PathFits path = IsUtf8 path × IsTrue (has_slash path) × IsTrue (is_plain path)

abbrev pub RangeFits : Option (ℕ × ℕ) → Type 0
RangeFits None = Unit {0}
RangeFits (Some range) = Fits range.0 × Fits range.1

abbrev pub SizeFits : Option ℕ → Type 0
SizeFits None = Unit {0}
SizeFits (Some size) = Fits size

abbrev pub SpanFits : Span → Type 0
SpanFits span = Fits span.start × Fits span.len

abbrev pub CallFits : Call → Type 0
CallFits (call.Open path) = PathFits path
CallFits (call.Close handle) = KeyFits handle.0
CallFits (call.Cancel wait) = KeyFits wait.0
CallFits (call.Tick ticks) = Fits ticks × (1 ≤ ticks)
CallFits (call.Read handle offset len) = KeyFits handle.0 × Fits offset × Fits len
CallFits (call.Get path offset len) = PathFits path × Fits offset × Fits len
CallFits (call.Write handle offset bytes) = KeyFits handle.0 × Fits offset × IsBytes bytes
CallFits (call.Size handle size) = KeyFits handle.0 × Fits size
CallFits call.Flush = Unit {0}
CallFits (call.Create path) = PathFits path
CallFits (call.Mkdir path) = PathFits path
CallFits (call.Delete path) = PathFits path
CallFits (call.Rename from to) = PathFits from × PathFits to
CallFits (call.List path) = PathFits path
CallFits (call.Pin path pin reach) = PathFits path
CallFits (call.Hydrate path) = PathFits path
CallFits (call.Dehydrate path range) = PathFits path × RangeFits range
CallFits (call.Info path) = PathFits path
CallFits (call.Ranges path class) = PathFits path
CallFits call.Df = Unit {0}
CallFits (call.Policy policy) = Unit {0}
CallFits (call.Keep path on) = PathFits path
CallFits (call.Used path) = PathFits path
CallFits (call.Connect on) = Unit {0}

abbrev pub ChoiceFits : Choice → Type 0
ChoiceFits choice.Keep = Unit {0}
ChoiceFits choice.Drop = Unit {0}
ChoiceFits (choice.Mix seed) = Fits seed

abbrev pub DeviceFits : DeviceEvent → Type 0
DeviceFits (device.Stop calls) = Fits calls
DeviceFits (device.Crash choice) = ChoiceFits choice
DeviceFits device.Restart = Unit {0}

abbrev pub PeerFits : PeerEvent → Type 0
PeerFits (peer.Put path bytes) = PathFits path × IsBytes bytes
PeerFits (peer.MakeDir path) = PathFits path
PeerFits (peer.Move from to) = PathFits from × PathFits to
PeerFits (peer.Remove path) = PathFits path
PeerFits (peer.Stat path) = PathFits path
PeerFits (peer.Keep count) = Fits count × (1 ≤ count)

abbrev pub EngineFits : EngineEvent → Type 0
EngineFits (engine.Link inline) = Unit {0}
EngineFits (engine.Arrive message) = Fits message
EngineFits (engine.Deliver message) = Fits message
EngineFits engine.Work = Unit {0}
EngineFits engine.Sync = Unit {0}
EngineFits (engine.Space blocks) = Fits blocks

-- a name is a text without control bytes; a directory has size 0
abbrev pub ItemFits : NewItem → Type 0
ItemFits item = IsUtf8 item.name × IsTrue (is_plain item.name) × Fits item.size × (item.dir ≡ true → item.size ≡ 0) × IsBytes item.identity

abbrev pub ItemsFit : List NewItem → Type 0
ItemsFit [] = Unit {0}
ItemsFit (item ∷ items) = ItemFits item × ItemsFit items

-- what stands after the key; entries that are not good are none
abbrev pub OperationFits : Operation → Type 0
OperationFits (operation.Transfer key at bytes) = Fits at × IsBytes bytes
OperationFits (operation.Refuse key span status) = SpanFits span × Fits status
OperationFits (operation.Retrieve key span) = SpanFits span
OperationFits (operation.Ack key span good) = SpanFits span
OperationFits (operation.Restart key) = Unit {0}
OperationFits (operation.Entries key list good) = ItemsFit list × (good ≡ false → list ≡ [])
OperationFits (operation.AckDehydrate key good) = Unit {0}

-- the key of the callback itself is 0.0
abbrev pub PlanKeyFits : Bool → Key → Type 0
PlanKeyFits true key = key ≡ record { epoch = 0; number = 0 }
PlanKeyFits false key = KeyFits key

abbrev pub ProviderFits : ProviderEvent → Type 0
ProviderFits (provider.Place path size identity in_sync) = PathFits path × Fits size × IsBytes identity
ProviderFits (provider.PlaceDir path identity in_sync) = PathFits path × IsBytes identity
ProviderFits (provider.Convert path identity) = PathFits path × IsBytes identity
ProviderFits (provider.Revert path) = PathFits path
ProviderFits (provider.Update path identity size) = PathFits path × IsBytes identity × SizeFits size
ProviderFits (provider.Mark path number) = PathFits path × Fits number.epoch × Fits number.place
ProviderFits (provider.Unmark path) = PathFits path
ProviderFits (provider.Do op) = KeyFits (key_of op) × OperationFits op
ProviderFits (provider.Plan own op) = PlanKeyFits own (key_of op) × OperationFits op

abbrev pub EventFits : Event → Type 0
EventFits (event.Call e) = CallFits e
EventFits (event.Device e) = DeviceFits e
EventFits (event.Peer e) = PeerFits e
EventFits (event.Engine e) = EngineFits e
EventFits (event.Provider e) = ProviderFits e

-- whether the mode has events of this kind
abbrev pub is_of : Mode → Event → Bool
is_of mode.Replay (event.Provider e) = false
is_of mode.Filter (event.Peer e) = false
is_of mode.Filter (event.Engine e) = false
is_of m e = true

-- an event that a line can spell in the mode
abbrev pub CanSpell : Mode → Event → Type 0
CanSpell m e = IsTrue (is_of m e) × EventFits e

abbrev pub CanSpellAll : Mode → List Event → Type 0
CanSpellAll m [] = Unit {0}
CanSpellAll m (e ∷ es) = CanSpell m e × CanSpellAll m es
