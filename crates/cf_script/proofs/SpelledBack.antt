-- What is written for an event spells it.
use Rattle.std.proofs.Common.{◌≡◌, ℕ, ◌^◌, ◌<◌, ◌≤◌, Bool, true, false, List, [], ◌∷◌, length, refl, sym, ap, subst, inl}
use Rattle.std.specs.Prelude.{codes, Some, None}
use Rattle.std.specs.Fmt.{decimal}
use Rattle.hex.specs.Hex.{IsBytes}
use Rattle.cf_base.specs.declared.ids.Key.{Key}
use Rattle.cf_base.specs.declared.items.Pin.{Pin}
use Rattle.cf_base.specs.declared.items.Pin.TheVariants as pin
use Rattle.cf_base.specs.declared.items.Reach.{Reach}
use Rattle.cf_base.specs.declared.items.Reach.TheVariants as reach
use Rattle.cf_base.specs.declared.policies.Class.{Class}
use Rattle.cf_base.specs.declared.policies.Class.TheVariants as class
use Rattle.cf_base.specs.declared.policies.Hydration.{Hydration}
use Rattle.cf_base.specs.declared.policies.Hydration.TheVariants as hydration
use Rattle.cf_base.specs.declared.policies.Population.{Population}
use Rattle.cf_base.specs.declared.policies.Population.TheVariants as population
use Rattle.cf_base.specs.declared.policies.Choice.TheVariants as choice
use Rattle.cf_base.specs.declared.policies.Mode.{Mode}
use Rattle.cf_base.specs.declared.policies.Mode.TheVariants as mode
use Rattle.cf_base.specs.declared.operations.Operation.{Operation}
use Rattle.cf_base.specs.declared.operations.Operation.TheVariants as operation
use Rattle.cf_base.specs.declared.calls.Call.{Call}
use Rattle.cf_base.specs.declared.calls.Call.TheVariants as call
use Rattle.cf_base.specs.declared.events.DeviceEvent.{DeviceEvent}
use Rattle.cf_base.specs.declared.events.DeviceEvent.TheVariants as device
use Rattle.cf_base.specs.declared.events.PeerEvent.{PeerEvent}
use Rattle.cf_base.specs.declared.events.PeerEvent.TheVariants as peer
use Rattle.cf_base.specs.declared.events.EngineEvent.{EngineEvent}
use Rattle.cf_base.specs.declared.events.EngineEvent.TheVariants as engine
use Rattle.cf_base.specs.declared.events.ProviderEvent.{ProviderEvent}
use Rattle.cf_base.specs.declared.events.ProviderEvent.TheVariants as provider
use Rattle.cf_base.specs.declared.events.Event.{Event}
use Rattle.cf_base.specs.declared.events.Event.TheVariants as event
use Rattle.cf_script_words.specs.declared.commands.Command.{Command}
use Rattle.cf_script_words.specs.declared.commands.Command.TheVariants as command
use Rattle.cf_script_words.specs.declared.commands.BareCommand.TheVariants as bare
use Rattle.cf_script_words.specs.declared.commands.PathCommand.TheVariants as on_path
use Rattle.cf_script_words.specs.declared.commands.NumberCommand.TheVariants as on_number
use Rattle.cf_script_words.specs.declared.commands.WordCommand.TheVariants as on_word
use Rattle.cf_script_words.specs.declared.commands.TwoWordCommand.TheVariants as on_two
use Rattle.cf_script_words.specs.declared.commands.ThreeWordCommand.TheVariants as on_three
use Rattle.cf_script_words.specs.declared.commands.LongCommand.TheVariants as long
use Rattle.cf_script_words.specs.declared.commands.OtherCommand.TheVariants as other
use Rattle.cf_script_words.specs.declared.commands.PeerCommand.TheVariants as peer_word
use Rattle.cf_script_words.specs.declared.commands.OperationCommand.{OperationCommand}
use Rattle.cf_script_words.specs.declared.commands.OperationCommand.TheVariants as operation_word
use Rattle.cf_script_words.specs.Words.{IsNumber, IsKey, IsPlain, IsData, IsPath, escaped, plain_text}
use Rattle.cf_script_words.specs.Names.{command_name, operation_name, pin_name, reach_words, class_name, hydration_name, population_name, modifier_words, yes_name, good_name, link_name}
use Rattle.cf_script.specs.Modes.{is_foreign, is_for_engine, is_for_provider}
use Rattle.cf_script.specs.Forms.{Follows, AreWords, IsPlanKey}
use Rattle.cf_script_words.specs.Operations.{IsOperation}
use Rattle.cf_script.specs.Script.{lines_of, event_lines, AreEvents, Spells, is_event_line, IsScript}
use Rattle.cf_script.specs.Fits.{KeyFits, PathFits, CallFits, DeviceFits, PeerFits, EngineFits, OperationFits, PlanKeyFits, ProviderFits, CanSpell, CanSpellAll}
use Rattle.cf_script_words.specs.Texts.{key_text, in_sync_words, plan_key_text, line_of}
use Rattle.cf_script_print.specs.Printed.{key_of, operation_words}
use Rattle.cf_script_print.specs.Printed.{call_words, device_words, peer_words, engine_words, provider_words, event_words, printed}
use Rattle.cf_script_words.specs.Entries.{entry_words}
use Rattle.cf_script_words.proofs.WordTexts.{IsWord, AreAllWords, fixed, number_word, pair_word, data_word}
use Rattle.cf_script.proofs.LineTexts.{path_word, line_spells, line_counts, first_line, entries_written}

record Spelled (m : Mode) (ws : List (List ℕ)) (e : Event) : Type 0 where
  pub all : AreAllWords ws
  pub words : AreWords m ws e

command_word : (c : Command) → IsWord (command_name c)
command_word (command.Bare bare.Flush) = fixed (command_name (command.Bare bare.Flush)) refl
command_word (command.Bare bare.Df) = fixed (command_name (command.Bare bare.Df)) refl
command_word (command.Bare bare.Connect) = fixed (command_name (command.Bare bare.Connect)) refl
command_word (command.Bare bare.Disconnect) = fixed (command_name (command.Bare bare.Disconnect)) refl
command_word (command.Bare bare.Restart) = fixed (command_name (command.Bare bare.Restart)) refl
command_word (command.Bare bare.Work) = fixed (command_name (command.Bare bare.Work)) refl
command_word (command.Bare bare.Sync) = fixed (command_name (command.Bare bare.Sync)) refl
command_word (command.OnPath on_path.Open) = fixed (command_name (command.OnPath on_path.Open)) refl
command_word (command.OnPath on_path.Create) = fixed (command_name (command.OnPath on_path.Create)) refl
command_word (command.OnPath on_path.Mkdir) = fixed (command_name (command.OnPath on_path.Mkdir)) refl
command_word (command.OnPath on_path.Delete) = fixed (command_name (command.OnPath on_path.Delete)) refl
command_word (command.OnPath on_path.List) = fixed (command_name (command.OnPath on_path.List)) refl
command_word (command.OnPath on_path.Hydrate) = fixed (command_name (command.OnPath on_path.Hydrate)) refl
command_word (command.OnPath on_path.Info) = fixed (command_name (command.OnPath on_path.Info)) refl
command_word (command.OnPath on_path.Used) = fixed (command_name (command.OnPath on_path.Used)) refl
command_word (command.OnPath on_path.Revert) = fixed (command_name (command.OnPath on_path.Revert)) refl
command_word (command.OnPath on_path.Unmark) = fixed (command_name (command.OnPath on_path.Unmark)) refl
command_word (command.OnNumber on_number.Stop) = fixed (command_name (command.OnNumber on_number.Stop)) refl
command_word (command.OnNumber on_number.Deliver) = fixed (command_name (command.OnNumber on_number.Deliver)) refl
command_word (command.OnNumber on_number.Arrive) = fixed (command_name (command.OnNumber on_number.Arrive)) refl
command_word (command.OnNumber on_number.Space) = fixed (command_name (command.OnNumber on_number.Space)) refl
command_word (command.OnWord on_word.Close) = fixed (command_name (command.OnWord on_word.Close)) refl
command_word (command.OnWord on_word.Cancel) = fixed (command_name (command.OnWord on_word.Cancel)) refl
command_word (command.OnWord on_word.Tick) = fixed (command_name (command.OnWord on_word.Tick)) refl
command_word (command.OnThree on_three.Read) = fixed (command_name (command.OnThree on_three.Read)) refl
command_word (command.OnThree on_three.Get) = fixed (command_name (command.OnThree on_three.Get)) refl
command_word (command.OnThree on_three.Write) = fixed (command_name (command.OnThree on_three.Write)) refl
command_word (command.OnTwo on_two.Size) = fixed (command_name (command.OnTwo on_two.Size)) refl
command_word (command.OnTwo on_two.Rename) = fixed (command_name (command.OnTwo on_two.Rename)) refl
command_word (command.Long long.Pin) = fixed (command_name (command.Long long.Pin)) refl
command_word (command.Other other.Dehydrate) = fixed (command_name (command.Other other.Dehydrate)) refl
command_word (command.OnTwo on_two.Ranges) = fixed (command_name (command.OnTwo on_two.Ranges)) refl
command_word (command.Long long.Policy) = fixed (command_name (command.Long long.Policy)) refl
command_word (command.OnTwo on_two.Keep) = fixed (command_name (command.OnTwo on_two.Keep)) refl
command_word (command.Other other.Crash) = fixed (command_name (command.Other other.Crash)) refl
command_word (command.Other other.Peer) = fixed (command_name (command.Other other.Peer)) refl
command_word (command.OnWord on_word.Link) = fixed (command_name (command.OnWord on_word.Link)) refl
command_word (command.Other other.Place) = fixed (command_name (command.Other other.Place)) refl
command_word (command.Long long.PlaceDir) = fixed (command_name (command.Long long.PlaceDir)) refl
command_word (command.OnTwo on_two.Convert) = fixed (command_name (command.OnTwo on_two.Convert)) refl
command_word (command.Other other.Update) = fixed (command_name (command.Other other.Update)) refl
command_word (command.OnTwo on_two.Mark) = fixed (command_name (command.OnTwo on_two.Mark)) refl
command_word (command.Long long.Do) = fixed (command_name (command.Long long.Do)) refl
command_word (command.Long long.Plan) = fixed (command_name (command.Long long.Plan)) refl

made : (m : Mode) (c : Command) (ws : List (List ℕ)) (e : Event) → is_foreign m c ≡ false → Follows c ws e → AreAllWords ws → Spelled m (command_name c ∷ ws) e
made m c ws e here is all = record { all = (command_word c, all); words = (c, refl, here, is) }

shared : (m : Mode) (c : Command) → is_for_provider c ≡ false → is_for_engine c ≡ false → is_foreign m c ≡ false
shared mode.Replay c p e = p
shared mode.Filter c p e = e

-- the words of values
path_is : (path : List ℕ) → PathFits path → IsPath (escaped path) path
path_is path h = (h.0, h.1, refl)

key_is : (key : Key) → KeyFits key → IsKey (key_text key) key
key_is key h = (h.0, h.1, refl)

key_word : (key : Key) → KeyFits key → IsWord (key_text key)
key_word key h = pair_word key.epoch key.number h.0 h.1

number_is : (n : ℕ) → n < 2 ^ 32 → IsNumber (decimal n) n
number_is n h = (h, refl)

plain_is : (bytes : List ℕ) → IsBytes bytes → IsPlain (plain_text bytes) bytes
plain_is bytes h = (h, refl)

data_is : (bytes : List ℕ) → IsBytes bytes → IsData (plain_text bytes) bytes
unfolding IsData
data_is bytes h = inl (h, refl)

pin_word : (x : Pin) → IsWord (pin_name x)
pin_word pin.Unspecified = fixed (pin_name pin.Unspecified) refl
pin_word pin.Pinned = fixed (pin_name pin.Pinned) refl
pin_word pin.Unpinned = fixed (pin_name pin.Unpinned) refl
pin_word pin.Excluded = fixed (pin_name pin.Excluded) refl
pin_word pin.Inherit = fixed (pin_name pin.Inherit) refl

class_word : (x : Class) → IsWord (class_name x)
class_word class.OnDisk = fixed (class_name class.OnDisk) refl
class_word class.Validated = fixed (class_name class.Validated) refl
class_word class.Modified = fixed (class_name class.Modified) refl

hydration_word : (x : Hydration) → IsWord (hydration_name x)
hydration_word hydration.Partial = fixed (hydration_name hydration.Partial) refl
hydration_word hydration.Progressive = fixed (hydration_name hydration.Progressive) refl
hydration_word hydration.Full = fixed (hydration_name hydration.Full) refl
hydration_word hydration.AlwaysFull = fixed (hydration_name hydration.AlwaysFull) refl

population_word : (x : Population) → IsWord (population_name x)
population_word population.Partial = fixed (population_name population.Partial) refl
population_word population.Full = fixed (population_name population.Full) refl
population_word population.AlwaysFull = fixed (population_name population.AlwaysFull) refl

yes_word : (x : Bool) → IsWord (yes_name x)
yes_word true = fixed (yes_name true) refl
yes_word false = fixed (yes_name false) refl

good_word : (x : Bool) → IsWord (good_name x)
good_word true = fixed (good_name true) refl
good_word false = fixed (good_name false) refl

link_word : (x : Bool) → IsWord (link_name x)
link_word true = fixed (link_name true) refl
link_word false = fixed (link_name false) refl

reach_all : (r : Reach) → AreAllWords (reach_words r)
reach_all reach.One = tt
reach_all reach.Recurse = (fixed (codes "recurse") refl, tt)
reach_all reach.RecurseOnly = (fixed (codes "recurse-only") refl, tt)

in_sync_all : (b : Bool) → AreAllWords (in_sync_words b)
in_sync_all true = (fixed (codes "insync") refl, tt)
in_sync_all false = tt

modifiers_all : (a b c : Bool) → AreAllWords (modifier_words a b c)
modifiers_all true true true = (fixed (codes "validate") refl, (fixed (codes "restart") refl, (fixed (codes "auto") refl, tt)))
modifiers_all true true false = (fixed (codes "validate") refl, (fixed (codes "restart") refl, tt))
modifiers_all true false true = (fixed (codes "validate") refl, (fixed (codes "auto") refl, tt))
modifiers_all true false false = (fixed (codes "validate") refl, tt)
modifiers_all false true true = (fixed (codes "restart") refl, (fixed (codes "auto") refl, tt))
modifiers_all false true false = (fixed (codes "restart") refl, tt)
modifiers_all false false true = (fixed (codes "auto") refl, tt)
modifiers_all false false false = tt

call_back : (m : Mode) (c : Call) → CallFits c → Spelled m (call_words c) (event.Call c)
call_back m (call.Open path) h = made m (command.OnPath on_path.Open) _ _ (shared m _ refl refl) (path, path_is path h, refl) (path_word path h, tt)
call_back m (call.Close handle) h = made m (command.OnWord on_word.Close) _ _ (shared m _ refl refl) (handle.0, key_is handle.0 h, refl) (key_word handle.0 h, tt)
call_back m (call.Cancel wait) h = made m (command.OnWord on_word.Cancel) _ _ (shared m _ refl refl) (wait.0, key_is wait.0 h, refl) (key_word wait.0 h, tt)
call_back m (call.Tick ticks) h = made m (command.OnWord on_word.Tick) _ _ (shared m _ refl refl) (ticks, (number_is ticks h.0, h.1), refl) (number_word ticks h.0, tt)
call_back m (call.Read handle offset len) h = made m (command.OnThree on_three.Read) _ _ (shared m _ refl refl) (handle.0, offset, len, key_is handle.0 h.0, number_is offset h.1, number_is len h.2, refl) (key_word handle.0 h.0, (number_word offset h.1, (number_word len h.2, tt)))
call_back m (call.Get path offset len) h = made m (command.OnThree on_three.Get) _ _ (shared m _ refl refl) (path, offset, len, path_is path h.0, number_is offset h.1, number_is len h.2, refl) (path_word path h.0, (number_word offset h.1, (number_word len h.2, tt)))
call_back m (call.Write handle offset bytes) h = made m (command.OnThree on_three.Write) _ _ (shared m _ refl refl) (handle.0, offset, bytes, key_is handle.0 h.0, number_is offset h.1, data_is bytes h.2, refl) (key_word handle.0 h.0, (number_word offset h.1, (data_word bytes h.2, tt)))
call_back m (call.Size handle size) h = made m (command.OnTwo on_two.Size) _ _ (shared m _ refl refl) (handle.0, size, key_is handle.0 h.0, number_is size h.1, refl) (key_word handle.0 h.0, (number_word size h.1, tt))
call_back m call.Flush h = made m (command.Bare bare.Flush) _ _ (shared m _ refl refl) refl tt
call_back m (call.Create path) h = made m (command.OnPath on_path.Create) _ _ (shared m _ refl refl) (path, path_is path h, refl) (path_word path h, tt)
call_back m (call.Mkdir path) h = made m (command.OnPath on_path.Mkdir) _ _ (shared m _ refl refl) (path, path_is path h, refl) (path_word path h, tt)
call_back m (call.Delete path) h = made m (command.OnPath on_path.Delete) _ _ (shared m _ refl refl) (path, path_is path h, refl) (path_word path h, tt)
call_back m (call.List path) h = made m (command.OnPath on_path.List) _ _ (shared m _ refl refl) (path, path_is path h, refl) (path_word path h, tt)
call_back m (call.Hydrate path) h = made m (command.OnPath on_path.Hydrate) _ _ (shared m _ refl refl) (path, path_is path h, refl) (path_word path h, tt)
call_back m (call.Info path) h = made m (command.OnPath on_path.Info) _ _ (shared m _ refl refl) (path, path_is path h, refl) (path_word path h, tt)
call_back m (call.Used path) h = made m (command.OnPath on_path.Used) _ _ (shared m _ refl refl) (path, path_is path h, refl) (path_word path h, tt)
call_back m (call.Rename from to) h = made m (command.OnTwo on_two.Rename) _ _ (shared m _ refl refl) (from, to, path_is from h.0, path_is to h.1, refl) (path_word from h.0, (path_word to h.1, tt))
call_back m (call.Pin path p r) h = made m (command.Long long.Pin) _ _ (shared m _ refl refl) (path, p, r, path_is path h, refl, refl, refl) (path_word path h, (pin_word p, reach_all r))
call_back m (call.Dehydrate path None) h = made m (command.Other other.Dehydrate) _ _ (shared m _ refl refl) (path, path_is path h.0, refl) (path_word path h.0, tt)
call_back m (call.Dehydrate path (Some range)) h = made m (command.Other other.Dehydrate) _ _ (shared m _ refl refl) (path, range.0, range.1, path_is path h.0, number_is range.0 h.1.0, number_is range.1 h.1.1, refl) (path_word path h.0, (number_word range.0 h.1.0, (number_word range.1 h.1.1, tt)))
call_back m (call.Ranges path c) h = made m (command.OnTwo on_two.Ranges) _ _ (shared m _ refl refl) (path, c, path_is path h, refl, refl) (path_word path h, (class_word c, tt))
call_back m call.Df h = made m (command.Bare bare.Df) _ _ (shared m _ refl refl) refl tt
call_back m (call.Policy p) h = made m (command.Long long.Policy) _ _ (shared m _ refl refl) (p.hydration, p.population, (p.validate, p.restart, p.auto), refl, refl, refl, refl) (hydration_word p.hydration, (population_word p.population, modifiers_all p.validate p.restart p.auto))
call_back m (call.Keep path on) h = made m (command.OnTwo on_two.Keep) _ _ (shared m _ refl refl) (path, on, path_is path h, refl, refl) (path_word path h, (yes_word on, tt))
call_back m (call.Connect true) h = made m (command.Bare bare.Connect) _ _ (shared m _ refl refl) refl tt
call_back m (call.Connect false) h = made m (command.Bare bare.Disconnect) _ _ (shared m _ refl refl) refl tt

device_back : (m : Mode) (d : DeviceEvent) → DeviceFits d → Spelled m (device_words d) (event.Device d)
device_back m (device.Stop calls) h = made m (command.OnNumber on_number.Stop) _ _ (shared m _ refl refl) (calls, number_is calls h, refl) (number_word calls h, tt)
device_back m (device.Crash choice.Keep) h = made m (command.Other other.Crash) _ _ (shared m _ refl refl) (true, refl, refl) (fixed (codes "keep") refl, tt)
device_back m (device.Crash choice.Drop) h = made m (command.Other other.Crash) _ _ (shared m _ refl refl) (false, refl, refl) (fixed (codes "drop") refl, tt)
device_back m (device.Crash (choice.Mix seed)) h = made m (command.Other other.Crash) _ _ (shared m _ refl refl) (seed, refl, number_is seed h, refl) (fixed (codes "mix") refl, (number_word seed h, tt))
device_back m device.Restart h = made m (command.Bare bare.Restart) _ _ (shared m _ refl refl) refl tt

peer_back : (p : PeerEvent) → PeerFits p → Spelled mode.Replay (codes "peer" ∷ peer_words p) (event.Peer p)
peer_back (peer.Put path bytes) h = made mode.Replay (command.Other other.Peer) _ _ refl (peer_word.Put, refl, (path, bytes, path_is path h.0, data_is bytes h.1, refl)) (fixed (codes "put") refl, (path_word path h.0, (data_word bytes h.1, tt)))
peer_back (peer.MakeDir path) h = made mode.Replay (command.Other other.Peer) _ _ refl (peer_word.Mkdir, refl, (path, path_is path h, refl)) (fixed (codes "mkdir") refl, (path_word path h, tt))
peer_back (peer.Move from to) h = made mode.Replay (command.Other other.Peer) _ _ refl (peer_word.Move, refl, (from, to, path_is from h.0, path_is to h.1, refl)) (fixed (codes "move") refl, (path_word from h.0, (path_word to h.1, tt)))
peer_back (peer.Remove path) h = made mode.Replay (command.Other other.Peer) _ _ refl (peer_word.Remove, refl, (path, path_is path h, refl)) (fixed (codes "remove") refl, (path_word path h, tt))
peer_back (peer.Stat path) h = made mode.Replay (command.Other other.Peer) _ _ refl (peer_word.Stat, refl, (path, path_is path h, refl)) (fixed (codes "stat") refl, (path_word path h, tt))
peer_back (peer.Keep count) h = made mode.Replay (command.Other other.Peer) _ _ refl (peer_word.Keep, refl, (count, (number_is count h.0, h.1), refl)) (fixed (codes "keep") refl, (number_word count h.0, tt))

engine_back : (e : EngineEvent) → EngineFits e → Spelled mode.Replay (engine_words e) (event.Engine e)
engine_back (engine.Link inline) h = made mode.Replay (command.OnWord on_word.Link) _ _ refl (inline, refl, refl) (link_word inline, tt)
engine_back (engine.Arrive message) h = made mode.Replay (command.OnNumber on_number.Arrive) _ _ refl (message, number_is message h, refl) (number_word message h, tt)
engine_back (engine.Deliver message) h = made mode.Replay (command.OnNumber on_number.Deliver) _ _ refl (message, number_is message h, refl) (number_word message h, tt)
engine_back engine.Work h = made mode.Replay (command.Bare bare.Work) _ _ refl refl tt
engine_back engine.Sync h = made mode.Replay (command.Bare bare.Sync) _ _ refl refl tt
engine_back (engine.Space blocks) h = made mode.Replay (command.OnNumber on_number.Space) _ _ refl (blocks, number_is blocks h, refl) (number_word blocks h, tt)

-- an operation is its word, a key and the rest
record InParts (op : Operation) : Type 0 where
  pub word : OperationCommand
  pub rest : List (List ℕ)
  pub shape : (k : List ℕ) → operation_words k op ≡ operation_name word ∷ k ∷ rest
  pub first : IsWord (operation_name word)
  pub all : AreAllWords rest
  pub is : IsOperation word (key_of op) rest op

in_parts : (op : Operation) → OperationFits op → InParts op
in_parts (operation.Transfer key at bytes) h = record { word = operation_word.Transfer; rest = decimal at ∷ plain_text bytes ∷ []; shape = λ k. refl; first = fixed (codes "transfer") refl; all = (number_word at h.0, (data_word bytes h.1, tt)); is = (at, bytes, number_is at h.0, data_is bytes h.1, refl) }
in_parts (operation.Refuse key span status) h = record { word = operation_word.Fail; rest = decimal span.start ∷ decimal span.len ∷ decimal status ∷ []; shape = λ k. refl; first = fixed (codes "fail") refl; all = (number_word span.start h.0.0, (number_word span.len h.0.1, (number_word status h.1, tt))); is = (span.start, span.len, status, number_is span.start h.0.0, number_is span.len h.0.1, number_is status h.1, refl) }
in_parts (operation.Retrieve key span) h = record { word = operation_word.Retrieve; rest = decimal span.start ∷ decimal span.len ∷ []; shape = λ k. refl; first = fixed (codes "retrieve") refl; all = (number_word span.start h.0, (number_word span.len h.1, tt)); is = (span.start, span.len, number_is span.start h.0, number_is span.len h.1, refl) }
in_parts (operation.Ack key span good) h = record { word = operation_word.Ack; rest = decimal span.start ∷ decimal span.len ∷ good_name good ∷ []; shape = λ k. refl; first = fixed (codes "ack") refl; all = (number_word span.start h.0, (number_word span.len h.1, (good_word good, tt))); is = (span.start, span.len, good, number_is span.start h.0, number_is span.len h.1, refl, refl) }
in_parts (operation.Restart key) h = record { word = operation_word.Rehydrate; rest = []; shape = λ k. refl; first = fixed (codes "rehydrate") refl; all = tt; is = refl }
in_parts (operation.Entries key list good) h =
    let written = entries_written list h.0 in
    record { word = operation_word.Entries; rest = good_name good ∷ entry_words list; shape = λ k. refl; first = fixed (codes "entries") refl; all = (good_word good, written.0); is = (good, list, refl, (λ e. ap entry_words (h.1 e)), written.1, refl) }
in_parts (operation.AckDehydrate key good) h = record { word = operation_word.AckDehydrate; rest = good_name good ∷ []; shape = λ k. refl; first = fixed (codes "ackdehydrate") refl; all = (good_word good, tt); is = (good, refl, refl) }

do_back : (op : Operation) → KeyFits (key_of op) → OperationFits op → Spelled mode.Filter (codes "do" ∷ operation_words (key_text (key_of op)) op) (event.Provider (provider.Do op))
do_back op k h =
    let parts = in_parts op h in
    subst (λ ws. Spelled mode.Filter (codes "do" ∷ ws) (event.Provider (provider.Do op))) (sym (parts.shape (key_text (key_of op))))
    (made mode.Filter (command.Long long.Do) _ _ refl (parts.word, key_of op, refl, key_is (key_of op) k, (op, parts.is, refl)) (parts.first, (key_word (key_of op) k, parts.all)))

plan_key : (own : Bool) (key : Key) → PlanKeyFits own key → IsWord (plan_key_text own key) × IsPlanKey (plan_key_text own key) (own, key)
plan_key true key h = (fixed (codes "self") refl, (refl, h))
plan_key false key h = (key_word key h, key_is key h)

plan_back : (own : Bool) (op : Operation) → PlanKeyFits own (key_of op) → OperationFits op → Spelled mode.Filter (codes "plan" ∷ operation_words (plan_key_text own (key_of op)) op) (event.Provider (provider.Plan own op))
plan_back own op k h =
    let parts = in_parts op h in
    let key = plan_key own (key_of op) k in
    subst (λ ws. Spelled mode.Filter (codes "plan" ∷ ws) (event.Provider (provider.Plan own op))) (sym (parts.shape (plan_key_text own (key_of op))))
    (made mode.Filter (command.Long long.Plan) _ _ refl (parts.word, (own, key_of op), refl, key.1, (op, parts.is, refl)) (parts.first, (key.0, parts.all)))

provider_back : (p : ProviderEvent) → ProviderFits p → Spelled mode.Filter (provider_words p) (event.Provider p)
provider_back (provider.Place path size identity in_sync) h = made mode.Filter (command.Other other.Place) _ _ refl (path, size, identity, in_sync, path_is path h.0, number_is size h.1, plain_is identity h.2, refl, refl) (path_word path h.0, (number_word size h.1, (data_word identity h.2, in_sync_all in_sync)))
provider_back (provider.PlaceDir path identity in_sync) h = made mode.Filter (command.Long long.PlaceDir) _ _ refl (path, identity, in_sync, path_is path h.0, plain_is identity h.1, refl, refl) (path_word path h.0, (data_word identity h.1, in_sync_all in_sync))
provider_back (provider.Convert path identity) h = made mode.Filter (command.OnTwo on_two.Convert) _ _ refl (path, identity, path_is path h.0, plain_is identity h.1, refl) (path_word path h.0, (data_word identity h.1, tt))
provider_back (provider.Revert path) h = made mode.Filter (command.OnPath on_path.Revert) _ _ refl (path, path_is path h, refl) (path_word path h, tt)
provider_back (provider.Update path identity None) h = made mode.Filter (command.Other other.Update) _ _ refl (path, identity, path_is path h.0, plain_is identity h.1, refl) (path_word path h.0, (data_word identity h.1, tt))
provider_back (provider.Update path identity (Some size)) h = made mode.Filter (command.Other other.Update) _ _ refl (path, identity, size, path_is path h.0, plain_is identity h.1, number_is size h.2, refl) (path_word path h.0, (data_word identity h.1, (number_word size h.2, tt)))
provider_back (provider.Mark path number) h = made mode.Filter (command.OnTwo on_two.Mark) _ _ refl (path, number, path_is path h.0, (h.1, h.2, refl), refl) (path_word path h.0, (pair_word number.epoch number.place h.1 h.2, tt))
provider_back (provider.Unmark path) h = made mode.Filter (command.OnPath on_path.Unmark) _ _ refl (path, path_is path h, refl) (path_word path h, tt)
provider_back (provider.Do op) h = do_back op h.0 h.1
provider_back (provider.Plan own op) h = plan_back own op h.0 h.1

event_back : (m : Mode) (e : Event) → CanSpell m e → Spelled m (event_words e) e
event_back m (event.Call c) h = call_back m c h.1
event_back m (event.Device d) h = device_back m d h.1
event_back mode.Replay (event.Peer p) h = peer_back p h.1
event_back mode.Filter (event.Peer p) h = absurd (let k : false ≡ true = h.0 in cc)
event_back mode.Replay (event.Engine e) h = engine_back e h.1
event_back mode.Filter (event.Engine e) h = absurd (let k : false ≡ true = h.0 in cc)
event_back mode.Filter (event.Provider p) h = provider_back p h.1
event_back mode.Replay (event.Provider p) h = absurd (let k : false ≡ true = h.0 in cc)

line_back : (m : Mode) (ws : List (List ℕ)) (e : Event) → Spelled m ws e → Spells m (line_of ws) e × (is_event_line (line_of ws) ≡ true)
line_back m [] e h = absurd h.words
line_back m (w ∷ ws) e h = (line_spells m w ws e h.all h.words, line_counts m w ws e h.words)

events_back : (m : Mode) (es : List Event) → CanSpellAll m es → AreEvents m (event_lines (lines_of (printed es))) es
events_back m [] h = tt
events_back m (e ∷ es) h =
    let line = line_back m (event_words e) e (event_back m e h.0) in
    rw (first_line (line_of (event_words e)) (printed es) line.0.plain, line.1) (line.0, events_back m es h.1)

pub script_back : (m : Mode) (es : List Event) → CanSpellAll m es → length es ≤ 100000 → IsScript m (printed es) es
script_back m es h few = (events_back m es h, few)
