-- The lines of a script: what follows the first word, and the event that the line then spells.
use Rattle.std.specs.Prelude.{◌≡◌, ℕ, Bool, true, false, List, [], ◌∷◌, codes, Some, None}
use Rattle.cf_base.specs.declared.ids.Key.{Key}
use Rattle.cf_base.specs.declared.ids.Usn.{Usn}
use Rattle.cf_base.specs.declared.items.Pin.{Pin}
use Rattle.cf_base.specs.declared.items.Reach.{Reach}
use Rattle.cf_base.specs.declared.policies.Class.{Class}
use Rattle.cf_base.specs.declared.policies.Hydration.{Hydration}
use Rattle.cf_base.specs.declared.policies.Population.{Population}
use Rattle.cf_base.specs.declared.policies.Mode.{Mode}
use Rattle.cf_base.specs.declared.policies.Choice.{Choice}
use Rattle.cf_base.specs.declared.policies.Choice.TheVariants as choice
use Rattle.cf_base.specs.declared.operations.Operation.{Operation}
use Rattle.cf_base.specs.declared.calls.Call.TheVariants as call
use Rattle.cf_base.specs.declared.events.DeviceEvent.TheVariants as device
use Rattle.cf_base.specs.declared.events.PeerEvent.TheVariants as peer
use Rattle.cf_base.specs.declared.events.EngineEvent.TheVariants as engine
use Rattle.cf_base.specs.declared.events.ProviderEvent.TheVariants as provider
use Rattle.cf_base.specs.declared.events.Event.{Event}
use Rattle.cf_base.specs.declared.events.Event.TheVariants.{Call, Device, Peer, Engine, Provider}
use Rattle.cf_script_words.specs.declared.commands.Command.{Command}
use Rattle.cf_script_words.specs.declared.commands.Command.TheVariants as command
use Rattle.cf_script_words.specs.declared.commands.BareCommand.{BareCommand}
use Rattle.cf_script_words.specs.declared.commands.BareCommand.TheVariants as bare
use Rattle.cf_script_words.specs.declared.commands.PathCommand.{PathCommand}
use Rattle.cf_script_words.specs.declared.commands.PathCommand.TheVariants as on_path
use Rattle.cf_script_words.specs.declared.commands.NumberCommand.{NumberCommand}
use Rattle.cf_script_words.specs.declared.commands.NumberCommand.TheVariants as on_number
use Rattle.cf_script_words.specs.declared.commands.WordCommand.{WordCommand}
use Rattle.cf_script_words.specs.declared.commands.WordCommand.TheVariants as on_word
use Rattle.cf_script_words.specs.declared.commands.TwoWordCommand.{TwoWordCommand}
use Rattle.cf_script_words.specs.declared.commands.TwoWordCommand.TheVariants as on_two
use Rattle.cf_script_words.specs.declared.commands.ThreeWordCommand.{ThreeWordCommand}
use Rattle.cf_script_words.specs.declared.commands.ThreeWordCommand.TheVariants as on_three
use Rattle.cf_script_words.specs.declared.commands.LongCommand.{LongCommand}
use Rattle.cf_script_words.specs.declared.commands.LongCommand.TheVariants as long
use Rattle.cf_script_words.specs.declared.commands.OtherCommand.{OtherCommand}
use Rattle.cf_script_words.specs.declared.commands.OtherCommand.TheVariants as other
use Rattle.cf_script_words.specs.declared.commands.PeerCommand.{PeerCommand}
use Rattle.cf_script_words.specs.declared.commands.PeerCommand.TheVariants as peer_word
use Rattle.cf_script_words.specs.declared.commands.OperationCommand.{OperationCommand}
use Rattle.cf_script_words.specs.Words.{IsNumber, IsPositive, IsKey, IsUsn, IsPlain, IsData, IsPath}
use Rattle.cf_script_words.specs.Names.{command_name, peer_name, operation_name, pin_name, reach_words, class_name, hydration_name, population_name, modifier_words, flag_words, yes_name, link_name, kept_name}
use Rattle.cf_script_words.specs.Shapes.{OfOne, OfTwo, OfThree, OfTwoOrMore}
use Rattle.cf_script_words.specs.Operations.{IsOperation}
use Rattle.cf_script.specs.Modes.{is_foreign}

-- words that stand alone
abbrev pub bare_event : BareCommand → Event
bare_event bare.Flush = Call call.Flush
bare_event bare.Df = Call call.Df
bare_event bare.Connect = Call (call.Connect true)
bare_event bare.Disconnect = Call (call.Connect false)
bare_event bare.Restart = Device device.Restart
bare_event bare.Work = Engine engine.Work
bare_event bare.Sync = Engine engine.Sync

-- one path
abbrev pub path_event : PathCommand → List ℕ → Event
path_event on_path.Open path = Call (call.Open path)
path_event on_path.Create path = Call (call.Create path)
path_event on_path.Mkdir path = Call (call.Mkdir path)
path_event on_path.Delete path = Call (call.Delete path)
path_event on_path.List path = Call (call.List path)
path_event on_path.Hydrate path = Call (call.Hydrate path)
path_event on_path.Info path = Call (call.Info path)
path_event on_path.Used path = Call (call.Used path)
path_event on_path.Revert path = Provider (provider.Revert path)
path_event on_path.Unmark path = Provider (provider.Unmark path)

-- one number
abbrev pub number_event : NumberCommand → ℕ → Event
number_event on_number.Stop n = Device (device.Stop n)
number_event on_number.Deliver n = Engine (engine.Deliver n)
number_event on_number.Arrive n = Engine (engine.Arrive n)
number_event on_number.Space n = Engine (engine.Space n)

abbrev pub IsBareLine : BareCommand → List (List ℕ) → Event → Type 0
IsBareLine c [] e = e ≡ bare_event c
IsBareLine c (w ∷ ws) e = ⊥

abbrev pub IsPathLine : PathCommand → List ℕ → Event → Type 0
IsPathLine c p e = (path : List ℕ) × IsPath p path × (e ≡ path_event c path)

abbrev pub IsNumberLine : NumberCommand → List ℕ → Event → Type 0
IsNumberLine c w e = (n : ℕ) × IsNumber w n × (e ≡ number_event c n)

-- `close H`
abbrev pub IsClose : List ℕ → Event → Type 0
IsClose h e = (key : Key) × IsKey h key × (e ≡ Call (call.Close (record { 0 = key })))

-- `cancel W`
abbrev pub IsCancel : List ℕ → Event → Type 0
IsCancel w e = (key : Key) × IsKey w key × (e ≡ Call (call.Cancel (record { 0 = key })))

-- `tick NUM`
abbrev pub IsTick : List ℕ → Event → Type 0
IsTick w e = (n : ℕ) × IsPositive w n × (e ≡ Call (call.Tick n))

-- `link inline` or `link queued`
abbrev pub IsLink : List ℕ → Event → Type 0
IsLink l e = (inline : Bool) × (l ≡ link_name inline) × (e ≡ Engine (engine.Link inline))

-- `read H OFF LEN`
abbrev pub IsReadLine : List ℕ → List ℕ → List ℕ → Event → Type 0
IsReadLine h o l e = (key : Key) × (offset len : ℕ) × IsKey h key × IsNumber o offset × IsNumber l len × (e ≡ Call (call.Read (record { 0 = key }) offset len))

-- `get P OFF LEN`
abbrev pub IsGet : List ℕ → List ℕ → List ℕ → Event → Type 0
IsGet p o l e = (path : List ℕ) × (offset len : ℕ) × IsPath p path × IsNumber o offset × IsNumber l len × (e ≡ Call (call.Get path offset len))

-- `write H OFF DATA`
abbrev pub IsWrite : List ℕ → List ℕ → List ℕ → Event → Type 0
IsWrite h o d e = (key : Key) × (offset : ℕ) × (bytes : List ℕ) × IsKey h key × IsNumber o offset × IsData d bytes × (e ≡ Call (call.Write (record { 0 = key }) offset bytes))

-- `size H NUM`
abbrev pub IsSize : List ℕ → List ℕ → Event → Type 0
IsSize h n e = (key : Key) × (size : ℕ) × IsKey h key × IsNumber n size × (e ≡ Call (call.Size (record { 0 = key }) size))

-- `rename P P`
abbrev pub IsRename : List ℕ → List ℕ → Event → Type 0
IsRename p q e = (from to : List ℕ) × IsPath p from × IsPath q to × (e ≡ Call (call.Rename from to))

-- `ranges P CLASS`
abbrev pub IsRanges : List ℕ → List ℕ → Event → Type 0
IsRanges p c e = (path : List ℕ) × (class : Class) × IsPath p path × (c ≡ class_name class) × (e ≡ Call (call.Ranges path class))

-- `keep P yes` or `keep P no`
abbrev pub IsKeep : List ℕ → List ℕ → Event → Type 0
IsKeep p y e = (path : List ℕ) × (on : Bool) × IsPath p path × (y ≡ yes_name on) × (e ≡ Call (call.Keep path on))

-- `convert P IDENT`
abbrev pub IsConvert : List ℕ → List ℕ → Event → Type 0
IsConvert p i e = (path identity : List ℕ) × IsPath p path × IsPlain i identity × (e ≡ Provider (provider.Convert path identity))

-- `mark P PAIR`
abbrev pub IsMark : List ℕ → List ℕ → Event → Type 0
IsMark p u e = (path : List ℕ) × (number : Usn) × IsPath p path × IsUsn u number × (e ≡ Provider (provider.Mark path number))

-- `pin P STATE`, with a reach after it or none
abbrev pub IsPinLine : List ℕ → List ℕ → List (List ℕ) → Event → Type 0
IsPinLine p s r e = (path : List ℕ) × (pin : Pin) × (reach : Reach) × IsPath p path × (s ≡ pin_name pin) × (r ≡ reach_words reach) × (e ≡ Call (call.Pin path pin reach))

-- `policy HYD POP`, and the modifiers that are set
abbrev pub IsPolicyLine : List ℕ → List ℕ → List (List ℕ) → Event → Type 0
IsPolicyLine h p ms e = (hydration : Hydration) × (population : Population) × (m : Bool × Bool × Bool) × (h ≡ hydration_name hydration) × (p ≡ population_name population) × (ms ≡ modifier_words m.0 m.1 m.2)
    × (e ≡ Call (call.Policy (record { hydration = hydration; population = population; validate = m.0; restart = m.1; auto = m.2 })))

-- `placedir P IDENT`, with `insync` after it or not
abbrev pub IsPlaceDir : List ℕ → List ℕ → List (List ℕ) → Event → Type 0
IsPlaceDir p i f e = (path identity : List ℕ) × (in_sync : Bool) × IsPath p path × IsPlain i identity × (f ≡ flag_words (codes "insync") in_sync) × (e ≡ Provider (provider.PlaceDir path identity in_sync))

-- `dehydrate P`, or with `OFF LEN`
abbrev pub IsDehydrate : List (List ℕ) → Event → Type 0
IsDehydrate (p ∷ []) e = (path : List ℕ) × IsPath p path × (e ≡ Call (call.Dehydrate path None))
IsDehydrate (p ∷ o ∷ l ∷ []) e = (path : List ℕ) × (offset len : ℕ) × IsPath p path × IsNumber o offset × IsNumber l len × (e ≡ Call (call.Dehydrate path (Some (offset, len))))
IsDehydrate ws e = ⊥

-- a power cut that leaves all, or nothing
abbrev pub kept : Bool → Choice
kept true = choice.Keep
kept false = choice.Drop

-- `crash keep`, `crash drop` or `crash mix NUM`
abbrev pub IsCrash : List (List ℕ) → Event → Type 0
IsCrash (c ∷ []) e = (all : Bool) × (c ≡ kept_name all) × (e ≡ Device (device.Crash (kept all)))
IsCrash (c ∷ n ∷ []) e = (seed : ℕ) × (c ≡ codes "mix") × IsNumber n seed × (e ≡ Device (device.Crash (choice.Mix seed)))
IsCrash ws e = ⊥

-- what follows the word after `peer`
abbrev pub IsPeerWord : PeerCommand → List ℕ → Event → Type 0
IsPeerWord peer_word.Mkdir p e = (path : List ℕ) × IsPath p path × (e ≡ Peer (peer.MakeDir path))
IsPeerWord peer_word.Remove p e = (path : List ℕ) × IsPath p path × (e ≡ Peer (peer.Remove path))
IsPeerWord peer_word.Stat p e = (path : List ℕ) × IsPath p path × (e ≡ Peer (peer.Stat path))
IsPeerWord peer_word.Keep n e = (count : ℕ) × IsPositive n count × (e ≡ Peer (peer.Keep count))
IsPeerWord c w e = ⊥

abbrev pub IsPeerPair : PeerCommand → List ℕ → List ℕ → Event → Type 0
IsPeerPair peer_word.Put p d e = (path bytes : List ℕ) × IsPath p path × IsData d bytes × (e ≡ Peer (peer.Put path bytes))
IsPeerPair peer_word.Move p q e = (from to : List ℕ) × IsPath p from × IsPath q to × (e ≡ Peer (peer.Move from to))
IsPeerPair c v w e = ⊥

abbrev pub IsPeerEvent : PeerCommand → List (List ℕ) → Event → Type 0
IsPeerEvent c (a ∷ []) e = IsPeerWord c a e
IsPeerEvent c (a ∷ b ∷ []) e = IsPeerPair c a b e
IsPeerEvent c ws e = ⊥

abbrev pub IsPeer : List (List ℕ) → Event → Type 0
IsPeer [] e = ⊥
IsPeer (w ∷ ws) e = (c : PeerCommand) × (w ≡ peer_name c) × IsPeerEvent c ws e

-- `place P NUM IDENT`, with `insync` after it or not
abbrev pub IsPlace : List (List ℕ) → Event → Type 0
IsPlace (p ∷ n ∷ i ∷ f) e = (path : List ℕ) × (size : ℕ) × (identity : List ℕ) × (in_sync : Bool) × IsPath p path × IsNumber n size × IsPlain i identity × (f ≡ flag_words (codes "insync") in_sync) × (e ≡ Provider (provider.Place path size identity in_sync))
IsPlace ws e = ⊥

-- `update P IDENT`, or with a size
abbrev pub IsUpdate : List (List ℕ) → Event → Type 0
IsUpdate (p ∷ i ∷ []) e = (path identity : List ℕ) × IsPath p path × IsPlain i identity × (e ≡ Provider (provider.Update path identity None))
IsUpdate (p ∷ i ∷ n ∷ []) e = (path identity : List ℕ) × (size : ℕ) × IsPath p path × IsPlain i identity × IsNumber n size × (e ≡ Provider (provider.Update path identity (Some size)))
IsUpdate ws e = ⊥

-- `do OP`
abbrev pub IsDone : OperationCommand → Key → List (List ℕ) → Event → Type 0
IsDone c key ws e = (op : Operation) × IsOperation c key ws op × (e ≡ Provider (provider.Do op))

abbrev pub IsDo : List ℕ → List ℕ → List (List ℕ) → Event → Type 0
IsDo w k ws e = (c : OperationCommand) × (key : Key) × (w ≡ operation_name c) × IsKey k key × IsDone c key ws e

-- in a plan `self` stands for the key of the callback, and is 0.0 in the event
abbrev pub IsKeyOf : Bool → List ℕ → Key → Type 0
IsKeyOf true word key = (word ≡ codes "self") × (key ≡ record { epoch = 0; number = 0 })
IsKeyOf false word key = IsKey word key

abbrev pub IsPlanKey : List ℕ → Bool × Key → Type 0
IsPlanKey word p = IsKeyOf p.0 word p.1

-- `plan OP`
abbrev pub IsPlanned : OperationCommand → Bool × Key → List (List ℕ) → Event → Type 0
IsPlanned c p ws e = (op : Operation) × IsOperation c p.1 ws op × (e ≡ Provider (provider.Plan p.0 op))

abbrev pub IsPlan : List ℕ → List ℕ → List (List ℕ) → Event → Type 0
IsPlan w k ws e = (c : OperationCommand) × (p : Bool × Key) × (w ≡ operation_name c) × IsPlanKey k p × IsPlanned c p ws e

-- the words after the first one, and the event
abbrev pub IsWordLine : WordCommand → List ℕ → Event → Type 0
IsWordLine on_word.Close w e = IsClose w e
IsWordLine on_word.Cancel w e = IsCancel w e
IsWordLine on_word.Tick w e = IsTick w e
IsWordLine on_word.Link w e = IsLink w e

abbrev pub IsTwoWordLine : TwoWordCommand → List ℕ → List ℕ → Event → Type 0
IsTwoWordLine on_two.Size v w e = IsSize v w e
IsTwoWordLine on_two.Rename v w e = IsRename v w e
IsTwoWordLine on_two.Ranges v w e = IsRanges v w e
IsTwoWordLine on_two.Keep v w e = IsKeep v w e
IsTwoWordLine on_two.Convert v w e = IsConvert v w e
IsTwoWordLine on_two.Mark v w e = IsMark v w e

abbrev pub IsThreeWordLine : ThreeWordCommand → List ℕ → List ℕ → List ℕ → Event → Type 0
IsThreeWordLine on_three.Read u v w e = IsReadLine u v w e
IsThreeWordLine on_three.Get u v w e = IsGet u v w e
IsThreeWordLine on_three.Write u v w e = IsWrite u v w e

abbrev pub IsLongLine : LongCommand → List ℕ → List ℕ → List (List ℕ) → Event → Type 0
IsLongLine long.Pin v w ws e = IsPinLine v w ws e
IsLongLine long.Policy v w ws e = IsPolicyLine v w ws e
IsLongLine long.PlaceDir v w ws e = IsPlaceDir v w ws e
IsLongLine long.Do v w ws e = IsDo v w ws e
IsLongLine long.Plan v w ws e = IsPlan v w ws e

abbrev pub IsOtherLine : OtherCommand → List (List ℕ) → Event → Type 0
IsOtherLine other.Dehydrate ws e = IsDehydrate ws e
IsOtherLine other.Crash ws e = IsCrash ws e
IsOtherLine other.Peer ws e = IsPeer ws e
IsOtherLine other.Place ws e = IsPlace ws e
IsOtherLine other.Update ws e = IsUpdate ws e

abbrev pub Follows : Command → List (List ℕ) → Event → Type 0
Follows (command.Bare c) ws e = IsBareLine c ws e
Follows (command.OnPath c) ws e = OfOne (IsPathLine c) ws e
Follows (command.OnNumber c) ws e = OfOne (IsNumberLine c) ws e
Follows (command.OnWord c) ws e = OfOne (IsWordLine c) ws e
Follows (command.OnTwo c) ws e = OfTwo (IsTwoWordLine c) ws e
Follows (command.OnThree c) ws e = OfThree (IsThreeWordLine c) ws e
Follows (command.Long c) ws e = OfTwoOrMore (IsLongLine c) ws e
Follows (command.Other c) ws e = IsOtherLine c ws e

-- the words spell an event that the mode has
abbrev pub AreWords : Mode → List (List ℕ) → Event → Type 0
AreWords mode [] e = ⊥
AreWords mode (w ∷ ws) e = (c : Command) × (w ≡ command_name c) × (is_foreign mode c ≡ false) × Follows c ws e
