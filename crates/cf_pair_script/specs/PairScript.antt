-- A script of two devices and the events that it spells.
use Rattle.std.specs.Prelude.{◌≡◌, ℕ, ◌≤◌, ◌==◌, Bool, true, false, cond, codes, bytes_eq, List, [], ◌∷◌, length, Option, Some, None, option_map}
use Rattle.cf_base.specs.declared.events.Event.{Event}
use Rattle.cf_base.specs.declared.events.Event.TheVariants as event
use Rattle.cf_base.specs.declared.events.PeerEvent.{PeerEvent}
use Rattle.cf_base.specs.declared.policies.Mode.TheVariants as mode
use Rattle.cf_pair_events.specs.OfDevices.{is_of_device}
use Rattle.cf_pair_events.specs.declared.events.PairEvent.{PairEvent}
use Rattle.cf_pair_events.specs.declared.events.PairEvent.TheVariants as pair
use Rattle.cf_pair_model.specs.declared.devices.Device.{Device}
use Rattle.cf_pair_model.specs.declared.devices.Device.TheVariants as device
use Rattle.cf_script.specs.Script as script
use Rattle.cf_script.specs.Script.{event_lines, lines_of}
use Rattle.cf_script.specs.declared.scripts.TheConstants.{MOST_EVENTS}

-- the device whose digit this is
abbrev pub named : ℕ → Option Device
named digit = cond (digit == 49) (Some device.First) (cond (digit == 50) (Some device.Second) None)

-- a line of one device has its digit, a space, and the text of the event
abbrev pub parts_of : List ℕ → Option (Device × List ℕ)
parts_of (digit ∷ space ∷ text) = cond (space == 32) (option_map (λ d. (d, text)) (named digit)) None
parts_of (digit ∷ []) = None
parts_of [] = None

abbrev pub peer_of : Event → Option PeerEvent
peer_of (event.Peer e) = Some e
peer_of (event.Call c) = None
peer_of (event.Device e) = None
peer_of (event.Engine e) = None
peer_of (event.Provider e) = None

abbrev pub is_compare : List ℕ → Bool
is_compare line = bytes_eq line (codes "compare")

-- the text after the digit and the space spells the event
abbrev pub SpellsOf : Device → List ℕ → PairEvent → Type 0
SpellsOf d text (pair.Of whose e) = (whose ≡ d) × script.Spells mode.Replay text e × (is_of_device e ≡ true)
SpellsOf d text (pair.Peer e) = ⊥
SpellsOf d text pair.Compare = ⊥

-- the line spells an event of no one device
abbrev pub SpellsShared : List ℕ → PairEvent → Type 0
SpellsShared line (pair.Of d e) = ⊥
SpellsShared line (pair.Peer e) = (is_compare line ≡ false) × script.Spells mode.Replay line (event.Peer e)
SpellsShared line pair.Compare = is_compare line ≡ true

abbrev pub SpellsBy : Option (Device × List ℕ) → List ℕ → PairEvent → Type 0
SpellsBy None line e = SpellsShared line e
SpellsBy (Some part) line e = SpellsOf part.0 part.1 e

-- the line spells the event
abbrev pub Spells : List ℕ → PairEvent → Type 0
Spells line e = SpellsBy (parts_of line) line e

-- the lines spell the events, one by one
abbrev pub AreEvents : List (List ℕ) → List PairEvent → Type 0
AreEvents [] [] = Unit {0}
AreEvents (line ∷ lines) (e ∷ es) = Spells line e × AreEvents lines es
AreEvents [] (e ∷ es) = ⊥
AreEvents (line ∷ lines) [] = ⊥

-- the text spells the events
abbrev pub IsScript : List ℕ → List PairEvent → Type 0
IsScript text events = AreEvents (event_lines (lines_of text)) events × (length events ≤ MOST_EVENTS)
