-- Each event of a script may be played.
use Rattle.std.proofs.Common.{◌≡◌, ◌&&◌, ℕ, Bool, true, false, List, [], ◌∷◌, refl}
use Rattle.std.specs.Prelude.{Option, Some, None}
use Rattle.std.specs.List.{list_all}
use Rattle.cf_pair_events.specs.declared.events.PairEvent.{PairEvent}
use Rattle.cf_pair_events.specs.declared.events.PairEvent.TheVariants as pair
use Rattle.cf_pair_model.specs.declared.devices.Device.{Device}
use Rattle.cf_pair_script.specs.PairScript.{AreEvents, IsScript, SpellsBy, parts_of}
use Rattle.cf_pair_run.specs.Owned.{is_playable}
use Rattle.cf_script.specs.Script.{event_lines, lines_of}

by_parts : (o : Option (Device × List ℕ)) (line : List ℕ) (e : PairEvent) → SpellsBy o line e → is_playable e ≡ true
by_parts None line (pair.Of d e) h = absurd h
by_parts None line (pair.Peer e) h = refl
by_parts None line pair.Compare h = refl
by_parts (Some part) line (pair.Of d e) h = h.2
by_parts (Some part) line (pair.Peer e) h = refl
by_parts (Some part) line pair.Compare h = refl

both_true : (a b : Bool) → a ≡ true → b ≡ true → (a && b) ≡ true
both_true true b h k = k
both_true false b h k = h

all_of : (lines : List (List ℕ)) (events : List PairEvent) → AreEvents lines events → list_all is_playable events ≡ true
all_of [] [] h = refl
all_of [] (e ∷ es) h = absurd h
all_of (line ∷ lines) [] h = absurd h
all_of (line ∷ lines) (e ∷ es) h = both_true (is_playable e) (list_all is_playable es) (by_parts (parts_of line) line e h.0) (all_of lines es h.1)

pub all_playable : (text : List ℕ) (events : List PairEvent) → IsScript text events → list_all is_playable events ≡ true
all_playable text events h = all_of (event_lines (lines_of text)) events h.0
