-- Events of another device that ask the remote nothing.
use Rattle.std.specs.Prelude.{Bool, false, List, ℕ, is_some, ◌||◌}
use Rattle.cf_base.specs.declared.events.PeerEvent.{PeerEvent}
use Rattle.cf_base.specs.declared.events.PeerEvent.TheVariants as peer
use Rattle.cf_model.specs.LookUp.{bad_names, names_of}
use Rattle.cf_model.specs.Words.{is_empty}

-- the names are those of the root, or of no path
abbrev pub is_unplaced : List (List ℕ) → Bool
is_unplaced names = is_empty names || is_some (bad_names names)

abbrev pub asks_none : PeerEvent → Bool
asks_none (peer.Put path bytes) = is_unplaced (names_of path)
asks_none (peer.MakeDir path) = is_unplaced (names_of path)
asks_none (peer.Move from to) = is_unplaced (names_of from)
asks_none (peer.Remove path) = is_unplaced (names_of path)
asks_none (peer.Stat path) = is_unplaced (names_of path)
asks_none (peer.Keep count) = false
