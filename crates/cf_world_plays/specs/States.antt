-- What is shown of a state in the end: its text, and how many blocks are used.
use Rattle.std.specs.Prelude.{ℕ, List, length}
use Rattle.serde_json.specs.Data.{Data}
use Rattle.cf_model.specs.Blocks.{blocks_used}
use Rattle.cf_model.specs.State.{Off, Power, State, Volume}
use Rattle.cf_state_rows.specs.Values.{line_of, off_value, volume_value}

-- as a value of JSON
abbrev pub state_value : Power → Volume → Data
state_value Off v = off_value
state_value _ v = volume_value (length v.log) v.epoch v.items

-- a line of compact JSON
abbrev pub state_text : State → List ℕ
state_text s = line_of (state_value s.power s.filter.volume)

-- how many blocks hold a byte; none while the volume is off
abbrev pub used_in : Power → Volume → ℕ
used_in Off v = 0
used_in _ v = blocks_used v.items

abbrev pub used_blocks : State → ℕ
used_blocks s = used_in s.power s.filter.volume
