-- How the calls of a trail lie in memory.
use Rattle.std.specs.Prelude.{◌≡◌, ◌≤◌, ℕ, List, length}
use Rattle.cf_disk.specs.Cuts.{total}
use Rattle.cf_disk.specs.declared.trails.Head.{Head}

abbrev pub len_of : Head → ℕ
len_of h = h.len

-- the bytes are those of the calls, and both lie in the room that was taken
pub record AreParts (heads : List Head) (bytes : List ℕ) (most most_bytes room bytes_room : ℕ) : Type 0 where
  pub whole : total len_of heads ≡ length bytes
  pub calls_fit : length heads ≤ most
  pub bytes_fit : length bytes ≤ most_bytes
  pub room_is : most ≤ room
  pub bytes_room_is : most_bytes ≤ bytes_room
