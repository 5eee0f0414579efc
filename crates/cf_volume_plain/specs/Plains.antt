-- A ground that no crash leaves, as clauses see it.
use Rattle.std.specs.Prelude.{◌≡◌, ◌≤◌, ◌<◌, ◌*◌, ◌^◌, ◌++◌, ℕ, List, Option, Some, None, length, replicate}
use Rattle.cf_disk.specs.Disk.{State}

-- The bytes of all clusters, one behind the other. How many of them a volume may use, and after how many changes a commit is
-- wanted, if one is.
pub record Blocks : Type 0 where
  pub bytes : List ℕ
  pub quota : ℕ
  pub aim : Option ℕ

-- zeros in place of a journal
unfoldable pub no_journal : List ℕ
no_journal = replicate 3145728 0

-- a disk of which a crash leaves nothing, and of which no call fails
abbrev pub plain_state : Blocks → State
plain_state b = record {
  seen = no_journal ++ b.bytes;
  may_leave = λ c. ⊥;
  moment = 0;
  left_since = λ t c. ⊥;
  tells = λ t. ⊥;
  powers = None;
  written = 0;
  faults = 0;
  armed = Some None;
  settings = record { quota = b.quota; aim = b.aim };
}

-- so many blocks of which whole ones at the front lie in memory, with room for all
pub record IsFront (clusters room : ℕ) (bytes : List ℕ) : Type 0 where
  pub blocks : ℕ
  pub whole : length bytes ≡ 4096 * blocks
  pub fits : blocks ≤ clusters
  pub small : clusters < 2 ^ 32
  pub room_is : 4096 * clusters ≤ room
