-- What is known is the volume now, whatever a crash would leave.
use Rattle.std.specs.Prelude.{ℕ, List, None}
use Rattle.cf_disk.specs.Disk.{State}
use Rattle.cf_model.specs.State.{Volume}
use Rattle.cf_volume_points.specs.Holding.{Holds}
use Rattle.cf_volume_points.specs.Known.{Known}

-- a disk that reads as these bytes, of which a crash leaves nothing
abbrev pub resting : List ℕ → State
resting seen = record {
  seen = seen;
  may_leave = λ c. ⊥;
  moment = 0;
  left_since = λ n c. ⊥;
  tells = λ n. ⊥;
  powers = None;
  written = 0;
  faults = 0;
  armed = None;
  settings = record { quota = 0; aim = None };
}

-- what is known on a disk that reads as these bytes is the volume
abbrev pub IsNow : List ℕ → Known → Volume → Type 0
IsNow seen k v = Holds (resting seen) k v
