-- What a crash leaves of a filter.
use Rattle.std.specs.Prelude.{◌≡◌, ◌≤◌, ◌⊎◌, ◌++◌, ℕ, List, length}
use Rattle.cf_base.specs.declared.changes.Change.{Change}
use Rattle.cf_base.specs.declared.ids.Usn.{Usn}
use Rattle.cf_disk.specs.Disk.{Leaves, State}
use Rattle.cf_filter_machine.specs.Keeping.{IsKeptPoint}
use Rattle.cf_model.specs.Points.{Opens}
use Rattle.cf_model.specs.State.{Point, Volume}
use Rattle.cf_volume_points.specs.Standing.{StandsFor}
use Rattle.cf_volume.specs.Calls.{Runs}

-- The disk stands for a point that the volume may be opened at.
pub record IsOfPoint (v : Volume) (disk : List ℕ) : Type 0 where
  pub point : Point
  pub opens : Opens v.points point
  pub stands : StandsFor v.epoch v.log point disk
  pub kept : IsKeptPoint v.epoch v.log point

-- so does whatever a crash leaves now
abbrev pub Lasts : State → Volume → Type 0
Lasts d v = (c : List ℕ) → d.may_leave c → IsOfPoint v c

-- More changes in the same epoch. A point that was added has all those before.
pub record Grows (v w : Volume) : Type 0 where
  pub epoch : w.epoch ≡ v.epoch
  pub clusters : w.clusters ≡ v.clusters
  pub more : List (Usn × Change)
  pub log : w.log ≡ v.log ++ more
  pub points : (p : Point) → Opens w.points p → Opens v.points p ⊎ (length v.log ≤ p.count)

-- the disk stands for a point of a volume between the two
pub record IsBetween (v w : Volume) (disk : List ℕ) : Type 0 where
  pub mid : Volume
  pub after : Grows v mid
  pub before : Grows mid w
  pub stands : IsOfPoint mid disk

-- So did, at each moment of a call, whatever a crash might have left. The disk has the size it had.
pub record Moved (d e : State) (v w : Volume) : Type 0 where
  pub runs : Runs d e
  pub grows : Grows v w
  pub leaves : Leaves d e (IsBetween v w)
