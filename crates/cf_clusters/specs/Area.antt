-- What a call leaves of the clusters.
use Rattle.std.specs.Prelude.{◌≡◌, ◌<◌, ◌+◌, ◌*◌, ℕ, List, length, take, Result, Ok, Err}
use Rattle.cf_disk.specs.Disk.{State, Spends, part}
use Rattle.cf_clusters.specs.declared.clusters.ClusterError.{ClusterError}
use Rattle.cf_clusters.specs.declared.clusters.ClusterError.TheVariants.{Failed, Full}
use Rattle.cf_clusters.specs.declared.uses.Use.{Use}
use Rattle.cf_clusters.specs.Roles.{use_of}

-- where cluster k begins on the disk, behind the journal's two halves
abbrev pub place : ℕ → ℕ
place k = 3145728 + 4096 * k

-- the same in the halves, and in each cluster whose use has P
pub record SameWhere (P : Use → Type 0) (uses : List Use) (old new : List ℕ) : Type 0 where
  pub size : length new ≡ length old
  pub halves : take 3145728 new ≡ take 3145728 old
  pub clusters : (k : ℕ) → k < length uses → P (use_of uses k) → part (place k) 4096 new ≡ part (place k) 4096 old

-- an image that a crash might have left before, but for clusters whose use has not P
abbrev pub KeepsWhere : (Use → Type 0) → List Use → State → List ℕ → Type 0
KeepsWhere P uses old c = (d : List ℕ) × old.may_leave d × SameWhere P uses d c

-- a call that gives up before it begins spends none of the armed number, and any other one
abbrev pub SpendsOne : Result ℕ ClusterError → State → State → Type 0
SpendsOne (Ok k) old new = Spends {T = ℕ} {E = ClusterError} (Ok k) old new
SpendsOne (Err Failed) old new = Spends {T = ℕ} {E = ClusterError} (Err Failed) old new
SpendsOne (Err Full) old new = new.armed ≡ old.armed
