-- The bytes of a file, read from its clusters.
use Rattle.std.specs.Prelude.{◌≡◌, ◌≤◌, ◌<◌, ℕ, true, List, Option, Some, map, slice_range}
use Rattle.cf_disk.specs.Disk.{Keeps, Leaves, State}
use Rattle.cf_model.specs.Items.{is_held}
use Rattle.cf_ranges.specs.Pairs.{cluster_at}
use Rattle.cf_volume_changes.specs.Laid.{HoldsIn}
use Rattle.cf_volume_points.specs.Runs.{Ran}

-- the clusters of the extents hold these bytes, all of those from a place to another are held
pub record HoldsFile (disk : List ℕ) (es : List (ℕ × ℕ)) (held : List (Option ℕ)) (start end : ℕ) : Type 0 where
  pub blocks : (b : ℕ) → HoldsIn disk held b (cluster_at es b)
  pub here : (p : ℕ) → start ≤ p → p < end → is_held held p ≡ true

-- the bytes from a place up to another are read, and the disk is as it was
pub record HasRead (es : List (ℕ × ℕ)) (start end at : ℕ) (bytes : List ℕ) (s t : State) : Type 0 where
  pub low : start ≤ at
  pub high : at ≤ end
  pub keeps : Keeps s t
  pub leaves : Leaves s t s.may_leave
  pub ran : Ran 0 s t
  pub bytes_are : (held : List (Option ℕ)) → HoldsFile s.seen es held start end → map Some bytes ≡ slice_range held start at
