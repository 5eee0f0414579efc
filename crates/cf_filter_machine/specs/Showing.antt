-- What shows of a volume, and what a call leaves of that where the device stops it.
use Rattle.std.specs.Prelude.{◌≡◌, ◌≤◌, ℕ, length}
use Rattle.cf_base.specs.declared.codes.CallError.{CallError}
use Rattle.cf_base.specs.declared.codes.CallError.TheVariants.{OutOfMemory, No}
use Rattle.cf_model.specs.Blocks.{blocks_used}
use Rattle.cf_model.specs.State.{Volume}
use Rattle.cf_table.specs.Tables.{MeansAll}
use Rattle.cf_volume.specs.Written.{contents_in}
use Rattle.cf_volume_points.specs.Clusters.{clusters_in_rows}
use Rattle.cf_volume_points.specs.Known.{Known}

-- The rows mean the items, and have as many clusters as blocks of those hold a byte, which are no more than these. The changes are
-- counted, in this epoch.
pub record Shows (clusters : ℕ) (k : Known) (v : Volume) : Type 0 where
  pub rows : MeansAll k.table.rows v.items
  pub blocks : length (clusters_in_rows k.table.rows) ≡ blocks_used v.items
  pub few : blocks_used v.items ≤ clusters
  pub count : k.count ≡ length v.log
  pub epoch : k.epoch ≡ v.epoch

-- what the volume says of its items is as before, unless memory ran out
abbrev pub StaysBy : CallError → Known → Known → Type 0
StaysBy OutOfMemory old new = Unit {0}
StaysBy (No code) old new = contents_in new ≡ contents_in old
