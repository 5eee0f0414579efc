-- A volume taken back to its last point.
use Rattle.std.specs.Prelude.{◌≡◌, ◌+◌, List, true, None, length, map}
use Rattle.cf_clusters.specs.Roles.{Opens}
use Rattle.cf_clusters.specs.declared.uses.Use.{Use}
use Rattle.cf_model.specs.Formats.{Image}
use Rattle.cf_model.specs.Standing.{are_apart, clusters_of}
use Rattle.cf_table.specs.Spelling.{row_value}
use Rattle.cf_volume_image.specs.Spelled.{AreRecordsFrom}
use Rattle.cf_volume_image.specs.declared.contents.Contents.{Contents}
use Rattle.cf_volume_points.specs.At.{KnowsThen}
use Rattle.cf_volume_points.specs.Known.{Known, RowsRise}

-- the image of the last point, as it is known
pub record IsLast (k : Known) (i : Image) : Type 0 where
  pub known : KnowsThen k i
  pub rise : RowsRise 0 i.rows
  pub keys_rise : AreRecordsFrom None i.records
  pub apart : are_apart (length k.uses) (clusters_of i.rows) ≡ true

-- The contents are those of the image, with what is known of its header and the epoch raised, and its clusters are held.
pub record Rewinds (k : Known) (i : Image) (c : Contents) (uses : List Use) : Type 0 where
  pub rows : map row_value c.rows.rows ≡ i.rows
  pub records : c.records ≡ i.records
  pub next : c.rows.next ≡ k.next_then
  pub count : c.count ≡ k.kept
  pub clock : c.clock ≡ k.clock_then
  pub last : c.last ≡ record { epoch = k.epoch + 1; place = 0 }
  pub opens : Opens (length k.uses) (clusters_of i.rows) uses
