-- What is known of a volume that was opened.
use Rattle.std.specs.Prelude.{◌≡◌, ◌+◌, map}
use Rattle.cf_model.specs.Formats.{Image}
use Rattle.cf_volume_points.specs.Known.{Known}
use Rattle.cf_table.specs.Spelling.{row_value}

-- what an image tells, with the epoch raised
pub record IsOpenedFrom (i : Image) (k : Known) : Type 0 where
  pub rows : map row_value k.table.rows ≡ i.rows
  pub records : k.records ≡ i.records
  pub next : k.table.next ≡ i.header.next
  pub count : k.count ≡ i.header.count
  pub clock : k.clock ≡ i.header.clock
  pub epoch : k.epoch ≡ i.header.last.epoch + 1
  pub place : k.place ≡ 0
