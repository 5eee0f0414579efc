-- What holds of every volume that a program has, whatever its disk was.
use Rattle.std.specs.Prelude.{◌≡◌, ◌≤◌, ◌<◌, ◌+◌, ◌-◌, ◌/◌, ℕ, [], Some, length, map, sum_by, All}
use Rattle.cf_base.specs.declared.ids.ItemId.{ItemId}
use Rattle.cf_base.specs.declared.ids.Usn.{Usn}
use Rattle.cf_base.specs.declared.limits.TheConstants.{MOST_IMAGE_BYTES, MOST_ITEMS}
use Rattle.cf_model.specs.Formats.{Header, Image}
use Rattle.cf_model.specs.Images.{aux_len}
use Rattle.cf_model.specs.Items.{Item, item_of}
use Rattle.cf_model.specs.Rows.{IsSoundRow, row_of}
use Rattle.cf_model.specs.State.{Volume}
use Rattle.cf_volume_points.specs.Clusters.{IsGroundSize, clusters_in_rows}
use Rattle.cf_volume_points.specs.Known.{Known}
use Rattle.cf_table.specs.Reading.{IsStored}
use Rattle.cf_table.specs.Spelling.{HasRoom, row_value}
use Rattle.cf_table.specs.Tables.{AreTableRows, RisesFrom, rows_len}
use Rattle.cf_tree.specs.Trees.{AreOpen, IsTree}

-- the image that a commit writes
abbrev pub header_now : Known → Header
header_now k = record { last = record { epoch = k.epoch; place = k.place }; count = k.count; next = k.table.next; clock = k.clock }

abbrev pub image_now : Known → Image
image_now k = record { header = header_now k; rows = map row_value k.table.rows; records = k.records }

-- how many bytes spell it
abbrev pub len_now : Known → ℕ
len_now k = 41 + rows_len k.table.rows + sum_by aux_len k.records

-- A ground of this size has room for the clusters, and the table can be written.
pub record Sound (size : ℕ) (k : Known) : Type 0 where
  pub fit : IsGroundSize size
  pub clusters : length k.uses ≡ (size - 3145728) / 4096
  pub rises : RisesFrom 0 k.table.rows
  pub kept : AreTableRows k.table.rows
  pub room : All HasRoom k.table.rows
  pub inside : All (λ j. j < length k.uses) (clusters_in_rows k.table.rows)
  pub few : length k.table.rows ≤ MOST_ITEMS
  pub short : len_now k ≤ MOST_IMAGE_BYTES

-- the greatest number that was given
abbrev pub last_number : Volume → Usn
last_number v = record { epoch = v.epoch; place = v.place }

-- A volume that a commit keeps: the row of each item is sound, with a pin that can be stored, and the items form a tree
-- under the root in directories whose entries have come. A volume of which this does not hold is written all the same,
-- and no opening takes it.
pub record IsKeepable (v : Volume) : Type 0 where
  pub rows : (id : ItemId) (i : Item) → item_of v.items id ≡ Some i → IsSoundRow v.next_item (last_number v) (row_of v.book [] i)
  pub pins : (id : ItemId) (i : Item) → item_of v.items id ≡ Some i → IsStored i.pin
  pub tree : IsTree v.items
  pub populated : AreOpen v.items
