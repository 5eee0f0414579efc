-- Rows that form a tree.
use Rattle.std.specs.Prelude.{Bool, true, false, not, List, Option, None, Some, find, is_some, map, ◌&&◌, ◌||◌, ◌==◌, ◌≡◌}
use Rattle.std.specs.List.{list_all}
use Rattle.cf_base.specs.declared.ids.ItemId.{ItemId}
use Rattle.cf_model.specs.Numbers.{no_item, root_id}
use Rattle.cf_model.specs.Rows as model
use Rattle.cf_model.specs.Words.{says}
use Rattle.cf_volume_image.specs.Contents.{row_at}
use Rattle.cf_volume_image.specs.Sound.{ArePlaced, HasRoot, are_named, reaches_root, takes_children}
use Rattle.cf_table.specs.Spelling.{row_value}
use Rattle.cf_table.specs.Tables.{id_of, is_child_row}
use Rattle.cf_table.specs.declared.rows.Row.{Row}

pub record IsTree (rows : List model.Row) : Type 0 where
  pub root : HasRoot rows
  pub top : row_at rows no_item ≡ None
  pub placed : ArePlaced rows rows
  pub named : are_named rows ≡ true

abbrev pub is_root : model.Row → Bool
is_root r = r.directory && (r.parent.0 == 0)

abbrev pub parent_in : Option model.Row → Option ItemId
parent_in None = None
parent_in (Some r) = Some r.parent

abbrev pub parent_of : List model.Row → ItemId → Option ItemId
parent_of rows id = parent_in (row_at rows id)

abbrev pub is_placed : List model.Row → model.Row → Bool
is_placed rows r = (r.id.0 == 1) || (takes_children rows r.parent && reaches_root rows 32 r.id)

abbrev pub has_id : ItemId → Option ItemId → Bool
has_id id None = false
has_id id (Some found) = found.0 == id.0

-- the first row of its name in its directory is the row itself
abbrev pub is_named : List Row → Row → Bool
is_named rows r = has_id r.id (id_of (find (is_child_row r.parent r.name) rows))

abbrev pub is_tree : List Row → Bool
is_tree rows =
    not (is_some (row_at (map row_value rows) no_item)) && says is_root (row_at (map row_value rows) root_id) && list_all (λ r. is_placed (map row_value rows) (row_value r)) rows && list_all (is_named rows) rows
