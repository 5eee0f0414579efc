-- Tests of the tree of rows.
use Rattle.std.specs.Prelude.{ℕ, zero, suc, Bool, false, cond, find, List, Option, None, Some, nat_lt, ◌&&◌, ◌||◌, ◌==◌}
use Rattle.cf_base.specs.declared.ids.ItemId.{ItemId}
use Rattle.cf_model.specs.Rows.{Row}
use Rattle.cf_model.specs.Words.{same, says}
use Rattle.cf_volume_image.specs.Contents.{row_at}
use Rattle.cf_volume_image.specs.Trees.{is_root}

-- the parent of a row that is that of a directory
abbrev pub above_in : Option Row → Option ItemId
above_in None = None
above_in (Some r) = cond r.directory (Some r.parent) None

abbrev pub above : List Row → ItemId → Option ItemId
above rows id = above_in (row_at rows id)

-- the way from an item up through directories, itself the first, has item 1 among so many
unfoldable pub climbs : List Row → ℕ → ItemId → Bool
climbs rows zero id = false
climbs rows (suc n) id = says (λ parent. (id.0 == 1) || climbs rows n parent) (above rows id)

abbrev pub is_named : ItemId → List ℕ → Row → Bool
is_named parent name r = (r.parent.0 == parent.0) && same r.name name

abbrev pub has_id : ItemId → Option Row → Bool
has_id id None = false
has_id id (Some r) = r.id.0 == id.0

-- the row is the first one with its name in its directory
abbrev pub is_first : List Row → Row → Bool
is_first rows r = has_id r.id (find (is_named r.parent r.name) rows)

-- Item 1 is a directory in no other, each other one comes to it in at most 32 steps, and none has the name of one before it
-- in its directory. No item is 0, which the root names as its parent.
abbrev pub is_placed : List Row → Row → Bool
is_placed rows r = cond (r.id.0 == 1) (is_root r) (nat_lt 0 r.id.0 && climbs rows 32 r.parent)

abbrev pub is_in_tree : List Row → Row → Bool
is_in_tree rows r = is_placed rows r && is_first rows r
