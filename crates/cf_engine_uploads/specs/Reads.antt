-- What is read of an item before it is uploaded.
use Rattle.std.specs.Prelude.{◌≡◌, Bool, true, is_some}
use Rattle.cf_base.specs.declared.ids.ItemId.{ItemId}
use Rattle.cf_base.specs.declared.ids.Version.{Version}
use Rattle.cf_filter_steps.specs.Answering.{IsAt, Sense}
use Rattle.cf_model.specs.Identities.{base_version}
use Rattle.cf_model.specs.Items.{Item, is_all_here, item_of}
use Rattle.cf_model.specs.State.{Filter}
use Rattle.cf_model.specs.Words.{says}
use Rattle.cf_table.specs.Means.{Means}
use Rattle.cf_table.specs.declared.rows.Row.{Row}

-- the version of the base of the item that the row means
pub record IsBaseVersion (row : Row) (version : Version) : Type 0 where
  pub is : (i : Item) → Means row i → version ≡ base_version i

-- an item that is there is a placeholder
pub record IsPlaceholder {X : Type 0} (S : Sense X) (id : ItemId) (x : X) : Type 0 where
  pub is : (s : Filter) (i : Item) → S.means x s → IsAt id i s → i.placeholder ≡ true

abbrev pub is_there_at : ItemId → Filter → Bool
is_there_at id s = is_some (item_of s.volume.items id)

-- an item is there, and each of its bytes is here
abbrev pub is_whole_at : ItemId → Filter → Bool
is_whole_at id s = says is_all_here (item_of s.volume.items id)
