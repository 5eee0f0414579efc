-- Whoever stands at a name, and where it moves to.
use Rattle.std.specs.Prelude.{◌≡◌, List, ℕ, Option, Some, None}
use Rattle.cf_base.specs.declared.changes.Change.{Change}
use Rattle.cf_base.specs.declared.ids.ItemId.{ItemId}
use Rattle.cf_filter_steps.specs.Answering.{Sense}
use Rattle.cf_model.specs.ConflictNames.{conflict_name}
use Rattle.cf_model.specs.Items.{Item, item_of}
use Rattle.cf_model.specs.LookUp.{child_of}
use Rattle.cf_model.specs.Skips.{conflict_move, if_other}
use Rattle.cf_model.specs.State.{Filter}
use Rattle.cf_model.specs.Words.{part}
use Rattle.cf_table.specs.declared.rows.Row.{Row}

-- in each state it is the conflict name of the row's name
pub record HasConflictName {X : Type 0} (S : Sense X) (row : Row) (x : X) (name : List ℕ) : Type 0 where
  pub is : (s : Filter) → S.means x s → name ≡ conflict_name s.volume.items row.parent row.name

-- in each state that has the item it is the item's move to its conflict name
pub record IsConflict {X : Type 0} (S : Sense X) (item : ItemId) (x : X) (c : Change) : Type 0 where
  pub is : (s : Filter) (i : Item) → S.means x s → item_of s.volume.items item ≡ Some i → c ≡ conflict_move s.volume.items i

-- the item with this id, or none
abbrev pub IsTheItem : List Item → Option ItemId → Option Item → Type 0
IsTheItem items None o = o ≡ None
IsTheItem items (Some id) o = (i : Item) × (o ≡ Some i) × (item_of items id ≡ Some i)

-- in each state it is who stands at the name, but for one item
pub record IsOccupant {X : Type 0} (S : Sense X) (parent : ItemId) (name : List ℕ) (but : ItemId) (x : X) (o : Option ItemId) : Type 0 where
  pub is : (s : Filter) → S.means x s → IsTheItem s.volume.items o (part (if_other but) None (child_of s.volume.items parent name))
