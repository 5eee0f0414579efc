-- What is tested of an item before it is marked.
use Rattle.std.specs.Prelude.{◌≡◌, Bool}
use Rattle.cf_base.specs.declared.ids.ItemId.{ItemId}
use Rattle.cf_base.specs.declared.ids.Rid.{Rid}
use Rattle.cf_base.specs.declared.ids.Usn.{Usn}
use Rattle.cf_filter_steps.specs.Answering.{Sense}
use Rattle.cf_model.specs.Identities.{parent_target, stands_at_seen, target_of}
use Rattle.cf_model.specs.Items.{Item, item_of}
use Rattle.cf_model.specs.Numbers.{no_usn}
use Rattle.cf_model.specs.Skips.{may_mark}
use Rattle.cf_model.specs.State.{Filter}
use Rattle.cf_model.specs.Words.{part, says}
use Rattle.cf_table.specs.Means.{Means}
use Rattle.cf_table.specs.declared.rows.Row.{Row}

-- the target of the item that the row means
pub record IsTarget (row : Row) (target : Rid) : Type 0 where
  pub is : (i : Item) → Means row i → target ≡ target_of i

-- the target of its parent in each state
pub record IsParentTarget {X : Type 0} (S : Sense X) (row : Row) (x : X) (target : Rid) : Type 0 where
  pub is : (s : Filter) (i : Item) → S.means x s → Means row i → target ≡ parent_target s.volume.items i

-- whether it stands at the path seen in each state
pub record StandsIf {X : Type 0} (S : Sense X) (row : Row) (x : X) (b : Bool) : Type 0 where
  pub is : (s : Filter) (i : Item) → S.means x s → Means row i → b ≡ stands_at_seen s.volume.items s.volume.book i

-- the item can be marked at the number
abbrev pub is_markable_at : ItemId → Usn → Filter → Bool
is_markable_at item number s = says (may_mark s.volume.items s.volume.book number) (item_of s.volume.items item)

-- the number that the item has
abbrev pub number_at : ItemId → Filter → Usn
number_at item s = part (λ i. i.number) no_usn (item_of s.volume.items item)
