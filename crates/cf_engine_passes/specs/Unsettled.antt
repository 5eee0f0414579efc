-- What a sync leaves to do, read of a filter.
use Rattle.std.specs.Prelude.{◌≡◌, ◌==◌, ◌&&◌, ◌+◌, ℕ, Bool, not, length, count_by}
use Rattle.cf_filter_steps.specs.Answering.{Sense}
use Rattle.cf_model.specs.Dehydration.{in_use}
use Rattle.cf_model.specs.Items.{Item}
use Rattle.cf_model.specs.LookUp.{is_excluded}
use Rattle.cf_model.specs.State.{Filter}
use Rattle.cf_table.specs.Means.{Means}
use Rattle.cf_table.specs.declared.rows.Row.{Row}

-- an item that is neither the root, nor in sync, in use or excluded
abbrev pub is_left : Item → Filter → Bool
is_left i s = not (i.id.0 == 1) && not i.in_sync && not (in_use i.id s) && not (is_excluded s.volume.items i.id)

-- whether the item of the row is left in each state
pub record LeftIf {X : Type 0} (S : Sense X) (row : Row) (x : X) (b : Bool) : Type 0 where
  pub is : (s : Filter) (i : Item) → S.means x s → Means row i → b ≡ is_left i s

abbrev pub items_left : Filter → ℕ
items_left s = count_by (λ i. is_left i s) s.volume.items

abbrev pub items_there : Filter → ℕ
items_there s = length s.volume.items

abbrev pub tombstones_there : Filter → ℕ
tombstones_there s = length s.volume.book.tombstones

abbrev pub unsettled_there : Filter → ℕ
unsettled_there s = tombstones_there s + items_left s
