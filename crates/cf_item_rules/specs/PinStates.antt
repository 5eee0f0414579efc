-- Which state is stored in which items, as the rows say it.
use Rattle.std.specs.Prelude.{Bool, not, List, [], ◌∷◌, ◌++◌}
use Rattle.cf_base.specs.declared.changes.Change.{Change}
use Rattle.cf_base.specs.declared.changes.Change.TheVariants as change
use Rattle.cf_base.specs.declared.ids.ItemId.{ItemId}
use Rattle.cf_base.specs.declared.items.Pin.{Pin}
use Rattle.cf_base.specs.declared.items.Pin.TheVariants as pin
use Rattle.cf_base.specs.declared.items.Reach.{Reach}
use Rattle.cf_base.specs.declared.items.Reach.TheVariants as reach
use Rattle.cf_model.specs.Plans.{same_pin}
use Rattle.cf_model.specs.Words.{part, says, when}
use Rattle.cf_table.specs.Tables.{row_of}
use Rattle.cf_table.specs.declared.rows.Row.{Row}

-- what an item has stored; unspecified where it is not there
abbrev pub stored : List Row → ItemId → Pin
stored rows id = part (λ r. r.pin) pin.Unspecified (row_of rows id)

-- what the parent of an item has stored
abbrev pub stored_above : List Row → ItemId → Pin
stored_above rows id = part (λ r. stored rows r.parent) pin.Unspecified (row_of rows id)

-- what all items of the reach inherit, one from the other
abbrev pub inherited : List Row → ItemId → Reach → Pin
inherited rows id reach.One = stored_above rows id
inherited rows id reach.Recurse = stored_above rows id
inherited rows id reach.RecurseOnly = stored rows id

abbrev pub state_for : List Row → ItemId → Reach → Pin → Pin
state_for rows id reach pin.Unspecified = pin.Unspecified
state_for rows id reach pin.Pinned = pin.Pinned
state_for rows id reach pin.Unpinned = pin.Unpinned
state_for rows id reach pin.Excluded = pin.Excluded
state_for rows id reach pin.Inherit = inherited rows id reach

abbrev pub differs : List Row → Pin → ItemId → Bool
differs rows state id = says (λ r. not (same_pin state r.pin)) (row_of rows id)

-- a change for each item whose state differs
abbrev pub set_each : List Row → Pin → List ItemId → List Change
set_each rows state [] = []
set_each rows state (id ∷ ids) = when (differs rows state id) (change.SetPin id state ∷ []) ++ set_each rows state ids
