-- The log: the list of accepted changes with their numbers.
use Rattle.std.specs.Prelude.{ℕ, List, [], length, max, ◌+◌, ◌∷◌}
use Rattle.cf_base.specs.declared.changes.Change.{Change}
use Rattle.cf_base.specs.declared.changes.Change.TheVariants as change
use Rattle.cf_base.specs.declared.ids.Usn.{Usn}
use Rattle.cf_model.specs.Effects.{effect}
use Rattle.cf_model.specs.Items.{Item, root}

-- what the changes make of these items, in order
abbrev pub after_changes : List Item → List (Usn × Change) → List Item
after_changes items [] = items
after_changes items (c ∷ cs) = after_changes (effect items c.1 c.0) cs

-- the items of a log: its changes on the root alone
abbrev pub items_of : List (Usn × Change) → List Item
items_of log = after_changes (root ∷ []) log

abbrev pub count_of : List (Usn × Change) → ℕ
count_of log = length log

-- one above the id of the new item that a change makes, and 2 where it makes none
abbrev pub next_by : Change → ℕ
next_by (change.Make item parent name kind size identity) = item.0 + 1
next_by (change.Copy item from parent name) = item.0 + 1
next_by _ = 2

-- the id that the next item gets: one above the greatest in the log
abbrev pub next_of : List (Usn × Change) → ℕ
next_of [] = 2
next_of (c ∷ cs) = max (next_by c.1) (next_of cs)
