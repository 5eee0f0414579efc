-- Rows that are read, each in a slot, where it stays when it goes.
use Rattle.std.specs.Prelude.{List, [], All, cond, map, ◌∷◌}
use Rattle.cf_table.specs.Applied.{IsSpellable}
use Rattle.cf_table.specs.Tables.{RisesFrom}
use Rattle.cf_table.specs.declared.rows.Row.{Row}
use Rattle.cf_table.specs.declared.slots.Slot.{Slot}

-- with those that are gone
abbrev pub all_rows : List Slot → List Row
all_rows slots = map (λ s. s.row) slots

abbrev pub rows_there : List Slot → List Row
rows_there [] = []
rows_there (s ∷ ss) = cond s.is_there (s.row ∷ rows_there ss) (rows_there ss)

-- the ids rise, and each row can be spelled, those that are gone too
pub record AreSlots (slots : List Slot) : Type 0 where
  pub rises : RisesFrom 0 (all_rows slots)
  pub spellable : All IsSpellable (all_rows slots)
