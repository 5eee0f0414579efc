-- When a list of changes fits the rows.
use Rattle.std.specs.Prelude.{List, [], ◌∷◌}
use Rattle.cf_base.specs.declared.changes.Change.{Change}
use Rattle.cf_table.specs.Changing.{Fits, Leaves}
use Rattle.cf_table.specs.declared.rows.Row.{Row}

-- each change fits whatever rows the ones before it leave
abbrev pub FitInTurn : List Change → List Row → Type 0
FitInTurn [] rows = Unit {0}
FitInTurn (c ∷ cs) rows = Fits c rows × ((new : List Row) → Leaves c rows new → FitInTurn cs new)
