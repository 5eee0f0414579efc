use Rattle.std.proofs.Common.{List, drop}
use Rattle.cf_model.specs.Items.{Item}
use Rattle.cf_table.specs.Tables.{MeansAll}
use Rattle.cf_engine_provider.proofs.Targeted.{AreLeft}
use Rattle.cf_engine_provider.proofs.locals.list_of.Given as goal

-- the items so far, and those of the rest, are those of all
abbrev pub invariant-loop-row : goal.invariant-loop-row
invariant-loop-row l = (items : List Item) → MeansAll l.rows items → AreLeft (drop l.row-index l.rows) items l.list.items
