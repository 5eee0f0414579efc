use Rattle.std.proofs.Common.{List, subst}
use Rattle.cf_table.specs.Tables.{RisesFrom}
use Rattle.cf_table.specs.declared.rows.Row.{Row}
use Rattle.cf_table.proofs.RowSlots.{rises_there}
use Rattle.cf_table.proofs.unindexed_rows.UnindexedRows.put_row.Goals as goal

pub returns-clause-rises : goal.returns-clause-rises
returns-clause-rises c = subst (λ (l : List Row). RisesFrom 0 l) c.self.view_is (rises_there 0 c.self.inside.slots.items c.self.invariant.rises)
