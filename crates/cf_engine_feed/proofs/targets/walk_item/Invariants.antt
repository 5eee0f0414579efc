use Rattle.std.proofs.Common.{List, drop}
use Rattle.cf_engine_feed.proofs.FirstFound.{AreLeft}
use Rattle.cf_model.specs.Identities.{has_target}
use Rattle.cf_model.specs.Items.{Item}
use Rattle.cf_table.specs.Tables.{MeansAll}
use Rattle.cf_engine_feed.proofs.targets.walk_item.Given as goal

-- the first item is that of the rows that are left
abbrev pub invariant-loop-row : goal.invariant-loop-row
invariant-loop-row l = (items : List Item) → MeansAll l.rows items → AreLeft (λ (i : Item). has_target i l.rid) (drop l.row-index l.rows) items
