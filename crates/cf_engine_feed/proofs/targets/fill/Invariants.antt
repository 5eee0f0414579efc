use Rattle.std.proofs.Common.{List, drop}
use Rattle.cf_engine_feed.specs.Indexes.{IsIndex}
use Rattle.cf_engine_feed.proofs.IndexFinds.{IsFilled}
use Rattle.cf_model.specs.Items.{Item}
use Rattle.cf_table.specs.Tables.{MeansAll}
use Rattle.cf_tree.specs.Trees.{RiseFrom}
use Rattle.cf_engine_feed.proofs.targets.fill.Given as goal

-- the items so far are entered
abbrev pub invariant-loop-row : goal.invariant-loop-row
invariant-loop-row l = (items : List Item) → MeansAll l.rows items → RiseFrom 1 items → IsIndex l.fn.targets (λ d. 0) → IsFilled (drop l.row-index l.rows) items l.targets
