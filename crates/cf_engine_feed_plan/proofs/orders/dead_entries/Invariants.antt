use Rattle.std.proofs.Common.{◌≡◌, ◌++◌, List, drop}
use Rattle.cf_model.specs.Items.{Item}
use Rattle.cf_engine_feed_plan.specs.Orders.{AreKnown, dead_from}
use Rattle.cf_table.specs.Tables.{MeansAll}
use Rattle.cf_tree.specs.Trees.{IsTree}
use Rattle.cf_engine_feed_plan.proofs.orders.dead_entries.Given as goal

abbrev pub invariant-loop-place : goal.invariant-loop-place
invariant-loop-place l = (items : List Item) → MeansAll l.rows.rows items → IsTree items → AreKnown items l.feed l.known → l.dead.items ++ dead_from items l.place (drop l.place l.feed) ≡ dead_from items 0 l.feed
