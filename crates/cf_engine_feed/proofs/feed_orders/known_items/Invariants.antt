use Rattle.std.proofs.Common.{◌≡◌, ◌++◌, List, drop}
use Rattle.std.specs.Prelude.{map}
use Rattle.cf_engine_feed.proofs.FeedOrder.{known_of}
use Rattle.cf_engine_feed.specs.Indexes.{IsIndex, target_at}
use Rattle.cf_tree.specs.Trees.{RiseFrom}
use Rattle.cf_model.specs.Items.{Item}
use Rattle.cf_table.specs.Tables.{MeansAll}
use Rattle.cf_engine_feed.proofs.feed_orders.known_items.Given as goal

-- those so far, and those of the entries that are left, are those of all
abbrev pub invariant-loop-entry : goal.invariant-loop-entry
invariant-loop-entry l = (items : List Item) → MeansAll l.rows.rows items → RiseFrom 1 items → IsIndex l.targets (target_at items) → l.known.items ++ map (known_of items) (drop l.entry-index l.entries) ≡ map (known_of items) l.entries
