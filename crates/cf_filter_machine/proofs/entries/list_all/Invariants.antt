use Rattle.std.proofs.Common.{List, ◌++◌, drop}
use Rattle.cf_base.specs.declared.items.ListedItem.{ListedItem}
use Rattle.cf_filter_machine.specs.Ends.{AreEntriesOf}
use Rattle.cf_filter_machine.proofs.entries.list_all.Given as goal

abbrev pub invariant-loop-id : goal.invariant-loop-id
invariant-loop-id l = (tail : List ListedItem) → AreEntriesOf l.rows.rows (drop l.id-index l.ids) tail → AreEntriesOf l.rows.rows l.ids (l.list ++ tail)
