use Rattle.std.proofs.Common.{◌≡◌, length}
use Rattle.std.specs.Vec.Iter.{into_iter_items, into_iter_len}
use Rattle.cf_table.proofs.RowSlots.{IsGathered}
use Rattle.cf_table.proofs.unindexed_rows.gathered.Given as goal

abbrev pub invariant-loop-slot : goal.invariant-loop-slot
invariant-loop-slot l = record {
  gathered : IsGathered l.rows (into_iter_items l.slot-iterator) l.fn.slots.items;
  count : into_iter_len l.slot-iterator ≡ length (into_iter_items l.slot-iterator);
}
