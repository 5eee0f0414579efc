use Rattle.std.proofs.Common.{◌≡◌, ◌++◌, [], length}
use Rattle.std.specs.Prelude.{filter}
use Rattle.cf_table.specs.Index.{entry_at, entry_ids, is_entry_in}
use Rattle.cf_table.proofs.EntryPlaces.{AreLeft}
use Rattle.cf_table.proofs.entries.children_at.Given as goal

abbrev pub invariant-loop-entry : goal.invariant-loop-entry
invariant-loop-entry l = record {
  left : AreLeft (entry_at l.parent [] (record { 0 = 0 })) l.items;
  ids : l.ids.items ++ entry_ids (filter (is_entry_in l.parent) l.items) ≡ entry_ids (filter (is_entry_in l.parent) l.entries);
}

abbrev pub decreases-loop-entry : goal.decreases-loop-entry
decreases-loop-entry l = length l.items
