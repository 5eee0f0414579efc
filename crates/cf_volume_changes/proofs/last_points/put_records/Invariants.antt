use Rattle.std.proofs.Common.{List, ℕ, length}
use Rattle.std.specs.Prelude.{Option}
use Rattle.cf_volume_changes.proofs.PutBack.{PutsRecords}
use Rattle.cf_volume_image.specs.Spelled.{AreRecordsFrom}
use Rattle.cf_volume_changes.proofs.last_points.put_records.Given as goal

abbrev pub invariant-loop-aux : goal.invariant-loop-aux
invariant-loop-aux l = record {
  puts : PutsRecords l.items l.records l.noted l.fn.records;
  rise : (before : Option (List ℕ)) × AreRecordsFrom before l.items;
}

abbrev pub decreases-loop-aux : goal.decreases-loop-aux
decreases-loop-aux l = length l.items
