use Rattle.std.proofs.Common.{◌≡◌, ◌++◌, length}
use Rattle.std.specs.Prelude.{All}
use Rattle.cf_volume_image.specs.RecordLists.{IsShort, records_bytes}
use Rattle.cf_volume_image.proofs.part_writes.put_each.Given as goal

abbrev pub invariant-loop-record : goal.invariant-loop-record
invariant-loop-record l = record {
  spelled : l.out ++ records_bytes l.items ≡ l.fn.out ++ records_bytes l.records;
  short : All IsShort l.items;
}

abbrev pub decreases-loop-record : goal.decreases-loop-record
decreases-loop-record l = length l.items
