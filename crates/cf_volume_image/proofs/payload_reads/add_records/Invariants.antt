use Rattle.std.proofs.Common.{◌≡◌, length}
use Rattle.std.specs.Prelude.{All}
use Rattle.cf_model.specs.Formats.{with_records}
use Rattle.cf_volume_image.specs.RecordLists.{IsShort}
use Rattle.cf_volume_image.proofs.payload_reads.add_records.Given as goal

abbrev pub invariant-loop-aux : goal.invariant-loop-aux
invariant-loop-aux l = record {
  added : with_records l.items l.records ≡ with_records l.more l.fn.records;
  short : All IsShort l.items;
}

abbrev pub decreases-loop-aux : goal.decreases-loop-aux
decreases-loop-aux l = length l.items
