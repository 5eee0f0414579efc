use Rattle.std.proofs.Common.{◌≡◌, ◌+◌, ◌%◌, ◌<◌, length}
use Rattle.cf_volume_image.proofs.part_writes.count_of.Given as goal

abbrev pub invariant-loop-record : goal.invariant-loop-record
invariant-loop-record l = record {
  count : (l.count + length l.items) % 4294967296 ≡ length l.records % 4294967296;
  small : l.count < 4294967296;
}

abbrev pub decreases-loop-record : goal.decreases-loop-record
decreases-loop-record l = length l.items
