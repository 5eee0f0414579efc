use Rattle.std.proofs.Common.{drop}
use Rattle.cf_volume_image.proofs.CountsKept.{AreCountedTo}
use Rattle.cf_volume_image.proofs.numbered_lists.numbers_of_all.Given as goal

abbrev pub invariant-loop-record : goal.invariant-loop-record
invariant-loop-record l = AreCountedTo l.records (drop l.record-index l.records) l.numbers
