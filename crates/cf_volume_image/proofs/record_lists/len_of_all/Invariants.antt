use Rattle.std.proofs.Common.{◌≡◌, ◌+◌, drop}
use Rattle.cf_volume_image.specs.RecordLists.{records_len}
use Rattle.cf_volume_image.proofs.record_lists.len_of_all.Given as goal

abbrev pub invariant-loop-record : goal.invariant-loop-record
invariant-loop-record l = l.len + records_len (drop l.record-index l.records) ≡ records_len l.records
