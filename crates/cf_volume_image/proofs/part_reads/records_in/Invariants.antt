use Rattle.std.proofs.Common.{List, length, ◌≡◌, ◌-◌, ◌++◌, None}
use Rattle.cf_base.specs.declared.answers.AuxRecord.{AuxRecord}
use Rattle.cf_codec.specs.Left.{Takes}
use Rattle.cf_volume_image.specs.Faults.{AtRecordsFrom}
use Rattle.cf_volume_image.specs.RecordLists.{last_key_of, records_bytes}
use Rattle.cf_volume_image.specs.Spelled.{AreRecordsFrom}
use Rattle.cf_table.specs.declared.failures.RowError.{RowError}
use Rattle.cf_volume_image.proofs.part_reads.records_in.Given as goal

abbrev pub invariant-loop : goal.invariant-loop
invariant-loop l = record {
  took : Takes (records_bytes l.records.items) l.fn.r l.r;
  count : length l.records.items ≡ l.counter;
  fits : (more : List AuxRecord) → AreRecordsFrom (last_key_of None l.records.items) more → AreRecordsFrom None (l.records.items ++ more);
  fault : (e : RowError) → AtRecordsFrom (last_key_of None l.records.items) (l.count - l.counter) l.r e → AtRecordsFrom None l.count l.fn.r e;
}
