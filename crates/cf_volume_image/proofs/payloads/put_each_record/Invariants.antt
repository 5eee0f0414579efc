use Rattle.std.proofs.Common.{◌≡◌, ◌≤◌, ◌+◌, ◌++◌, drop, length}
use Rattle.std.specs.List.{flat_map}
use Rattle.cf_model.specs.Formats.{spell_record}
use Rattle.cf_volume_image.specs.Contents.{records_at}
use Rattle.cf_volume_image.proofs.payloads.put_each_record.Given as goal

abbrev pub invariant-loop-key : goal.invariant-loop-key
invariant-loop-key l = record {
  spelled : l.out ++ flat_map spell_record (records_at l.records (drop l.key-index l.keys)) ≡ l.fn.out ++ flat_map spell_record (records_at l.records l.keys);
  count : l.count + length (records_at l.records (drop l.key-index l.keys)) ≡ length (records_at l.records l.keys);
  small : l.count ≤ l.key-index;
}
