use Rattle.std.proofs.Common.{ℕ, List, length, ◌≡◌, ◌-◌, ◌++◌, None}
use Rattle.std.specs.List.{flat_map}
use Rattle.cf_codec.specs.Left.{Takes}
use Rattle.cf_model.specs.Formats.{spell_key}
use Rattle.cf_volume_image.specs.Faults.{AtKeysFrom}
use Rattle.cf_volume_image.specs.RecordLists.{last_of}
use Rattle.cf_volume_image.specs.Spelled.{AreKeysFrom}
use Rattle.cf_table.specs.declared.failures.RowError.{RowError}
use Rattle.cf_volume_image.proofs.part_reads.keys_in.Given as goal

abbrev pub invariant-loop : goal.invariant-loop
invariant-loop l = record {
  took : Takes (flat_map spell_key l.keys.items) l.fn.r l.r;
  count : length l.keys.items ≡ l.counter;
  fits : (more : List (List ℕ)) → AreKeysFrom (last_of None l.keys.items) more → AreKeysFrom None (l.keys.items ++ more);
  fault : (e : RowError) → AtKeysFrom (last_of None l.keys.items) (l.count - l.counter) l.r e → AtKeysFrom None l.count l.fn.r e;
}
