use Rattle.std.proofs.Common.{List, length, ◌≡◌, ◌-◌, ◌++◌, None}
use Rattle.std.specs.List.{flat_map}
use Rattle.cf_base.specs.declared.ids.ItemId.{ItemId}
use Rattle.cf_codec.specs.Left.{Takes}
use Rattle.cf_model.specs.Formats.{spell_id}
use Rattle.cf_volume_image.specs.Faults.{AtIdsFrom}
use Rattle.cf_volume_image.specs.Spelled.{AreIdsFrom}
use Rattle.cf_table.specs.declared.failures.RowError.{RowError}
use Rattle.cf_volume_image.proofs.part_reads.ids_in.Given as goal

abbrev pub invariant-loop : goal.invariant-loop
invariant-loop l = record {
  took : Takes (flat_map spell_id l.ids.items) l.fn.r l.r;
  count : length l.ids.items ≡ l.counter;
  fits : (more : List ItemId) → AreIdsFrom l.before more → AreIdsFrom None (l.ids.items ++ more);
  fault : (e : RowError) → AtIdsFrom l.before (l.count - l.counter) l.r e → AtIdsFrom None l.count l.fn.r e;
}
