use Rattle.std.proofs.Common.{List, length, ◌≡◌, ◌≤◌, ◌-◌, ◌^◌, ◌++◌}
use Rattle.std.specs.Prelude.{map}
use Rattle.cf_codec.specs.Left.{Takes}
use Rattle.cf_model.specs.Rows.{Extent}
use Rattle.cf_table.specs.Faults.{AtExtents}
use Rattle.cf_table.specs.Reading.{AreExtentsFrom}
use Rattle.cf_table.specs.Spelling.{extent_of, spell_pairs}
use Rattle.cf_table.specs.declared.failures.RowError.{RowError}
use Rattle.cf_table.proofs.set_reads.read_extents.Given as goal

abbrev pub invariant-loop : goal.invariant-loop
invariant-loop l = record {
  low : l.low ≤ 2 ^ 32;
  took : Takes (spell_pairs l.pairs.items) l.fn.r l.r;
  count : length l.pairs.items ≡ l.counter;
  extents : (more : List Extent) → AreExtentsFrom l.low more → AreExtentsFrom 0 (map extent_of l.pairs.items ++ more);
  fault : (e : RowError) → AtExtents l.low (l.count - l.counter) l.r e → AtExtents 0 l.count l.fn.r e;
}
