use Rattle.std.proofs.Common.{ℕ, List, length, ◌≡◌, ◌-◌, ◌++◌, None}
use Rattle.std.specs.Prelude.{map}
use Rattle.cf_codec.specs.Left.{Takes}
use Rattle.cf_model.specs.Rows as model
use Rattle.cf_table.specs.Faults.{AtRows}
use Rattle.cf_table.specs.Reading.{AreRowsIn, IsAbove}
use Rattle.cf_table.specs.Spelling.{row_value, spell_each_in}
use Rattle.cf_table.specs.declared.failures.RowError.{RowError}
use Rattle.cf_table.proofs.ReadRows.{AreBelow}
use Rattle.cf_table.proofs.reads.read_rows.Given as goal

abbrev pub invariant-loop : goal.invariant-loop
invariant-loop l = record {
  took : Takes (spell_each_in l.format l.rows) l.fn.r l.r;
  count : length l.rows ≡ l.counter;
  rows : (more : List model.Row) → AreRowsIn l.format l.before more → AreRowsIn l.format None (map row_value l.rows ++ more);
  below : (id : ℕ) → IsAbove l.before id → AreBelow id l.rows;
  fault : (e : RowError) → AtRows l.format l.before (l.count - l.counter) l.r e → AtRows l.format None l.count l.fn.r e;
}
