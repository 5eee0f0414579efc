use Rattle.std.proofs.Common.{ℕ, drop}
use Rattle.cf_table.specs.Tables.{AreTableRows, RisesFrom}
use Rattle.cf_volume_changes.proofs.PutBack.{PutsRows}
use Rattle.cf_volume_changes.proofs.last_points.put_rows.Given as goal

abbrev pub invariant-loop-row : goal.invariant-loop-row
invariant-loop-row l = record {
  puts : PutsRows (drop l.row-index l.noted) l.rows.rows l.noted l.fn.rows.rows;
  rise : (low : ℕ) × RisesFrom low (drop l.row-index l.noted);
  kept : AreTableRows (drop l.row-index l.noted);
}
