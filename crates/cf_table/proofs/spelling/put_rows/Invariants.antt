use Rattle.std.proofs.Common.{◌≡◌, ◌++◌, drop}
use Rattle.cf_table.specs.Spelling.{spell_each}
use Rattle.cf_table.proofs.spelling.put_rows.Given as goal

abbrev pub invariant-loop-row : goal.invariant-loop-row
invariant-loop-row l = l.out ++ spell_each (drop l.row-index l.rows) ≡ l.fn.out ++ spell_each l.rows
