use Rattle.std.proofs.Common.{◌≡◌, take}
use Rattle.cf_table.specs.Index.{entries_of}
use Rattle.cf_table.proofs.listed_rows.entries_of.Given as goal

abbrev pub invariant-loop-row : goal.invariant-loop-row
invariant-loop-row l = l.entries.items ≡ entries_of (take l.row-index l.rows)
