use Rattle.std.proofs.Common.{arith, ◌∙◌}
use Rattle.cf_table.proofs.SortedEntries.{entry_more}
use Rattle.cf_table.proofs.listed_rows.entries_of.Goals as goal

pub loop-row-preserved : goal.loop-row-preserved
loop-row-preserved c =
    c.in_ok-push.ensures.items ∙ entry_more c.args.rows.now c.loop-row.entries.items c.in_ok-entry.entry c.loop-row.row-index c.row-item.result (omega (arith, c.loop-row-test.true)) c.row-item.is c.loop-row.invariant c.in_ok-entry.ensures
