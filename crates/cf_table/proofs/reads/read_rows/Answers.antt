use Rattle.std.proofs.Common.{None, arith}
use Rattle.cf_table.specs.Spelling.{row_value}
use Rattle.cf_table.proofs.ReadExit.{exits}
use Rattle.cf_table.proofs.ReadRows.{above_then, all_below, behind_row, count_more, each_taken, no_memory_for_rows, row_fault, rows_end, rows_then}
use Rattle.cf_table.proofs.ReadRuns.{one_less}
use Rattle.cf_table.proofs.RowTaken.{rooms_of}
use Rattle.cf_table.proofs.reads.read_rows.Goals as goal

pub returns-in_err-row-clause-fault : goal.returns-in_err-row-clause-fault
returns-in_err-row-clause-fault c =
    exits _ _ _ c.from_residual-in_err-row.ensures.1 (c.loop.invariant.fault _ (row_fault _ _ _ _ _ _ (one_less c.args.count c.loop.counter (omega arith)) c.in_err-row.ensures.fault))

pub push_row-requires-clause-above : goal.push_row-requires-clause-above
push_row-requires-clause-above c = all_below _ _ (c.loop.invariant.below _ c.in_ok-row.ensures.fits.head.who.1)

pub returns-in_err-push_row-clause-fault : goal.returns-in_err-push_row-clause-fault
returns-in_err-push_row-clause-fault c = exits _ _ _ c.from_residual-in_err-push_row.ensures.1 (no_memory_for_rows _ _ _ _)

pub loop-preserved : goal.loop-preserved
loop-preserved c =
    let is = c.in_ok-push_row.ensures.ok in
    record {
      took = each_taken _ _ _ _ _ _ _ is c.loop.invariant.took c.in_ok-row.ensures.took;
      count = count_more _ _ _ _ is c.loop.invariant.count;
      rows = rows_then _ _ _ _ _ is c.loop.invariant.rows c.in_ok-row.ensures.fits;
      below = above_then _ _ _ _ is c.loop.invariant.below c.in_ok-row.ensures.fits.head.who.1;
      fault = λ e h. c.loop.invariant.fault e (behind_row _ _ _ _ _ _ e (row_value c.in_ok-row.row) (one_less c.args.count c.loop.counter (omega arith)) c.in_ok-row.ensures.fits c.in_ok-row.ensures.took h);
    }

pub returns-clause-rows : goal.returns-clause-rows
returns-clause-rows c = rows_end _ _ _ c.loop.invariant.rows

pub returns-clause-room : goal.returns-clause-room
returns-clause-room c = rooms_of c.args.format None c.loop.rows (rows_end _ _ _ c.loop.invariant.rows)
