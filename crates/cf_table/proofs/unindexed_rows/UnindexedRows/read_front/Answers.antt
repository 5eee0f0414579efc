use Rattle.std.proofs.Common.{inr}
use Rattle.cf_table.proofs.NoRow.{no_table}
use Rattle.cf_table.proofs.ReadExit.{err_weaker}
use Rattle.cf_table.proofs.unindexed_rows.UnindexedRows.read_front.Goals as goal

pub returns-clause-none : goal.returns-clause-none
returns-clause-none c =
    no_table c.args.format c.args.r.now c.read_rows.result
    (err_weaker _ _ c.read_rows.result (λ e h. inr (record { part = c.in_ok-count.count; is_part = (c.in_ok-count.ensures.fits, tt); mid = _; takes = c.in_ok-count.ensures.took; fault = h })) c.read_rows.ensures.fault)
