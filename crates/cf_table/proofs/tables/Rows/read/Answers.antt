use Rattle.std.proofs.Common.{inl, inr}
use Rattle.cf_table.proofs.NoRow.{at_end, no_whole}
use Rattle.cf_table.proofs.ReadExit.{exits}
use Rattle.cf_table.proofs.tables.Rows.read.Goals as goal

pub returns-in_err-rows-clause-none : goal.returns-in_err-rows-clause-none
returns-in_err-rows-clause-none c = no_whole c.args.format c.args.b.now c.new-r.result c.from_residual.result c.new-r.ensures (exits _ _ _ c.from_residual.ensures.1 (inl c.in_err-rows.ensures.fault))

pub returns-in_err-end-clause-none : goal.returns-in_err-end-clause-none
returns-in_err-end-clause-none c =
    no_whole c.args.format c.args.b.now c.new-r.result c.from_residual-in_err-end.result c.new-r.ensures
    (exits _ _ _ c.from_residual-in_err-end.ensures.1
    (inr (record { part = _; is_part = c.in_ok-rows.ensures.fits; mid = _; takes = c.in_ok-rows.ensures.took; fault = at_end _ _ c.in_err-end.ensures })))
