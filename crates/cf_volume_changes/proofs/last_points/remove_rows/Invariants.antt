use Rattle.std.proofs.Common.{drop}
use Rattle.cf_volume_changes.proofs.PutBack.{TakesRows}
use Rattle.cf_volume_changes.proofs.last_points.remove_rows.Given as goal

abbrev pub invariant-loop-id : goal.invariant-loop-id
invariant-loop-id l = TakesRows (drop l.id-index l.ids) l.rows.rows l.ids l.fn.rows.rows
