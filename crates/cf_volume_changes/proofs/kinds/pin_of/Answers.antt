use Rattle.std.proofs.Common.{sym}
use Rattle.cf_volume_changes.proofs.Puts.{pin_found, pin_none}
use Rattle.cf_volume_changes.proofs.kinds.pin_of.Goals as goal

pub returns-in-Some : goal.returns-in-Some
returns-in-Some c = pin_found c.args.rows.now.rows c.args.id c.in-Some.row.now (sym c.in-Some.ensures)

pub returns-in-None : goal.returns-in-None
returns-in-None c = pin_none c.args.rows.now.rows c.args.id (sym c.in-None.ensures)
