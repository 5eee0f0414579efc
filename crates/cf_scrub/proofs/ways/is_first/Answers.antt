use Rattle.cf_scrub.proofs.UpWays.{none_first, one_first}
use Rattle.cf_scrub.proofs.ways.is_first.Goals as goal

pub returns-in-None : goal.returns-in-None
returns-in-None c = none_first c.args.rows.now.rows c.args.row.now c.as_slice.result.now c.as_slice.ensures c.in-None.ensures

pub returns-in-Some : goal.returns-in-Some
returns-in-Some c = one_first c.args.rows.now.rows c.args.row.now c.as_slice.result.now c.in-Some.id c.as_slice.ensures c.in-Some.ensures
