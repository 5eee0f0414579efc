use Rattle.cf_engine.proofs.FitRecords.{record_is}
use Rattle.cf_engine.proofs.openings.record_fits.Goals as goal

pub returns-in-Ok : goal.returns-in-Ok
returns-in-Ok c = record_is c.args.one.now c.args.rows.now.next _ c.in-Ok.said c.said_fits-fits.result c.in-Ok.ensures c.said_fits-fits.ensures
