use Rattle.cf_engine.proofs.FitRecords.{an_engine, no_engine}
use Rattle.cf_engine.proofs.openings.fits_engine.Goals as goal

pub returns-then-not-have_ours : goal.returns-then-not-have_ours
returns-then-not-have_ours c = no_engine c.args.rows.now.next c.as_slice.result.now c.args.rows.now.rows c.args.records.now c.have_ours.result c.as_slice.ensures.value c.have_ours.ensures c.if-not-have_ours.true

pub returns : goal.returns
returns c = an_engine c.args.rows.now.next c.as_slice.result.now c.args.rows.now.rows c.args.records.now c.have_ours.result c.as_slice.ensures.value c.have_ours.ensures c.if-not-have_ours.false c.records_fit.result c.records_fit.ensures
