use Rattle.cf_world_plays.proofs.results.put_out.Goals as goal

pub returns-in-Report-clause-writes : goal.returns-in-Report-clause-writes
returns-in-Report-clause-writes g c = rw c.in-Report.is c.report.ensures.writes

pub returns-in-Ending-clause-writes : goal.returns-in-Ending-clause-writes
returns-in-Ending-clause-writes g c = rw c.in-Ending.is c.conclude.ensures.writes
