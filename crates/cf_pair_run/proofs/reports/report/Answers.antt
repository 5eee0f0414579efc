use Rattle.cf_pair_run.proofs.WorldRuns.{begins}
use Rattle.cf_pair_run.proofs.reports.report.Goals as goal

pub returns-in-Ok-clause-writes : goal.returns-in-Ok-clause-writes
returns-in-Ok-clause-writes g c = c.done.ensures.writes c.args.first c.args.second c.args.remote (begins g.D.Disk.state g.R.Remote.told c.args.first c.args.second c.args.remote c.in-Ok.world c.in-Ok.ensures.ok)
