use Rattle.cf_check_report.proofs.Judging.{behind_is}
use Rattle.cf_check_report.proofs.reports.behind.Goals as goal

pub returns : goal.returns
returns c = behind_is c.args.events.now c.args.index
