use Rattle.cf_check_traces.proofs.SameRuns.{same_runs}
use Rattle.cf_check_traces.proofs.laws.runs_of_one_report_are_alike.Goals as goal

pub returns : goal.returns
returns c = same_runs
