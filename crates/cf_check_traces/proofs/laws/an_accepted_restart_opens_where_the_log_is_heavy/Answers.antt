use Rattle.cf_check_traces.proofs.Counts.{resumed_there}
use Rattle.cf_check_traces.proofs.laws.an_accepted_restart_opens_where_the_log_is_heavy.Goals as goal

pub returns : goal.returns
returns c = resumed_there
