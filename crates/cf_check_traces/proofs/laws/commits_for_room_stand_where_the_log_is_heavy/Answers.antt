use Rattle.cf_check_traces.proofs.RunPoints.{laden_run}
use Rattle.cf_check_traces.proofs.laws.commits_for_room_stand_where_the_log_is_heavy.Goals as goal

pub returns : goal.returns
returns c = laden_run
