use Rattle.cf_check_traces.proofs.RunPoints.{had_run}
use Rattle.cf_check_traces.proofs.laws.each_change_of_a_run_had_room.Goals as goal

pub returns : goal.returns
returns c = had_run
