use Rattle.cf_check_ways.proofs.PointSteps.{step_resumed}
use Rattle.cf_check_ways.proofs.laws.a_restart_opens_where_the_log_is_heavy.Goals as goal

pub returns : goal.returns
returns c = step_resumed
