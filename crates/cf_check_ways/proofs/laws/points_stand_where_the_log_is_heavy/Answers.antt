use Rattle.cf_check_ways.proofs.PointSteps.{step_laden}
use Rattle.cf_check_ways.proofs.laws.points_stand_where_the_log_is_heavy.Goals as goal

pub returns : goal.returns
returns c = step_laden
