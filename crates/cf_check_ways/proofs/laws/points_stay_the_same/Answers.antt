use Rattle.cf_check_ways.proofs.PointSteps.{steps_keep}
use Rattle.cf_check_ways.proofs.laws.points_stay_the_same.Goals as goal

pub returns : goal.returns
returns c = steps_keep
