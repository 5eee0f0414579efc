use Rattle.cf_check_ways.proofs.PointSteps.{step_fits}
use Rattle.cf_check_ways.proofs.laws.each_change_had_room.Goals as goal

pub returns : goal.returns
returns c = step_fits
