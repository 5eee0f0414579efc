use Rattle.cf_check_ways.proofs.RoomPoints.{opened_the_same}
use Rattle.cf_check_ways.proofs.laws.a_count_names_one_point.Goals as goal

pub returns : goal.returns
returns c = opened_the_same
