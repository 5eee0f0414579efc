use Rattle.cf_volume_room.proofs.Aimed.{settled_aimed}
use Rattle.cf_volume_room.proofs.laws.a_volume_with_one_sure_point_is_aimed.Goals as goal

pub returns : goal.returns
returns c = settled_aimed
