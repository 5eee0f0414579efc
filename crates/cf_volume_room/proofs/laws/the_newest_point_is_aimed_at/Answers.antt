use Rattle.cf_volume_room.proofs.Aimed.{newest_aimed}
use Rattle.cf_volume_room.proofs.laws.the_newest_point_is_aimed_at.Goals as goal

pub returns : goal.returns
returns c = newest_aimed
