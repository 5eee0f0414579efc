use Rattle.cf_volume_room.proofs.Aimed.{room_put_aimed}
use Rattle.cf_volume_room.proofs.laws.a_commit_where_it_is_wanted_keeps_the_aim.Goals as goal

pub returns : goal.returns
returns c = room_put_aimed
