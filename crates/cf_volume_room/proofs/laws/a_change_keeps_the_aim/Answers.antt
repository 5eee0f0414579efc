use Rattle.cf_volume_room.proofs.Aimed.{put_aimed}
use Rattle.cf_volume_room.proofs.laws.a_change_keeps_the_aim.Goals as goal

pub returns : goal.returns
returns c = put_aimed
