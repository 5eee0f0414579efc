use Rattle.cf_model_room.proofs.Heavy.{heavy_needs}
use Rattle.cf_model_room.proofs.laws.where_a_log_is_heavy_room_may_be_made.Goals as goal

pub returns : goal.returns
returns c = heavy_needs
