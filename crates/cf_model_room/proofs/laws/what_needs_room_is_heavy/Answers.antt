use Rattle.cf_model_room.proofs.Heavy.{needs_heavy_in_run}
use Rattle.cf_model_room.proofs.laws.what_needs_room_is_heavy.Goals as goal

pub returns : goal.returns
returns c = needs_heavy_in_run
