use Rattle.std.proofs.Common.{ap}
use Rattle.serde_json.proofs.OnLiterals.{serde_json_on_literals}
use Rattle.cf_model.specs.State.{Power}
use Rattle.cf_world_plays.specs.States.{state_value}
use Rattle.cf_state_rows.specs.Values.{line_of}
use Rattle.cf_world_plays.proofs.state_laws.no_volume_is_shown_off.Goals as goal

pub returns : goal.returns
unfolding serde_json_on_literals
returns c = λ s off. ap (λ (p : Power). line_of (state_value p s.filter.volume)) off
