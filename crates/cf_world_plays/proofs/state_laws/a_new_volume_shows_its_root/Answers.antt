use Rattle.std.proofs.Common.{refl}
use Rattle.std.specs.Fmt.{digits}
use Rattle.serde_json.proofs.OnLiterals.{serde_json_on_literals}
use Rattle.cf_world_plays.proofs.state_laws.a_new_volume_shows_its_root.Goals as goal

pub returns : goal.returns
unfolding serde_json_on_literals digits
returns c = λ mode remote clusters. refl
