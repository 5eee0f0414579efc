use Rattle.cf_remote.proofs.RunLaws.{runs_hold}
use Rattle.cf_remote.proofs.laws.a_remote_only_grows.Goals as goal

pub returns : goal.returns
returns c = runs_hold
