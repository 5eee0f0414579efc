use Rattle.cf_gen.proofs.Lengths.{made_short}
use Rattle.cf_gen.proofs.laws.made_script_is_short.Goals as goal

pub returns : goal.returns
returns c = made_short
