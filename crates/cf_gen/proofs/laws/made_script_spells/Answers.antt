use Rattle.cf_gen.proofs.Lengths.{made_spells}
use Rattle.cf_gen.proofs.laws.made_script_spells.Goals as goal

pub returns : goal.returns
returns c = made_spells
