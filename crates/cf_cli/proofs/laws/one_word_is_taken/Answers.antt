use Rattle.cf_cli.proofs.Meets.{taken}
use Rattle.cf_cli.proofs.laws.one_word_is_taken.Goals as goal

pub returns : goal.returns
returns c = taken
