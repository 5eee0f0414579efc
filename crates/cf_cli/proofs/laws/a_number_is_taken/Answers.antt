use Rattle.cf_cli.proofs.Meets.{number_taken}
use Rattle.cf_cli.proofs.laws.a_number_is_taken.Goals as goal

pub returns : goal.returns
returns c = number_taken
