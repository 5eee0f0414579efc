-- They are the laws of numbers.
use Rattle.cf_model_laws.proofs.OnceLaws.{next_is_new}
use Rattle.cf_model_laws.proofs.single_use.nothing_is_given_twice.Goals as goal

pub returns-clause-next : goal.returns-clause-next
returns-clause-next c = next_is_new
