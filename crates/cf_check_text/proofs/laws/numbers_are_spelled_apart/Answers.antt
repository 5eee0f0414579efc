use Rattle.cf_check_text.proofs.Decimals.{decimal_apart}
use Rattle.cf_check_text.proofs.laws.numbers_are_spelled_apart.Goals as goal

pub returns : goal.returns
returns c = decimal_apart
