use Rattle.cf_check_text.proofs.Lines.{one_count}
use Rattle.cf_check_text.proofs.laws.counts_of_restarts_are_told_apart.Goals as goal

pub returns : goal.returns
returns c = one_count
