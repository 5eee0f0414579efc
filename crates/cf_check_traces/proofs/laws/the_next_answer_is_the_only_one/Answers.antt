use Rattle.cf_check_traces.proofs.NextOnes.{only_next}
use Rattle.cf_check_traces.proofs.laws.the_next_answer_is_the_only_one.Goals as goal

pub returns : goal.returns
returns c = only_next
