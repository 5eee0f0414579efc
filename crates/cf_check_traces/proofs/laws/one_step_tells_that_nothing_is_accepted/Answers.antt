use Rattle.cf_check_traces.proofs.NextSteps.{not_accepted}
use Rattle.cf_check_traces.proofs.laws.one_step_tells_that_nothing_is_accepted.Goals as goal

pub returns : goal.returns
returns c = not_accepted
