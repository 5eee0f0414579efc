use Rattle.cf_check_ways.proofs.StepsSure.{steps_alike}
use Rattle.cf_check_ways.proofs.laws.answers_to_one_event_are_alike.Goals as goal

pub returns : goal.returns
returns c = steps_alike
