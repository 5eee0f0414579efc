use Rattle.cf_check_ways.proofs.StepsSure.{step_count}
use Rattle.cf_check_ways.proofs.laws.each_message_has_a_line.Goals as goal

pub returns : goal.returns
returns c = step_count
