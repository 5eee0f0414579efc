use Rattle.cf_check_ways.proofs.StepsSure.{any_step_count}
use Rattle.cf_check_ways.proofs.laws.each_message_of_a_cut_off_event_has_a_line.Goals as goal

pub returns : goal.returns
returns c = any_step_count
