use Rattle.cf_check_traces.proofs.Decisions.{step_decided}
use Rattle.cf_check_traces.proofs.laws.how_a_report_goes_on_decides_the_answer.Goals as goal

pub returns : goal.returns
returns c = step_decided
