use Rattle.cf_check_ways.proofs.StepsSure.{step_afresh}
use Rattle.cf_check_ways.proofs.laws.no_opening_failed.Goals as goal

pub returns : goal.returns
returns c = step_afresh
