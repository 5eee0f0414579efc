use Rattle.cf_check_ways.proofs.StepsSure.{cut_off_shows}
use Rattle.cf_check_ways.proofs.laws.a_cut_off_answer_shows_a_front.Goals as goal

pub returns : goal.returns
returns c = cut_off_shows
