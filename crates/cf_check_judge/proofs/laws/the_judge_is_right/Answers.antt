use Rattle.cf_check_judge.proofs.Right.{judge_is_right}
use Rattle.cf_check_judge.proofs.laws.the_judge_is_right.Goals as goal

pub returns : goal.returns
returns c = judge_is_right
