use Rattle.cf_ask_rule.proofs.Settling.{settles}
use Rattle.cf_ask_rule.proofs.laws.each_step_settles_its_item.Goals as goal

pub returns : goal.returns
returns c = λ item v d s. settles item v d s
