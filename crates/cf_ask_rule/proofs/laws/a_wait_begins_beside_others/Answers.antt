use Rattle.cf_ask_rule.proofs.Beginning.{begins}
use Rattle.cf_ask_rule.proofs.laws.a_wait_begins_beside_others.Goals as goal

pub returns : goal.returns
returns c = λ item v waits begun asks settled full. begins item v waits begun asks settled full
