use Rattle.cf_ask_rule.proofs.Local.{local}
use Rattle.cf_ask_rule.proofs.laws.a_step_looks_at_its_item.Goals as goal

pub returns : goal.returns
returns c = λ item v d waits asks full agree. local item v d waits asks full agree
