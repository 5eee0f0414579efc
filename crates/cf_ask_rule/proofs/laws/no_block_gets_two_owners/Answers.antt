use Rattle.cf_model.specs.Asks.{left_of, why}
use Rattle.cf_ask_rule.proofs.Owned.{stay_apart}
use Rattle.cf_ask_rule.proofs.laws.no_block_gets_two_owners.Goals as goal

pub returns : goal.returns
returns c = λ item other v d s apart b. stay_apart item other v d (why other v d s.asks) s (left_of (why other v d s.asks) s.waits) b (apart b)
