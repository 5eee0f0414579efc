use Rattle.cf_model.specs.Asks.{left_of, step_of, why}
use Rattle.cf_ask_rule.proofs.Covers.{covers}
use Rattle.cf_ask_rule.proofs.Owned.{just_one, owners_some, stay_apart}
use Rattle.cf_ask_rule.proofs.laws.each_missing_block_has_one_owner.Goals as goal
use Rattle.cf_ask_rule.specs.Deeds.{after}
use Rattle.cf_ask_rule.specs.Owners.{owners}

pub returns : goal.returns
returns c = λ item v d s b apart l w. just_one (owners item b (step_of item v d s).1.asks)
    (owners_some item b (step_of item v d s).1.asks (covers item v d (why item v d s.asks) s (left_of (why item v d s.asks) s.waits) (after d s.asks) b l w))
    (stay_apart item item v d (why item v d s.asks) s (left_of (why item v d s.asks) s.waits) b (apart b))
