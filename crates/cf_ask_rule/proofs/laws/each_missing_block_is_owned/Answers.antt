use Rattle.cf_model.specs.Asks.{left_of, why}
use Rattle.cf_ask_rule.proofs.Covers.{covers}
use Rattle.cf_ask_rule.proofs.laws.each_missing_block_is_owned.Goals as goal
use Rattle.cf_ask_rule.specs.Deeds.{after}

pub returns : goal.returns
returns c = λ item v d s b l w. covers item v d (why item v d s.asks) s (left_of (why item v d s.asks) s.waits) (after d s.asks) b l w
