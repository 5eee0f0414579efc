use Rattle.cf_model.specs.Asks.{left_of, why}
use Rattle.cf_ask_rule.proofs.Missed.{all_missed}
use Rattle.cf_ask_rule.proofs.laws.each_data_ask_has_a_missed_block.Goals as goal
use Rattle.cf_ask_rule.specs.Deeds.{after}

pub returns : goal.returns
returns c = λ item v d s. all_missed item v d (why item v d s.asks) s (left_of (why item v d s.asks) s.waits) (after d s.asks)
