use Rattle.cf_model.specs.Asks.{is_wanted}
use Rattle.cf_ask_rule.proofs.asks.is_wanted_by.Goals as goal

pub returns : goal.returns
returns c = c.is_wanted.ensures (is_wanted c.args.item c.args.v.now c.args.waits.now) c.requires.wants
