use Rattle.cf_ask_rule.proofs.Fronted.{ends_by}
use Rattle.cf_ask_rule.proofs.asks.end_of_blocks.Goals as goal

pub returns : goal.returns
returns c = ends_by c.greatest_end.result c.args.runs.now c.greatest_end.ensures
