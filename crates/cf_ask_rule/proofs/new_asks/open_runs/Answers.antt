use Rattle.cf_ask_rule.proofs.Runs.{small_runs}
use Rattle.cf_ask_rule.proofs.new_asks.open_runs.Goals as goal

pub returns-clause-small : goal.returns-clause-small
returns-clause-small c = rw c.in_ok-runs.ensures (small_runs c.args.v.now c.args.blocks.now c.requires)
