use Rattle.std.proofs.Common.{◌∙◌, sym}
use Rattle.cf_model.specs.Missing.{misses_block}
use Rattle.cf_ask_rule.proofs.Places.{any_places}
use Rattle.cf_ask_rule.proofs.asks.misses_runs.Goals as goal

pub returns : goal.returns
returns c = c.any_missed.ensures ∙ sym (any_places (misses_block c.args.v.now c.args.w.now) c.args.runs.now)
