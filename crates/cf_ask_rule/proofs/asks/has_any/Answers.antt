use Rattle.std.proofs.Common.{◌∙◌, sym}
use Rattle.cf_ask_rule.proofs.Places.{any_places}
use Rattle.cf_ask_rule.proofs.asks.has_any.Goals as goal
use Rattle.cf_ranges.specs.Positions.{within}

pub returns : goal.returns
returns c = c.any_reaches.ensures ∙ sym (any_places (within c.args.first c.args.end) c.args.runs.now)
