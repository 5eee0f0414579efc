use Rattle.std.proofs.Common.{◌∙◌, sym, arith}
use Rattle.cf_ask_rule.proofs.Covering.{all_owned}
use Rattle.cf_ask_rule.proofs.asks.has_all.Goals as goal

pub returns : goal.returns
returns c = c.any_covers.ensures ∙ sym (all_owned c.args.runs.now c.args.blocks.start c.args.blocks.len c.requires (omega arith))
