use Rattle.std.proofs.Common.{◌∙◌, sym, ap}
use Rattle.cf_model.specs.Words.{is_empty}
use Rattle.cf_ask_rule.proofs.Places.{no_places}
use Rattle.cf_ask_rule.proofs.asks.LiveAsk.has_no_block.Goals as goal

pub returns : goal.returns
returns c = c.is_empty.ensures ∙ ap is_empty c.runs.ensures.value ∙ sym (no_places c.self.inside.owned c.runs.ensures.maximal) ∙ ap (λ a. is_empty a.owned) c.self.view_is
