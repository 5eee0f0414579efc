use Rattle.std.proofs.Common.{◌∙◌, List, ap, subst, sym}
use Rattle.cf_base.specs.declared.spans.Span.{Span}
use Rattle.cf_model.specs.Requests.{Live, has_block}
use Rattle.cf_ranges.specs.Positions.{IsRuns, contains}
use Rattle.cf_ask_rule.proofs.Places.{has_places}
use Rattle.cf_ask_rule.proofs.asks.LiveAsk.runs.Goals as goal

pub returns-clause-blocks : goal.returns-clause-blocks
returns-clause-blocks c = λ b. ap (λ (v : List Span). contains v b) c.runs.ensures.value ∙ sym (has_places c.self.inside.owned b) ∙ ap (λ (a : Live). has_block a.owned b) c.self.view_is

pub returns-clause-maximal : goal.returns-clause-maximal
returns-clause-maximal c = subst (λ (v : List Span). IsRuns v) (sym c.runs.ensures.value) c.runs.ensures.maximal
