use Rattle.std.proofs.Common.{◌∙◌, ◌||◌, List, ap}
use Rattle.cf_base.specs.declared.spans.Span.{Span}
use Rattle.cf_ask_rule.proofs.Places.{added_places}
use Rattle.cf_ask_rule.proofs.new_asks.counted.Goals as goal
use Rattle.cf_ranges.specs.Positions.{contains, in_span}

pub returns : goal.returns
returns c =
    let s : Span = record { start = c.args.first; len = c.args.count } in
    added_places c.add.new.self s c.runs-maximal.ensures.maximal (λ p. c.in_ok-add.ensures.ok p ∙ ap (λ (v : List Span). contains v p || in_span s p) c.new-blocks.ensures)
