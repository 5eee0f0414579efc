use Rattle.std.proofs.Common.{◌∙◌, List, ap}
use Rattle.std.specs.Prelude.{filter}
use Rattle.cf_base.specs.declared.spans.Span.{Span}
use Rattle.cf_ask_rule.proofs.Joined.{spans_have, spans_small}
use Rattle.cf_ask_rule.proofs.misses.needs_of.Goals as goal
use Rattle.cf_ask_rule.specs.Near.{is_on}
use Rattle.cf_ranges.specs.Positions.{contains}

pub union_of-requires : goal.union_of-requires
union_of-requires c = rw c.in_ok-spans.ensures.spans (spans_small c.args.v.now (filter (is_on c.args.item) c.args.waits.now) c.spans_needed.ensures.small)

pub returns-clause-needed : goal.returns-clause-needed
returns-clause-needed c = λ p l. c.in_ok-runs.ensures.same p ∙ ap (λ (s : List Span). contains s p) c.in_ok-spans.ensures.spans ∙ spans_have c.args.item c.args.v.now c.args.waits.now p l
