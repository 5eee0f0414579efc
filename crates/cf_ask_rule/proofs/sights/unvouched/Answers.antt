use Rattle.std.proofs.Common.{◌∙◌, ◌&&◌, ap, not}
use Rattle.cf_base.specs.declared.spans.Span.{Span}
use Rattle.cf_ranges.specs.Positions.{contains, in_span}
use Rattle.cf_ask_rule.proofs.Flags.{unvouched_at}
use Rattle.cf_ask_rule.proofs.sights.unvouched.Goals as goal

pub returns-clause-lacks : goal.returns-clause-lacks
returns-clause-lacks c = unvouched_at c.args.v.now.valid.now c.args.v.now.modified.now c.runs.result.now c.in_ok-vouched.vouched c.in_ok-bare.bare.items c.args.v.now.size c.runs.ensures.value c.in_ok-vouched.ensures (λ p. c.in_ok-bare.ensures.missing p ∙ ap (λ (s : Span). in_span s p && not (contains c.in_ok-vouched.vouched p)) c.whole.ensures)
