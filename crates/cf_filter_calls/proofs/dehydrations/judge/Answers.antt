use Rattle.std.proofs.Common.{sym, ap, ◌∙◌}
use Rattle.std.specs.Prelude.{option_copied}
use Rattle.cf_filter_calls.proofs.Dehydrated.{judged, judged_none}
use Rattle.cf_filter_calls.proofs.dehydrations.judge.Goals as goal

pub returns-in-Some : goal.returns-in-Some
returns-in-Some g c = judged g.S.Steps.sense c.args.s.now c.rows.result.now c.args.id c.in-Some.row.now c.facts_of.result c.policy-policy.result c.args.start c.args.len c.args.used c.code_of.result c.rows.ensures.means (sym c.get.ensures ∙ ap option_copied c.in-Some.is)
    c.policy-policy.ensures (λ q i t. c.code_of.ensures ∙ c.verdict.ensures.model q i t) c.facts_of.ensures.tells c.facts_of.ensures.start c.facts_of.ensures.len c.facts_of.ensures.used

pub returns-in-None : goal.returns-in-None
returns-in-None g c = judged_none g.S.Steps.sense c.args.s.now c.rows.result.now c.args.id c.args.start c.args.len c.args.used c.rows.ensures.means (sym c.get.ensures ∙ ap option_copied c.in-None.is)
