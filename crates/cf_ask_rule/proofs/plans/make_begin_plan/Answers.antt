use Rattle.std.proofs.Common.{◌∙◌, ap, subst, sym, List}
use Rattle.cf_base.specs.declared.spans.Span.{Span}
use Rattle.cf_model.specs.Asks.{new_asks}
use Rattle.cf_model.specs.Missing.{Wait}
use Rattle.cf_ranges.specs.Positions.{IsRuns, contains}
use Rattle.cf_ask_rule.proofs.Wanting.{wants}
use Rattle.cf_ask_rule.proofs.plans.make_begin_plan.Goals as goal

pub new_asks-requires-clause-runs : goal.new_asks-requires-clause-runs
new_asks-requires-clause-runs c = subst (λ (s : List Span). IsRuns s) (sym c.as_slice-needs.ensures.value) c.in_ok-spans.ensures.maximal

pub new_asks-requires-clause-wants : goal.new_asks-requires-clause-wants
new_asks-requires-clause-wants c = wants c.args.item c.args.v.now c.as_slice-live.result.now c.as_slice-needs.result.now (λ p l. ap (λ (s : List Span). contains s p) c.as_slice-needs.ensures.value ∙ c.in_ok-spans.ensures.needed p l)

pub returns-clause-made : goal.returns-clause-made
returns-clause-made c =
    c.in_ok-made.ensures ∙ ap (λ (ws : List Wait). new_asks c.args.item c.args.v.now ws c.args.asks.now) (c.as_slice-live.ensures.value ∙ c.in_ok-ended.ensures.left)
