use Rattle.std.proofs.Common.{◌∙◌, ap, not, subst, sym, List}
use Rattle.std.specs.Prelude.{filter}
use Rattle.cf_base.specs.declared.spans.Span.{Span}
use Rattle.cf_model.specs.Asks.{is_cancelled, left_of, new_asks, why}
use Rattle.cf_model.specs.Missing.{Wait}
use Rattle.cf_model.specs.Requests.{Deed, Live}
use Rattle.cf_ranges.specs.Positions.{IsRuns, contains}
use Rattle.cf_ask_rule.proofs.Wanting.{wants}
use Rattle.cf_ask_rule.proofs.plans.make_plan.Goals as goal
use Rattle.cf_ask_rule.specs.Deeds.{after, deed_of}

pub part_asks-requires-clause-runs : goal.part_asks-requires-clause-runs
part_asks-requires-clause-runs c = subst (λ (s : List Span). IsRuns s) (sym c.as_slice-needs.ensures.value) c.in_ok-spans.ensures.maximal

pub part_asks-requires-clause-wants : goal.part_asks-requires-clause-wants
part_asks-requires-clause-wants c = wants c.args.item c.args.v.now c.as_slice-live.result.now c.as_slice-needs.result.now (λ p l. ap (λ (s : List Span). contains s p) c.as_slice-needs.ensures.value ∙ c.in_ok-spans.ensures.needed p l)

pub new_asks-requires-clause-runs : goal.new_asks-requires-clause-runs
new_asks-requires-clause-runs c = subst (λ (s : List Span). IsRuns s) (sym c.as_slice-needs.ensures.value) c.in_ok-spans.ensures.maximal

pub new_asks-requires-clause-wants : goal.new_asks-requires-clause-wants
new_asks-requires-clause-wants c = wants c.args.item c.args.v.now c.as_slice-live.result.now c.as_slice-needs.result.now (λ p l. ap (λ (s : List Span). contains s p) c.as_slice-needs.ensures.value ∙ c.in_ok-spans.ensures.needed p l)

pub returns-clause-kept : goal.returns-clause-kept
returns-clause-kept c =
    let d : Deed = deed_of c.args.act in
    c.in_ok-cancelled.ensures.kept
    ∙ ap (filter (λ a. not (is_cancelled c.args.item c.args.v.now d c.as_slice-live.result.now a))) c.in_ok-all.ensures
    ∙ ap (λ (ws : List Wait). filter (λ a. not (is_cancelled c.args.item c.args.v.now d ws a)) (after d c.args.asks.items))
    (c.as_slice-live.ensures.value ∙ c.in_ok-ended.ensures.left ∙ ap (λ (l : List Live). left_of (why c.args.item c.args.v.now d l) c.args.waits.now) c.as_slice-before.ensures.value)

pub returns-clause-made : goal.returns-clause-made
returns-clause-made c =
    let d : Deed = deed_of c.args.act in
    let left : List Wait = left_of (why c.args.item c.args.v.now d c.args.asks.items) c.args.waits.now in
    let same = c.as_slice-live.ensures.value ∙ c.in_ok-ended.ensures.left ∙ ap (λ (l : List Live). left_of (why c.args.item c.args.v.now d l) c.args.waits.now) c.as_slice-before.ensures.value in
    c.in_ok-made.ensures
    ∙ ap (λ (ws : List Wait). new_asks c.args.item c.args.v.now ws c.deref.result.now) same
    ∙ ap (λ (asks : List Live). new_asks c.args.item c.args.v.now left asks)
    (c.deref.ensures.value ∙ c.in_ok-cancelled.ensures.kept
    ∙ ap (filter (λ a. not (is_cancelled c.args.item c.args.v.now d c.as_slice-live.result.now a))) c.in_ok-all.ensures
    ∙ ap (λ (ws : List Wait). filter (λ a. not (is_cancelled c.args.item c.args.v.now d ws a)) (after d c.args.asks.items)) same)
