use Rattle.std.proofs.Common.{◌∙◌, List, ap, rules, subst, sym}
use Rattle.std.specs.List.{AllByRecursion}
use Rattle.std.specs.List.Sorted.{IsNonDecreasingBy}
use Rattle.std.proofs.lemmas.List.Sorted.{IsNonDecreasingBy-from_sort_by_key}
use Rattle.cf_base.specs.declared.spans.Span.{Span}
use Rattle.cf_ask_rule.proofs.Joined.{sorted_small, union_has, union_runs}
use Rattle.cf_ask_rule.proofs.unions.union_of.Goals as goal
use Rattle.cf_ask_rule.specs.Unions.{IsSmall, joined_on}
use Rattle.cf_ranges.specs.Positions.{IsRuns, contains}

pub joined-requires : goal.joined-requires
joined-requires c = subst (λ (v : List Span). AllByRecursion IsSmall v) (sym c.deref.ensures.value) (sorted_small c.args.spans.items c.sort_unstable_by_key.new.self.items c.sort_unstable_by_key.ensures.permutation c.requires)

pub returns-clause-same : goal.returns-clause-same
returns-clause-same c =
    let sorted : List Span = c.sort_unstable_by_key.new.self.items in
    let order : IsNonDecreasingBy (λ (s : Span). s.start) sorted = IsNonDecreasingBy-from_sort_by_key (λ (s : Span). s.start) sorted c.sort_unstable_by_key.ensures.sorted (λ a r q k. search rules) in
    λ p. ap (λ (v : List Span). contains v p) c.in_ok-runs.ensures ∙ ap (λ (v : List Span). contains (joined_on 0 0 v) p) c.deref.ensures.value ∙ union_has p c.args.spans.items sorted c.sort_unstable_by_key.ensures.permutation order

pub returns-clause-maximal : goal.returns-clause-maximal
returns-clause-maximal c =
    let sorted : List Span = c.sort_unstable_by_key.new.self.items in
    let order : IsNonDecreasingBy (λ (s : Span). s.start) sorted = IsNonDecreasingBy-from_sort_by_key (λ (s : Span). s.start) sorted c.sort_unstable_by_key.ensures.sorted (λ a r q k. search rules) in
    subst (λ (v : List Span). IsRuns v) (sym (c.in_ok-runs.ensures ∙ ap (λ (v : List Span). joined_on 0 0 v) c.deref.ensures.value)) (union_runs c.args.spans.items sorted c.sort_unstable_by_key.ensures.permutation c.requires order)
