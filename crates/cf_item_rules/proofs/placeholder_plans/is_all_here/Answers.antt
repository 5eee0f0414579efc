use Rattle.std.proofs.Common.{◌∙◌, List, ap}
use Rattle.cf_base.specs.declared.spans.Span.{Span}
use Rattle.cf_ranges.specs.Positions.{IsRuns, contains}
use Rattle.std.proofs.Common.{subst, sym}
use Rattle.std.proofs.lemmas.Bool.{ne_eqb}
use Rattle.cf_item_rules.proofs.WholeRows.{first_run, late_run, no_runs}
use Rattle.cf_item_rules.proofs.placeholder_plans.is_all_here.Goals as goal

pub returns-in-empty : goal.returns-in-empty
returns-in-empty c = λ i m. no_runs c.runs.result.now i.held c.args.row.now.size c.in-empty.len_below m.bytes.size (λ p. ap (λ (v : List Span). contains v p) c.runs.ensures.value ∙ m.bytes.here p)

pub returns-then-first-eq0 : goal.returns-then-first-eq0
returns-then-first-eq0 c = λ i m.
    first_run c.runs.result.now i.held c.args.row.now.size _ c.in-len1-up.len_at_least (subst IsRuns (sym c.runs.ensures.value) c.runs.ensures.maximal) c.if-first-eq0.true m.bytes.size
    (λ p. ap (λ (v : List Span). contains v p) c.runs.ensures.value ∙ m.bytes.here p)

pub returns-else-first-eq0 : goal.returns-else-first-eq0
returns-else-first-eq0 c = λ i m.
    ne_eqb _ 0 c.if-first-eq0.false
    ∙ late_run c.runs.result.now i.held _ c.in-len1-up.len_at_least (subst IsRuns (sym c.runs.ensures.value) c.runs.ensures.maximal) c.if-first-eq0.false
    (λ p. ap (λ (v : List Span). contains v p) c.runs.ensures.value ∙ m.bytes.here p)
