use Rattle.std.proofs.Common.{List, ◌+◌, ◌-◌, ◌∙◌, ap, arith, get_or, max, min}
use Rattle.cf_base.specs.declared.spans.Span.{Span}
use Rattle.cf_ranges.proofs.Joins.{put_apart, put_joined}
use Rattle.cf_ranges.specs.Steps.{begun, ended, span}
use Rattle.cf_ranges.proofs.run_lists.put_span.Goals as goal

pub returns-then-first-last-clause-ok : goal.returns-then-first-last-clause-ok
returns-then-first-last-clause-ok c =
    c.in_ok-insert.ensures.items ∙ put_apart c.args.span c.ended-first.result c.begun-last.result 0 c.args.runs.now.items c.requires.runs c.requires.some
    (c.ended-first.ensures.count ∙ ap (λ (l : List Span). ended c.args.span.start l) c.deref.ensures.value)
    (c.begun-last.ensures.count ∙ ap (λ (l : List Span). begun (c.args.span.start + c.args.span.len) l) c.deref-2.ensures.value)
    c.if-first-last.true

pub returns-clause-ok : goal.returns-clause-ok
returns-clause-ok c =
    let none : Span = record { start = 0; len = 0 } in
    let end = c.args.span.start + c.args.span.len in
    c.take_out.ensures ∙ put_joined c.args.span c.joined.result c.ended-first.result c.begun-last.result 0 c.args.runs.now.items none c.requires.runs c.requires.some
    (c.ended-first.ensures.count ∙ ap (λ (l : List Span). ended c.args.span.start l) c.deref.ensures.value)
    (c.begun-last.ensures.count ∙ ap (λ (l : List Span). begun end l) c.deref-2.ensures.value)
    c.if-first-last.false
    (omega arith)
    (c.joined.ensures none ∙ ap (λ (l : List Span). span (min c.args.span.start (get_or l c.ended-first.result none).start) (max end ((get_or l (c.begun-last.result - 1) none).start + (get_or l (c.begun-last.result - 1) none).len))) c.deref-3.ensures.value)
