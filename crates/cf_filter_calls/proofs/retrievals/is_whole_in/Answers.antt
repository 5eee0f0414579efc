use Rattle.std.proofs.Common.{◌∙◌, ap, List, ◌+◌}
use Rattle.std.specs.Prelude.{nat_le, ◌&&◌}
use Rattle.std.specs.List.{list_any}
use Rattle.cf_base.specs.declared.spans.Span.{Span}
use Rattle.cf_filter_calls.proofs.Retrieved.{whole_is, whole_none}
use Rattle.cf_filter_calls.proofs.retrievals.is_whole_in.Goals as goal

pub returns-then-span-eq0 : goal.returns-then-span-eq0
returns-then-span-eq0 c = λ i m. whole_none c.args.span i c.if-span-eq0.true

pub returns : goal.returns
returns c = λ i m. whole_is c.args.row.now.here c.args.span i c.any_covers.result c.runs.ensures.maximal m.bytes.here c.if-span-eq0.false
    (c.any_covers.ensures ∙ ap (λ (runs : List Span). list_any (λ (r : Span). nat_le r.start c.args.span.start && nat_le (c.args.span.start + c.args.span.len) (r.start + r.len)) runs) c.runs.ensures.value)
