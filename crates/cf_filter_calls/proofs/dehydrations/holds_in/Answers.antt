use Rattle.std.proofs.Common.{ap, ◌∙◌, List, ◌+◌}
use Rattle.std.specs.Prelude.{nat_lt}
use Rattle.std.specs.List.{list_any}
use Rattle.cf_base.specs.declared.spans.Span.{Span}
use Rattle.cf_filter_calls.proofs.Dehydrated.{holds_is}
use Rattle.cf_filter_calls.proofs.dehydrations.holds_in.Goals as goal

pub returns : goal.returns
returns c = λ i m. holds_is c.args.row.now.here i c.args.start c.any_past.result c.runs.ensures.maximal m.bytes.here
    (c.any_past.ensures ∙ ap (λ (runs : List Span). list_any (λ (r : Span). nat_lt c.args.start (r.start + r.len)) runs) c.runs.ensures.value)
