use Rattle.std.proofs.Common.{List, refl, subst, sym}
use Rattle.cf_base.specs.declared.spans.Span.{Span}
use Rattle.cf_ranges.specs.Positions.{IsMissing}
use Rattle.cf_table.proofs.ByteMeans.{empty_bytes}
use Rattle.cf_table.proofs.Told.{means, told}
use Rattle.cf_table.proofs.rows.Row.empty.Goals as goal

pub returns-clause-ok : goal.returns-clause-ok
returns-clause-ok c = λ i m.
    means _ _ (told c.args.self.now i m)
    (empty_bytes c.args.self.now _ c.args.span c.as_slice-spans.result.now i
    (subst (λ (gs : List Span). IsMissing c.args.self.now.modified c.args.span gs) (sym c.as_slice-spans.ensures.value) c.in_ok-gaps.ensures.missing)
    c.in_ok-here.ensures c.in_ok-valid.ensures refl refl refl refl refl refl m.bytes)
