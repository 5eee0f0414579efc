use Rattle.std.proofs.Common.{List, subst, sym}
use Rattle.cf_base.specs.declared.spans.Span.{Span}
use Rattle.cf_ranges.specs.Positions.{Adds, CutsAll, IsMissing}
use Rattle.cf_table.proofs.ByteMeans.{vouched_for}
use Rattle.cf_table.proofs.TableMeans.{if_ok_map}
use Rattle.cf_table.proofs.rows.Row.validated.Goals as goal

pub returns : goal.returns
returns c = if_ok_map c.with_all.result _ _ (λ v more.
    vouched_for c.args.self.now.here c.args.self.now.valid v c.args.span c.in_ok-all.all c.as_slice.result.now c.runs.result.now
    (subst (λ (o : List Span). Adds o c.in_ok-all.all c.args.span) c.new.ensures c.in_ok-all.ensures)
    (subst (λ (gs : List Span). IsMissing c.args.self.now.here c.args.span gs) (sym c.as_slice.ensures.value) c.in_ok-gaps.ensures.missing)
    (subst (λ (v : List Span). CutsAll c.in_ok-all.all v c.as_slice.result.now) (sym c.runs.ensures.value) c.in_ok-vouched.ensures) more) c.with_all.ensures
