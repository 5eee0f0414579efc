use Rattle.std.proofs.Common.{◌∙◌, List, ap, arith, eqb, not, subst, sym}
use Rattle.std.proofs.lemmas.List.Elements.{All-filter}
use Rattle.cf_table.specs.Tables.{IsRowAt, IsRowGap, Table, without_row}
use Rattle.cf_table.specs.Targets.{AreBounded, IsBounded}
use Rattle.cf_table.specs.declared.rows.Row.{Row}
use Rattle.cf_table.proofs.TableMeans.{gap_is_without, not_there, remove_is_without}
use Rattle.cf_table.proofs.Counts.{count_gone, count_here}
use Rattle.cf_table.proofs.tables.Rows.remove_row.Goals as goal

pub returns-in-Ok : goal.returns-in-Ok
returns-in-Ok c =
    ap (λ (l : List Row). record { rows = l; next = c.self.inside.next })
    (c.remove_indexed-self-inside.ensures.removes ∙ remove_is_without 0 c.args.id c.self.inside.rows c.in-Ok.place c.self.invariant.indexed.table.rises (subst (λ (l : List Row). IsRowAt l c.args.id.0 c.in-Ok.place) c.as_slice.ensures c.in-Ok.ensures.found))
    ∙ ap (λ (t : Table). record t { rows = without_row c.args.id t.rows }) c.self.view_is

pub returns-in-Err : goal.returns-in-Err
returns-in-Err c =
    ap (λ (l : List Row). record c.args.self.now { rows = l }) (sym (gap_is_without c.args.id c.args.self.now.rows (not_there c.args.self.now.rows c.args.id.0 c.in-Err.field-0 (subst (λ (l : List Row). IsRowGap l c.args.id.0 c.in-Err.field-0) (c.as_slice.ensures ∙ ap (λ (t : Table). t.rows) c.self.view_is) c.in-Err.ensures.absent))))

pub overflow_sub-self : goal.overflow_sub-self
overflow_sub-self c =
    omega (arith, c.self.invariant.unlisted, count_here c.self.inside.rows c.in-Ok.place c.unlisted.result c.index.result.now (subst (λ (l : List Row). IsRowAt l c.args.id.0 c.in-Ok.place) c.as_slice.ensures c.in-Ok.ensures.found).in_range c.index.ensures c.unlisted.ensures)

pub invariant_of-self : goal.invariant_of-self
invariant_of-self c = record {
  indexed = c.remove_indexed-self-inside.ensures.indexed;
  bounded = subst (λ (l : List Row). AreBounded c.self.inside.bound l)
      (sym (c.remove_indexed-self-inside.ensures.removes ∙ remove_is_without 0 c.args.id c.self.inside.rows c.in-Ok.place c.self.invariant.indexed.table.rises (subst (λ (l : List Row). IsRowAt l c.args.id.0 c.in-Ok.place) c.as_slice.ensures c.in-Ok.ensures.found)))
      (All-filter (λ r. not (eqb r.id.0 c.args.id.0)) (λ r. IsBounded c.self.inside.bound r.identity) c.self.inside.rows c.self.invariant.bounded);
  root = c.self.invariant.root;
  unlisted = count_gone c.self.inside.unlisted c.unlisted.result c.in-Ok.place c.self.inside.rows c.remove_indexed-self-inside.new.rows c.index.result.now (subst (λ (l : List Row). IsRowAt l c.args.id.0 c.in-Ok.place) c.as_slice.ensures c.in-Ok.ensures.found).in_range
      c.self.invariant.unlisted c.index.ensures c.unlisted.ensures c.remove_indexed-self-inside.ensures.removes;
}
