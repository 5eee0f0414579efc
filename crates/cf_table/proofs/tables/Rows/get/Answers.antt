use Rattle.std.proofs.Common.{◌∙◌, List, Some, ap, get_or, subst, sym}
use Rattle.cf_table.specs.Tables.{IsRowAt, IsRowGap, RisesFrom, Table}
use Rattle.cf_table.specs.declared.rows.Row.{Row}
use Rattle.cf_table.proofs.TableMeans.{found_row, no_row, not_there}
use Rattle.cf_table.proofs.tables.Rows.get.Goals as goal

pub returns-in-Ok : goal.returns-in-Ok
returns-in-Ok c = ap Some c.index.ensures ∙ ap (λ (l : List Row). Some (get_or l c.in-Ok.place c.index.result.now)) (ap (λ (t : Table). t.rows) c.self.view_is)
    ∙ sym (found_row 0 c.args.self.now.rows c.args.id c.in-Ok.place c.index.result.now (subst (λ (l : List Row). RisesFrom 0 l) (ap (λ (t : Table). t.rows) c.self.view_is) c.self.invariant.indexed.table.rises) (subst (λ (l : List Row). IsRowAt l c.args.id.0 c.in-Ok.place) (c.as_slice.ensures ∙ ap (λ (t : Table). t.rows) c.self.view_is) c.in-Ok.ensures.found))

pub returns-in-Err : goal.returns-in-Err
returns-in-Err c = sym (no_row c.args.self.now.rows c.args.id (not_there c.args.self.now.rows c.args.id.0 c.in-Err.field-0 (subst (λ (l : List Row). IsRowGap l c.args.id.0 c.in-Err.field-0) (c.as_slice.ensures ∙ ap (λ (t : Table). t.rows) c.self.view_is) c.in-Err.ensures.absent)))
