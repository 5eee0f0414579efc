use Rattle.std.proofs.Common.{◌+◌, ◌∙◌, ℕ, List, arith, subst, sym}
use Rattle.std.specs.Prelude.{insert}
use Rattle.cf_table.specs.Tables.{IsTable}
use Rattle.cf_table.specs.declared.rows.Row.{Row}
use Rattle.cf_table.proofs.TableLens.{sum_fits, table_insert}
use Rattle.cf_table.proofs.TableMeans.{insert_is_with}
use Rattle.cf_table.proofs.row_lists.insert_at.Goals as goal

pub overflow_add-result : goal.overflow_add-result
overflow_add-result c = omega (arith, sum_fits c.args.rows.now c.args.len (omega (arith, c.in_ok-insert.ensures.few)) c.requires.table, c.len-more.ensures.small)

pub returns-clause-table : goal.returns-clause-table
returns-clause-table c =
    subst (λ (rs : List Row). IsTable rs (c.args.len + c.len-more.result)) (sym c.in_ok-insert.ensures.ok)
    (subst (λ (n : ℕ). IsTable (insert c.args.rows.now c.args.place c.args.row) n) (omega (arith, c.len-more.ensures.value))
    (table_insert c.args.rows.now c.args.len c.args.place c.args.row c.requires.place c.len-more.ensures.kept c.requires.table))

pub returns-clause-puts : goal.returns-clause-puts
returns-clause-puts c = c.in_ok-insert.ensures.ok ∙ insert_is_with c.args.rows.now c.args.place c.args.row c.requires.place
