use Rattle.std.proofs.Common.{◌+◌, ◌++◌, ◌∷◌, [], ℕ, List, arith, subst, sym}
use Rattle.cf_table.specs.Tables.{IsTable}
use Rattle.cf_table.specs.declared.rows.Row.{Row}
use Rattle.cf_table.proofs.TableLens.{sum_fits, table_push}
use Rattle.cf_table.proofs.row_lists.push_row.Goals as goal

pub overflow_add-result : goal.overflow_add-result
overflow_add-result c = omega (arith, sum_fits c.args.rows.now c.args.len (omega (arith, c.in_ok-push.ensures.few)) c.requires.table, c.len-more.ensures.small)

pub returns-clause-table : goal.returns-clause-table
returns-clause-table c =
    subst (λ (rs : List Row). IsTable rs (c.args.len + c.len-more.result)) (sym c.in_ok-push.ensures.ok)
    (subst (λ (n : ℕ). IsTable (c.args.rows.now ++ c.args.row ∷ []) n) (omega (arith, c.len-more.ensures.value))
    (table_push c.args.rows.now c.args.len c.args.row c.requires.above c.len-more.ensures.kept c.requires.table))
