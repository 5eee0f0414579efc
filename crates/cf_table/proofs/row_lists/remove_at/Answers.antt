use Rattle.std.proofs.Common.{◌-◌, ℕ, List, ap, arith, subst, sym}
use Rattle.std.specs.Prelude.{remove}
use Rattle.cf_table.specs.Tables.{IsTable, row_len}
use Rattle.cf_table.specs.declared.rows.Row.{Row}
use Rattle.cf_table.proofs.TableLens.{in_sum, kept_here, table_remove}
use Rattle.cf_table.proofs.row_lists.remove_at.Goals as goal

pub len-requires : goal.len-requires
len-requires c = (kept_here c.args.rows.now c.args.place c.remove-row.result c.requires.place c.remove-row.ensures.value c.requires.table.kept).spellable

pub overflow_sub-result : goal.overflow_sub-result
overflow_sub-result c =
    omega (arith, c.len.ensures.value, ap row_len c.remove-row.ensures.value, in_sum c.args.rows.now c.args.len c.args.place c.remove-row.result c.requires.place c.requires.table)

pub returns-clause-table : goal.returns-clause-table
returns-clause-table c =
    subst (λ (rs : List Row). IsTable rs (c.args.len - c.len.result)) (sym c.remove-row.ensures.items)
    (subst (λ (n : ℕ). IsTable (remove c.args.rows.now c.args.place) n) (omega (arith, c.len.ensures.value, ap row_len c.remove-row.ensures.value))
    (table_remove c.args.rows.now c.args.len c.args.place c.remove-row.result c.requires.place c.requires.table))
