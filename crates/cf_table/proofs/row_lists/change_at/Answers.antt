use Rattle.std.proofs.Common.{◌∙◌, ℕ, ap, arith, set, subst}
use Rattle.cf_table.specs.Tables.{IsTable, row_len}
use Rattle.cf_table.specs.declared.rows.Row.{Row}
use Rattle.cf_table.proofs.TableLens.{in_sum, kept_here, sum_fits, table_set}
use Rattle.cf_table.proofs.row_lists.change_at.Goals as goal

pub len-before-requires : goal.len-before-requires
len-before-requires c = (kept_here c.args.rows.now c.args.place c.item_mut-row.result.now c.requires.place c.item_mut-row.ensures.value c.requires.table.kept).spellable

pub overflow_sub-result : goal.overflow_sub-result
overflow_sub-result c =
    omega (arith, c.len-before.ensures.value, ap row_len c.item_mut-row.ensures.value, in_sum c.args.rows.now c.args.len c.args.place c.item_mut-row.result.now c.requires.place c.requires.table)

pub len-requires : goal.len-requires
len-requires c =
    c.apply.ensures.spellable (kept_here c.args.rows.now c.args.place c.item_mut-row.result.now c.requires.place c.item_mut-row.ensures.value c.requires.table.kept).spellable

pub overflow_add-result : goal.overflow_add-result
overflow_add-result c = omega (arith, sum_fits c.args.rows.now c.args.len (omega (arith, c.item_mut-row.ensures.few)) c.requires.table, c.len.ensures.small)

pub returns-clause-table : goal.returns-clause-table
returns-clause-table c =
    subst (λ (n : ℕ). IsTable (set c.args.rows.now c.args.place c.apply.new.self) n)
    (omega (arith, c.len-before.ensures.value, ap row_len c.item_mut-row.ensures.value, c.len.ensures.value))
    (table_set c.args.rows.now c.args.len c.args.place c.apply.new.self c.item_mut-row.result.now c.requires.place
    (ap (λ v. v.0) c.apply.ensures.rest.id ∙ ap (λ (r : Row). r.id.0) c.item_mut-row.ensures.value) c.len.ensures.kept c.requires.table)
