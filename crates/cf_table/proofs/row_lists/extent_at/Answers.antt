use Rattle.std.proofs.Common.{◌∙◌, ℕ, ap, arith, set, subst}
use Rattle.cf_table.specs.Tables.{IsTable, row_len}
use Rattle.cf_table.specs.declared.rows.Row.{Row}
use Rattle.cf_table.proofs.TableLens.{in_sum, kept_here, spellable_same, sum_fits, table_set}
use Rattle.cf_table.proofs.row_lists.extent_at.Goals as goal

pub len-old_len-requires : goal.len-old_len-requires
len-old_len-requires c = (kept_here c.args.rows.now c.args.place c.item_mut-row.result.now c.requires.place c.item_mut-row.ensures.value c.requires.table.kept).spellable

pub overflow_sub-len : goal.overflow_sub-len
overflow_sub-len c =
    omega (arith, c.len-old_len.ensures.value, ap row_len c.item_mut-row.ensures.value, in_sum c.args.rows.now c.args.len.now c.args.place c.item_mut-row.result.now c.requires.place c.requires.table)

pub len-requires : goal.len-requires
len-requires c =
    spellable_same c.item_mut-row.result.now c.set_extent.new.self (ap (λ (r : Row). r.name) c.in_ok-before.ensures.sets.rest) (ap (λ (r : Row). r.identity) c.in_ok-before.ensures.sets.rest)
    (kept_here c.args.rows.now c.args.place c.item_mut-row.result.now c.requires.place c.item_mut-row.ensures.value c.requires.table.kept).spellable

pub overflow_add-len : goal.overflow_add-len
overflow_add-len c = omega (arith, sum_fits c.args.rows.now c.args.len.now (omega (arith, c.item_mut-row.ensures.few)) c.requires.table, c.len.ensures.small)

pub returns-clause-table : goal.returns-clause-table
returns-clause-table c =
    subst (λ (n : ℕ). IsTable (set c.args.rows.now c.args.place c.set_extent.new.self) n)
    (omega (arith, c.len-old_len.ensures.value, ap row_len c.item_mut-row.ensures.value, c.len.ensures.value))
    (table_set c.args.rows.now c.args.len.now c.args.place c.set_extent.new.self c.item_mut-row.result.now c.requires.place
    (ap (λ (r : Row). r.id.0) c.in_ok-before.ensures.sets.rest ∙ ap (λ (r : Row). r.id.0) c.item_mut-row.ensures.value) c.len.ensures.kept c.requires.table)
