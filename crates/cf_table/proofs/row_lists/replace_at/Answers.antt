use Rattle.std.proofs.Common.{◌+◌, ◌-◌, ◌∙◌, ℕ, List, ap, arith, set, subst, sym}
use Rattle.cf_table.specs.Tables.{IsTable, row_len}
use Rattle.cf_table.specs.declared.rows.Row.{Row}
use Rattle.cf_table.proofs.TableLens.{in_sum, kept_here, sum_fits, table_set}
use Rattle.cf_table.proofs.TableMeans.{set_is_with}
use Rattle.cf_table.proofs.row_lists.replace_at.Goals as goal

pub len-before-requires : goal.len-before-requires
len-before-requires c = (kept_here c.args.rows.now c.args.place c.replace.result c.requires.place.in_range c.replace.ensures.value c.requires.table.kept).spellable

pub overflow_sub-result : goal.overflow_sub-result
overflow_sub-result c =
    omega (arith, c.len-before.ensures.value, ap row_len c.replace.ensures.value, in_sum c.args.rows.now c.args.len c.args.place c.replace.result c.requires.place.in_range c.requires.table)

pub overflow_add-result : goal.overflow_add-result
overflow_add-result c = omega (arith, sum_fits c.args.rows.now c.args.len (omega (arith, c.replace.ensures.few)) c.requires.table, c.len-after.ensures.small)

pub returns-clause-table : goal.returns-clause-table
returns-clause-table c =
    subst (λ (l : List Row). IsTable l (c.args.len - c.len-before.result + c.len-after.result)) (sym c.replace.ensures.items) (
    subst (λ (n : ℕ). IsTable (set c.args.rows.now c.args.place c.args.row) n)
    (omega (arith, c.len-before.ensures.value, ap row_len c.replace.ensures.value, c.len-after.ensures.value))
    (table_set c.args.rows.now c.args.len c.args.place c.args.row c.replace.result c.requires.place.in_range (sym (c.requires.place.has_id c.replace.result)) c.len-after.ensures.kept c.requires.table))

pub returns-clause-puts : goal.returns-clause-puts
returns-clause-puts c = c.replace.ensures.items ∙ set_is_with 0 c.args.rows.now c.args.place c.args.row c.requires.table.rises c.requires.place
