use Rattle.std.proofs.Common.{◌∙◌, ℕ, ap, arith, set, subst}
use Rattle.cf_table.specs.Tables.{IsTable, row_len}
use Rattle.cf_table.specs.declared.rows.Row.{Row}
use Rattle.cf_table.proofs.TableLens.{in_sum, kept_here, spellable_same, table_set}
use Rattle.cf_table.proofs.row_lists.anchor_at.Goals as goal

pub len-before-requires : goal.len-before-requires
len-before-requires c = (kept_here c.args.rows.now c.args.place c.item_mut-row.result.now c.requires.place c.item_mut-row.ensures.value c.requires.table.kept).spellable

pub overflow_sub-result : goal.overflow_sub-result
overflow_sub-result c =
    omega (arith, c.len-before.ensures.value, ap row_len c.item_mut-row.ensures.value, in_sum c.args.rows.now c.args.len c.args.place c.item_mut-row.result.now c.requires.place c.requires.table)

pub len-requires : goal.len-requires
len-requires c =
    spellable_same c.item_mut-row.result.now c.set_anchor.new.self (ap (λ (r : Row). r.name) c.set_anchor.ensures.rest) (ap (λ (r : Row). r.identity) c.set_anchor.ensures.rest)
    (kept_here c.args.rows.now c.args.place c.item_mut-row.result.now c.requires.place c.item_mut-row.ensures.value c.requires.table.kept).spellable

pub returns-clause-table : goal.returns-clause-table
returns-clause-table c =
    subst (λ (n : ℕ). IsTable (set c.args.rows.now c.args.place c.set_anchor.new.self) n)
    (omega (arith, c.len-before.ensures.value, ap row_len c.item_mut-row.ensures.value, c.len.ensures.value))
    (table_set c.args.rows.now c.args.len c.args.place c.set_anchor.new.self c.item_mut-row.result.now c.requires.place
    (ap (λ (r : Row). r.id.0) c.set_anchor.ensures.rest ∙ ap (λ (r : Row). r.id.0) c.item_mut-row.ensures.value) c.len.ensures.kept c.requires.table)
