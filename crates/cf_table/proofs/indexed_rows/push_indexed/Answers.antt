use Rattle.std.proofs.Common.{◌∙◌, [], ◌∷◌, List, ap, arith, length, length-append}
use Rattle.std.specs.Prelude.{remove}
use Rattle.cf_table.specs.declared.rows.Row.{Row}
use Rattle.cf_table.proofs.Indexed.{entries_in_order}
use Rattle.cf_table.proofs.IndexedAdds.{on_both, push_undone, pushed_all}
use Rattle.cf_table.proofs.TableMeans.{on_ok_map}
use Rattle.cf_table.proofs.indexed_rows.push_indexed.Goals as goal

pub add_entry_at-requires-clause-place : goal.add_entry_at-requires-clause-place
add_entry_at-requires-clause-place c = omega (arith, c.len-place.ensures, ap (λ (l : List Row). length l) c.in-Ok-push_row.ensures.adds, length-append c.args.rows.now (c.args.row ∷ []))

pub add_entry_at-requires-clause-order : goal.add_entry_at-requires-clause-order
add_entry_at-requires-clause-order c = entries_in_order c.args.rows.now c.args.index.now c.args.len c.requires.indexed

pub returns-in-Ok-push_row-clause-indexed : goal.returns-in-Ok-push_row-clause-indexed
returns-in-Ok-push_row-clause-indexed c =
    pushed_all c.add_entry_at.result c.args.rows.now c.push_row.new.rows c.add_entry_at.new.rows c.args.index.now c.add_entry_at.new.index c.in-Ok.entry c.args.row c.args.len c.in-Ok-push_row.len c.requires.indexed c.requires.above c.in-Ok.ensures
    c.in-Ok-push_row.ensures.adds c.in-Ok-push_row.ensures.table c.add_entry_at.ensures.rows c.add_entry_at.ensures.index c.add_entry_at.ensures.len

pub returns-in-Ok-push_row-clause-adds : goal.returns-in-Ok-push_row-clause-adds
returns-in-Ok-push_row-clause-adds c = on_ok_map c.add_entry_at.result _ _ (λ same. same ∙ c.in-Ok-push_row.ensures.adds) c.add_entry_at.ensures.rows

pub returns-in-Ok-push_row-clause-err : goal.returns-in-Ok-push_row-clause-err
returns-in-Ok-push_row-clause-err c =
    on_both c.add_entry_at.result (λ gone same. (gone ∙ ap (λ (l : List Row). remove l c.len-place.result) c.in-Ok-push_row.ensures.adds ∙ push_undone c.args.rows.now c.args.row c.len-place.result c.len-place.ensures, same))
    c.add_entry_at.ensures.gone c.add_entry_at.ensures.err
