use Rattle.std.proofs.Common.{◌∙◌, List, ap}
use Rattle.std.specs.Prelude.{remove}
use Rattle.cf_table.specs.declared.rows.Row.{Row}
use Rattle.cf_table.proofs.Indexed.{entries_in_order}
use Rattle.cf_table.proofs.IndexedAdds.{insert_there, insert_undone, inserted_all, on_both}
use Rattle.cf_table.proofs.TableMeans.{on_ok_map}
use Rattle.cf_table.proofs.indexed_rows.insert_indexed.Goals as goal

pub add_entry_at-requires-clause-place : goal.add_entry_at-requires-clause-place
add_entry_at-requires-clause-place c = insert_there c.args.rows.now c.insert_at.new.rows c.args.row c.args.place c.requires.place c.in-Ok-insert_at.ensures.puts

pub add_entry_at-requires-clause-order : goal.add_entry_at-requires-clause-order
add_entry_at-requires-clause-order c = entries_in_order c.args.rows.now c.args.index.now c.args.len c.requires.indexed

pub returns-in-Ok-insert_at-clause-indexed : goal.returns-in-Ok-insert_at-clause-indexed
returns-in-Ok-insert_at-clause-indexed c =
    inserted_all c.add_entry_at.result c.args.rows.now c.insert_at.new.rows c.add_entry_at.new.rows c.args.index.now c.add_entry_at.new.index c.in-Ok.entry c.args.row c.args.place c.args.len c.in-Ok-insert_at.len c.requires.indexed c.requires.place c.in-Ok.ensures
    c.in-Ok-insert_at.ensures.puts c.in-Ok-insert_at.ensures.table c.add_entry_at.ensures.rows c.add_entry_at.ensures.index c.add_entry_at.ensures.len

pub returns-in-Ok-insert_at-clause-puts : goal.returns-in-Ok-insert_at-clause-puts
returns-in-Ok-insert_at-clause-puts c = on_ok_map c.add_entry_at.result _ _ (λ same. same ∙ c.in-Ok-insert_at.ensures.puts) c.add_entry_at.ensures.rows

pub returns-in-Ok-insert_at-clause-err : goal.returns-in-Ok-insert_at-clause-err
returns-in-Ok-insert_at-clause-err c =
    on_both c.add_entry_at.result (λ gone same. (gone ∙ ap (λ (l : List Row). remove l c.args.place) c.in-Ok-insert_at.ensures.puts ∙ insert_undone c.args.rows.now c.args.row c.args.place c.requires.place, same))
    c.add_entry_at.ensures.gone c.add_entry_at.ensures.err
