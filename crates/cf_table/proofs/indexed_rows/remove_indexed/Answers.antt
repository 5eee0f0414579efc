use Rattle.cf_table.proofs.Indexed.{entries_in_order, removed_indexed}
use Rattle.cf_table.proofs.indexed_rows.remove_indexed.Goals as goal

pub remove_entry_of-requires : goal.remove_entry_of-requires
remove_entry_of-requires c = entries_in_order c.args.rows.now c.args.index.now c.args.len c.requires.indexed

pub returns-clause-indexed : goal.returns-clause-indexed
returns-clause-indexed c =
    removed_indexed c.args.rows.now c.remove_at.new.rows c.args.index.now c.remove_entry_of.new.entries c.args.place c.args.len c.remove_at.result c.index.result.now c.requires.indexed c.requires.place c.index.ensures
    c.remove_entry_of.ensures c.remove_at.ensures.removes c.remove_at.ensures.table
