use Rattle.std.proofs.Common.{get_or, refl}
use Rattle.std.proofs.lemmas.List.{get_or_default}
use Rattle.cf_table.specs.Index.{entry_of, without_entry}
use Rattle.cf_table.proofs.Indexed.{replaced_indexed}
use Rattle.cf_table.proofs.indexed_rows.replace_indexed.Goals as goal

pub returns-in-Ok-clause-indexed : goal.returns-in-Ok-clause-indexed
returns-in-Ok-clause-indexed c =
    replaced_indexed c.args.rows.now c.replace_at.new.rows c.args.index.now (without_entry (entry_of (get_or c.args.rows.now c.args.place c.args.row)) c.args.index.now) c.set_entry_of.new.index (entry_of c.args.row) c.args.row
    (get_or c.args.rows.now c.args.place c.args.row) c.args.place c.args.len c.replace_at.result c.requires.indexed c.requires.place (get_or_default c.args.rows.now c.args.place c.args.row _ c.requires.place.in_range) refl refl
    (c.in-Ok.ensures.ok c.args.row) c.replace_at.ensures.puts c.replace_at.ensures.table
