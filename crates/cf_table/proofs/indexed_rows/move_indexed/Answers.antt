use Rattle.std.proofs.Common.{◌∙◌, ap, refl, sym}
use Rattle.cf_model.specs.Words.{put_in}
use Rattle.cf_table.specs.Index.{entry_at, entry_of, stands_before, without_entry}
use Rattle.cf_table.specs.declared.rows.Row.{Row}
use Rattle.cf_table.proofs.Indexed.{moved_indexed, row_here, same_parts}
use Rattle.cf_table.proofs.indexed_rows.move_indexed.Goals as goal

pub set_entry-requires-clause-place : goal.set_entry-requires-clause-place
set_entry-requires-clause-place c = row_here c.args.rows.now c.args.place c.index.result.now c.requires.place c.index.ensures

pub returns-clause-indexed : goal.returns-clause-indexed
returns-clause-indexed c =
    moved_indexed c.args.rows.now c.move_at.new.rows c.args.index.now (without_entry (entry_of c.index.result.now) c.args.index.now) c.set_entry.new.index (entry_at c.args.parent c.in_ok-from_slice.field-0 c.index.result.now.id) c.index.result.now c.args.place c.args.len c.move_at.result c.args.parent c.in_ok-name.name c.args.pin c.args.number
    c.requires.indexed c.requires.place c.index.ensures refl
    (same_parts c.args.parent c.in_ok-from_slice.field-0 c.in_ok-name.name c.index.result.now.id c.index.result.now.id (c.in_ok-from_slice.ensures ∙ c.as_slice.ensures ∙ sym (c.in_ok-name.ensures ∙ c.as_slice-2.ensures)) refl)
    (c.in_ok-set_entry.ensures.ok c.index.result.now ∙ ap (λ (r : Row). put_in stands_before (entry_at c.args.parent c.in_ok-from_slice.field-0 c.index.result.now.id) (without_entry (entry_of r) c.args.index.now)) (sym c.index.ensures)) c.move_at.ensures.moves c.move_at.ensures.table
