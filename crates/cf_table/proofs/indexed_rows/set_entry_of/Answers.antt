use Rattle.std.proofs.Common.{◌≡◌, ◌∙◌, ℕ, List, ap, get_or, subst, sym, true}
use Rattle.std.proofs.lemmas.List.{get_or_default}
use Rattle.cf_model.specs.Words.{put_in}
use Rattle.cf_table.specs.Index.{entry_of, stands_before, without_entry}
use Rattle.cf_table.specs.Tables.{IsRowAt, is_child_row}
use Rattle.cf_table.specs.declared.entries.Entry.{Entry}
use Rattle.cf_table.specs.declared.rows.Row.{Row}
use Rattle.cf_table.proofs.EntrySets.{stands_already}
use Rattle.cf_table.proofs.TableMeans.{on_ok_map}
use Rattle.cf_table.proofs.indexed_rows.set_entry_of.Goals as goal

pub returns-then-stands_at-clause-ok : goal.returns-then-stands_at-clause-ok
returns-then-stands_at-clause-ok c = λ d.
    let there : is_child_row c.args.row.now.parent c.args.row.now.name c.index.result.now ≡ true =
    ap (λ (l : List ℕ). is_child_row c.args.row.now.parent l c.index.result.now) (sym c.as_slice.ensures) ∙ sym c.stands_at.ensures ∙ c.if-stands_at.true in
    c.requires.index
    ∙ stands_already c.args.rows.now c.args.place c.index.result.now c.args.row.now c.requires.rises c.requires.place c.index.ensures there
    ∙ ap (λ (l : List Entry). put_in stands_before (entry_of c.args.row.now) (without_entry (entry_of (get_or c.args.rows.now c.args.place c.index.result.now)) l)) (sym c.requires.index)
    ∙ ap (λ (r : Row). put_in stands_before (entry_of c.args.row.now) (without_entry (entry_of r) c.args.index.now)) (get_or_default c.args.rows.now c.args.place c.index.result.now d c.requires.place.in_range)

pub set_entry-requires-clause-place : goal.set_entry-requires-clause-place
set_entry-requires-clause-place c = subst (λ (e : Entry). IsRowAt c.args.rows.now e.id.0 c.args.place) (sym c.in_ok-entry.ensures) c.requires.place

pub returns-clause-ok : goal.returns-clause-ok
returns-clause-ok c = on_ok_map c.set_entry.result _ _ (λ sets d. sets d ∙ ap (λ (e : Entry). put_in stands_before e (without_entry (entry_of (get_or c.args.rows.now c.args.place d)) c.args.index.now)) c.in_ok-entry.ensures) c.set_entry.ensures.ok
