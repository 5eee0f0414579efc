use Rattle.std.proofs.Common.{◌≡◌, ◌∙◌, List, ap, false, get_or, subst, sym}
use Rattle.std.specs.Ordering.{is_eq}
use Rattle.std.proofs.lemmas.List.{get_or_default}
use Rattle.cf_lists.specs.Ordered.{InOrder}
use Rattle.cf_model.specs.Words.{put_in}
use Rattle.cf_table.specs.Index.{compared, entry_of, stands_before, without_entry}
use Rattle.cf_table.specs.declared.entries.Entry.{Entry}
use Rattle.cf_table.specs.declared.rows.Row.{Row}
use Rattle.cf_table.proofs.EntrySets.{both_in_order, comes_and_goes, has_already}
use Rattle.cf_table.proofs.Indexed.{index_in_order}
use Rattle.cf_table.proofs.indexed_rows.set_entry.Goals as goal

pub returns-then-has_entry-clause-ok : goal.returns-then-has_entry-clause-ok
returns-then-has_entry-clause-ok c = λ d.
    c.requires.index
    ∙ has_already c.args.rows.now c.args.place c.index-row.result.now c.args.entry c.requires.rises c.requires.place.in_range c.index-row.ensures (sym c.has_entry.ensures ∙ c.if-has_entry.true)
    ∙ ap (λ (l : List Entry). put_in stands_before c.args.entry (without_entry (entry_of (get_or c.args.rows.now c.args.place c.index-row.result.now)) l)) (sym c.requires.index)
    ∙ ap (λ (r : Row). put_in stands_before c.args.entry (without_entry (entry_of r) c.args.index.now)) (get_or_default c.args.rows.now c.args.place c.index-row.result.now d c.requires.place.in_range)

pub add_entry-requires : goal.add_entry-requires
add_entry-requires c = subst (λ (l : List Entry). InOrder stands_before l) (sym c.requires.index) (index_in_order c.args.rows.now c.requires.rises)

pub remove_entry_of-requires : goal.remove_entry_of-requires
remove_entry_of-requires c =
    let other : is_eq (compared c.args.entry (entry_of c.index-row.result.now)) ≡ false = sym c.has_entry.ensures ∙ c.if-has_entry.false in
    subst (λ (l : List Entry). InOrder stands_before l) (sym (c.in_ok-add_entry.ensures.ok ∙ ap (put_in stands_before c.args.entry) c.requires.index))
    (both_in_order c.args.rows.now c.args.place c.index-row.result.now c.args.entry c.requires.rises c.requires.place c.index-row.ensures other)

pub returns-clause-ok : goal.returns-clause-ok
returns-clause-ok c = λ d.
    let other : is_eq (compared c.args.entry (entry_of c.index-row.result.now)) ≡ false = sym c.has_entry.ensures ∙ c.if-has_entry.false in
    c.remove_entry_of.ensures
    ∙ ap (λ (l : List Entry). without_entry (entry_of c.index-row.result.now) l) (c.in_ok-add_entry.ensures.ok ∙ ap (put_in stands_before c.args.entry) c.requires.index)
    ∙ comes_and_goes c.args.rows.now c.args.place c.index-row.result.now c.args.entry c.requires.rises c.requires.place c.index-row.ensures other
    ∙ ap (λ (l : List Entry). put_in stands_before c.args.entry (without_entry (entry_of c.index-row.result.now) l)) (sym c.requires.index)
    ∙ ap (λ (r : Row). put_in stands_before c.args.entry (without_entry (entry_of r) c.args.index.now)) (c.index-row.ensures ∙ get_or_default c.args.rows.now c.args.place c.index-row.result.now d c.requires.place.in_range)
