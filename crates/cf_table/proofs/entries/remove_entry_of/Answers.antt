use Rattle.std.proofs.Common.{◌∙◌, List, ap, sym, ℕ}
use Rattle.cf_table.specs.Index.{entry_at, without_entry}
use Rattle.cf_table.proofs.EntryPlaces.{gone_there, none_there, split}
use Rattle.cf_table.proofs.entries.remove_entry_of.Goals as goal

pub remove-requires : goal.remove-requires
remove-requires c = split (entry_at c.args.row.now.parent c.as_slice.result.now c.args.row.now.id) c.args.entries.now c.requires

pub returns-then-has_entry_at : goal.returns-then-has_entry_at
returns-then-has_entry_at c =
    c.remove.ensures ∙ gone_there (entry_at c.args.row.now.parent c.as_slice.result.now c.args.row.now.id) c.args.entries.now c.requires (sym c.has_entry_at.ensures ∙ c.if-has_entry_at.true)
    ∙ ap (λ (n : List ℕ). without_entry (entry_at c.args.row.now.parent n c.args.row.now.id) c.args.entries.now) c.as_slice.ensures

pub returns-else-has_entry_at : goal.returns-else-has_entry_at
returns-else-has_entry_at c =
    none_there (entry_at c.args.row.now.parent c.as_slice.result.now c.args.row.now.id) c.args.entries.now c.requires (sym c.has_entry_at.ensures ∙ c.if-has_entry_at.false)
    ∙ ap (λ (n : List ℕ). without_entry (entry_at c.args.row.now.parent n c.args.row.now.id) c.args.entries.now) c.as_slice.ensures
