use Rattle.std.proofs.Common.{◌∙◌, List, ap, sym}
use Rattle.std.specs.Ordering.{is_eq}
use Rattle.cf_table.specs.Index.{begins_with, entry_at}
use Rattle.cf_table.specs.declared.entries.Entry.{Entry}
use Rattle.cf_table.proofs.EntryPlaces.{split}
use Rattle.cf_table.proofs.entries.has_entry_at.Goals as goal

pub from-requires : goal.from-requires
from-requires c = split (entry_at c.args.at.now.parent c.args.at.now.name.now c.args.at.now.id) c.args.entries.now c.requires

pub returns-in-Some : goal.returns-in-Some
returns-in-Some c =
    c.is_eq.ensures ∙ ap is_eq c.order.ensures
    ∙ ap (λ (l : List Entry). begins_with (entry_at c.args.at.now.parent c.args.at.now.name.now c.args.at.now.id) l) (sym c.in-Some.ensures ∙ c.from.ensures)

pub returns-in-None : goal.returns-in-None
returns-in-None c = ap (λ (l : List Entry). begins_with (entry_at c.args.at.now.parent c.args.at.now.name.now c.args.at.now.id) l) (sym c.in-None.ensures ∙ c.from.ensures)
