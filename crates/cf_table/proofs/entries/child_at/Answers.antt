use Rattle.std.proofs.Common.{◌∙◌, Option, ap, refl, sym}
use Rattle.cf_table.specs.Index.{entry_at, entry_id}
use Rattle.cf_table.specs.declared.entries.Entry.{Entry}
use Rattle.cf_table.proofs.EntryPlaces.{named_there, split, unnamed_there}
use Rattle.cf_table.proofs.entries.child_at.Goals as goal

pub from-requires : goal.from-requires
from-requires c = split (entry_at c.args.parent c.args.name.now (record { 0 = 0 })) c.args.entries.now c.requires

pub returns-in-Some : goal.returns-in-Some
returns-in-Some c =
    c.id_if_named.ensures ∙ named_there c.args.parent c.args.name.now (record { 0 = 0 }) c.args.entries.now _ _ refl c.requires (sym c.from.ensures ∙ c.in-Some.ensures)

pub returns-in-None : goal.returns-in-None
returns-in-None c = ap (λ (o : Option Entry). entry_id o) (sym (unnamed_there c.args.parent c.args.name.now (record { 0 = 0 }) c.args.entries.now refl (sym c.from.ensures ∙ c.in-None.ensures)))
