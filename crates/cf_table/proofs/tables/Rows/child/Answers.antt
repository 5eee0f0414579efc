use Rattle.std.proofs.Common.{◌∙◌, List, ap}
use Rattle.std.specs.Prelude.{find}
use Rattle.cf_table.specs.Index.{entry_id, is_entry_of}
use Rattle.cf_table.specs.Tables.{Table, id_of, is_child_row}
use Rattle.cf_table.specs.declared.entries.Entry.{Entry}
use Rattle.cf_table.proofs.ChildrenOf.{child_is}
use Rattle.cf_table.proofs.Indexed.{entries_in_order}
use Rattle.cf_table.proofs.tables.Rows.child.Goals as goal

pub child_at-requires : goal.child_at-requires
child_at-requires c = entries_in_order c.self.inside.rows c.self.inside.index c.self.inside.len c.self.invariant.indexed

pub returns : goal.returns
returns c =
    c.child_at.ensures ∙ ap (λ (l : List Entry). entry_id (find (is_entry_of c.args.parent c.args.name.now) l)) c.self.invariant.indexed.index
    ∙ child_is c.args.parent c.args.name.now c.self.inside.rows c.self.invariant.indexed.table.rises
    ∙ ap (λ (t : Table). id_of (find (is_child_row c.args.parent c.args.name.now) t.rows)) c.self.view_is
