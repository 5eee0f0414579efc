use Rattle.std.proofs.Common.{◌∙◌, List, ap}
use Rattle.std.specs.Prelude.{filter}
use Rattle.cf_table.specs.Index.{entry_ids, is_entry_in}
use Rattle.cf_table.specs.Tables.{Table, child_rows, ids_of, rows_by_name}
use Rattle.cf_table.specs.declared.entries.Entry.{Entry}
use Rattle.cf_table.proofs.ChildrenOf.{children_are}
use Rattle.cf_table.proofs.Indexed.{entries_in_order}
use Rattle.cf_table.proofs.TableMeans.{if_ok_map}
use Rattle.cf_table.proofs.tables.Rows.children.Goals as goal

pub children_at-requires : goal.children_at-requires
children_at-requires c = entries_in_order c.self.inside.rows c.self.inside.index c.self.inside.len c.self.invariant.indexed

pub returns : goal.returns
returns c =
    if_ok_map c.children_at.result _ _ (λ v e.
    e ∙ ap (λ (l : List Entry). entry_ids (filter (is_entry_in c.args.id) l)) c.self.invariant.indexed.index
    ∙ children_are c.args.id c.self.inside.rows c.self.invariant.indexed.table.rises ∙ ap (λ (t : Table). ids_of (rows_by_name (child_rows t.rows c.args.id))) c.self.view_is)
    c.children_at.ensures
