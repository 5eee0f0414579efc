use Rattle.std.proofs.Common.{◌∙◌, List, ap}
use Rattle.cf_table.specs.Tables.{Table, pin_at}
use Rattle.cf_table.specs.declared.rows.Row.{Row}
use Rattle.cf_table.proofs.StayingRows.{made_joins}
use Rattle.cf_table.proofs.TableMeans.{on_ok_map}
use Rattle.cf_table.proofs.NextChange.{below_pushed, next_pushed}
use Rattle.cf_table.proofs.tables.Rows.make.Goals as goal

pub returns-clause-ok : goal.returns-clause-ok
returns-clause-ok c = on_ok_map c.add.result _ _ (λ added items m.
    made_joins c.made-row.result c.args.self.now.rows c.add.new.self.rows items c.args.item c.args.parent c.in_ok-from_slice.field-0 c.args.name.now c.in_ok-copy.field-0 c.args.identity.now c.args.kind c.args.size c.pin_of.result c.args.number
    c.made-row.ensures.means (c.in_ok-from_slice.ensures ∙ c.as_slice.ensures) c.in_ok-copy.ensures (c.pin_of.ensures ∙ ap (λ (l : List Row). pin_at l c.args.parent) (c.as_slice-2.ensures ∙ ap (λ (t : Table). t.rows) c.self.view_is))
    (ap (λ (t : Table). t.rows) added) m) c.add.ensures.ok

pub returns-clause-later : goal.returns-clause-later
returns-clause-later c = on_ok_map c.add.result _ _ (λ added m h.
    next_pushed c.args.number m c.args.self.now.rows c.add.new.self.rows c.made-row.result c.requires.later c.made-row.ensures.means.number c.made-row.ensures.fresh (ap (λ (t : Table). t.rows) added) h c.requires.after) c.add.ensures.ok

pub returns-clause-below : goal.returns-clause-below
returns-clause-below c = on_ok_map c.add.result _ _ (λ added a. below_pushed c.args.self.now c.add.new.self c.made-row.result added a) c.add.ensures.ok
