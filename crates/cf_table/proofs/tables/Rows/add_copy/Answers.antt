use Rattle.std.proofs.Common.{◌≤◌, ◌<◌, ◌∙◌, List, ap, get_or, length, subst, sym}
use Rattle.cf_table.specs.Means.{Means}
use Rattle.cf_table.specs.Tables.{IsRowAt, IsRowGap, RisesFrom, Table, pin_at}
use Rattle.cf_table.specs.declared.rows.Row.{Row}
use Rattle.cf_table.proofs.StayingRows.{copy_joins, no_source, source_is}
use Rattle.cf_table.proofs.TableLens.{kept_at}
use Rattle.cf_table.proofs.TableMeans.{on_ok_map}
use Rattle.cf_table.proofs.NextChange.{below_pushed, next_pushed}
use Rattle.cf_table.proofs.tables.Rows.add_copy.Goals as goal

pub copied_row-requires-clause-identity : goal.copied_row-requires-clause-identity
copied_row-requires-clause-identity c = λ d.
    subst (λ (l : List Row). 8 ≤ length (get_or l c.in-Ok.source d).identity) (sym (c.as_slice-in-Ok-3.ensures ∙ ap (λ (t : Table). t.rows) c.self.view_is))
    (source_is (λ r. 8 ≤ length r.identity) c.args.from c.in-Ok.source c.args.self.now.rows d (subst (λ (l : List Row). RisesFrom 0 l) (ap (λ (t : Table). t.rows) c.self.view_is) c.self.invariant.indexed.table.rises) (subst (λ (l : List Row). IsRowAt l c.args.from.0 c.in-Ok.source) (c.as_slice.ensures ∙ ap (λ (t : Table). t.rows) c.self.view_is) c.in-Ok.ensures.found) c.requires.source)

pub copied_row-requires-clause-spellable : goal.copied_row-requires-clause-spellable
copied_row-requires-clause-spellable c = λ d.
    subst (λ (l : List Row). length (get_or l c.in-Ok.source d).identity ≤ 65535) (sym c.as_slice-in-Ok-3.ensures)
    (kept_at c.self.inside.rows c.in-Ok.source d (subst (λ (l : List Row). c.in-Ok.source < length l) c.as_slice.ensures c.in-Ok.ensures.found.in_range) c.self.invariant.indexed.table.kept).spellable.identity

pub unreachable-requires : goal.unreachable-requires
unreachable-requires c = no_source (λ r. 8 ≤ length r.identity) c.args.from c.in-Err.field-0 c.args.self.now.rows (subst (λ (l : List Row). IsRowGap l c.args.from.0 c.in-Err.field-0) (c.as_slice.ensures ∙ ap (λ (t : Table). t.rows) c.self.view_is) c.in-Err.ensures.absent) c.requires.source

pub returns-clause-ok : goal.returns-clause-ok
returns-clause-ok c = on_ok_map c.add.result _ _ (λ added items m.
    copy_joins c.in_ok-row-in-Ok.row c.args.self.now.rows c.add.new.self.rows items c.args.item c.args.from c.args.parent c.in-Ok.source c.in_ok-from_slice-in-Ok.field-0 c.args.name.now c.pin_of.result c.args.number
    (subst (λ (l : List Row). RisesFrom 0 l) (ap (λ (t : Table). t.rows) c.self.view_is) c.self.invariant.indexed.table.rises) (subst (λ (l : List Row). IsRowAt l c.args.from.0 c.in-Ok.source) (c.as_slice.ensures ∙ ap (λ (t : Table). t.rows) c.self.view_is) c.in-Ok.ensures.found)
    (λ i mi. c.in_ok-row-in-Ok.ensures.means i (subst (λ (l : List Row). Means (get_or l c.in-Ok.source c.in_ok-row-in-Ok.row) i) (sym (c.as_slice-in-Ok-3.ensures ∙ ap (λ (t : Table). t.rows) c.self.view_is)) mi))
    (c.in_ok-from_slice-in-Ok.ensures ∙ c.as_slice-in-Ok.ensures) (c.pin_of.ensures ∙ ap (λ (l : List Row). pin_at l c.args.parent) (c.as_slice-in-Ok-2.ensures ∙ ap (λ (t : Table). t.rows) c.self.view_is))
    (ap (λ (t : Table). t.rows) added) m) c.add.ensures.ok

pub returns-clause-later : goal.returns-clause-later
returns-clause-later c = on_ok_map c.add.result _ _ (λ added m h.
    next_pushed c.args.number m c.args.self.now.rows c.add.new.self.rows c.in_ok-row-in-Ok.row c.requires.later c.in_ok-row-in-Ok.ensures.number c.in_ok-row-in-Ok.ensures.fresh (ap (λ (t : Table). t.rows) added) h c.requires.after) c.add.ensures.ok

pub returns-clause-below : goal.returns-clause-below
returns-clause-below c = on_ok_map c.add.result _ _ (λ added a. below_pushed c.args.self.now c.add.new.self c.in_ok-row-in-Ok.row added a) c.add.ensures.ok
