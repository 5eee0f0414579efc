use Rattle.std.proofs.Common.{◌∙◌, List, ap, arith, subst, sym}
use Rattle.cf_base.specs.declared.ids.ItemId.{ItemId}
use Rattle.cf_table.specs.Applied.{Steps}
use Rattle.cf_table.specs.Changing.{AreBelow, pin_for}
use Rattle.cf_table.specs.Means.{KeepsRest}
use Rattle.cf_table.specs.Tables.{IsRowAt, IsRowGap, RisesFrom, SetsAt, SetsRow, Table}
use Rattle.cf_table.specs.Unlisted.{is_unlisted}
use Rattle.cf_table.specs.declared.rows.Row.{Row}
use Rattle.cf_table.proofs.StayingRows.{changed_by, left_by, leaves_is, unchanged_by}
use Rattle.cf_table.proofs.TableMeans.{sets_none}
use Rattle.cf_table.proofs.Bounded.{changed_bounded}
use Rattle.cf_table.proofs.NextChange.{below_changed, next_changed}
use Rattle.cf_table.proofs.Counts.{count_changed, count_here, count_most, most_one}
use Rattle.cf_table.proofs.tables.Rows.change.Goals as goal

pub returns-in_ok-self-inside-in-Ok-clause-ok : goal.returns-in_ok-self-inside-in-Ok-clause-ok
returns-in_ok-self-inside-in-Ok-clause-ok c = λ items m.
    changed_by c.args.change.now c.args.number c.args.id c.pin_for-pin.result c.in-Ok.place c.args.self.now.rows c.change_indexed.new.rows items c.requires.id c.requires.kind (c.pin_for-pin.ensures ∙ ap (λ (l : List Row). pin_for c.args.change.now l) (c.as_slice.ensures ∙ ap (λ (t : Table). t.rows) c.self.view_is))
    (subst (λ (l : List Row). RisesFrom 0 l) (ap (λ (t : Table). t.rows) c.self.view_is) c.self.invariant.indexed.table.rises) (subst (λ (l : List Row). IsRowAt l c.args.id.0 c.in-Ok.place) (c.as_slice-2.ensures ∙ ap (λ (t : Table). t.rows) c.self.view_is) c.in-Ok.ensures.found)
    (subst (λ (l : List Row). SetsAt (Steps c.args.change.now c.pin_for-pin.result c.args.number) c.in-Ok.place l c.change_indexed.new.rows) (ap (λ (t : Table). t.rows) c.self.view_is) c.in_ok-self-inside-in-Ok.ensures.sets) m

pub returns-in_ok-self-inside-in-Ok-clause-rest : goal.returns-in_ok-self-inside-in-Ok-clause-rest
returns-in_ok-self-inside-in-Ok-clause-rest c =
    left_by c.args.change.now c.args.number c.args.id c.pin_for-pin.result c.in-Ok.place c.args.self.now.rows c.change_indexed.new.rows c.requires.id c.requires.kind
    (subst (λ (l : List Row). RisesFrom 0 l) (ap (λ (t : Table). t.rows) c.self.view_is) c.self.invariant.indexed.table.rises) (subst (λ (l : List Row). IsRowAt l c.args.id.0 c.in-Ok.place) (c.as_slice-2.ensures ∙ ap (λ (t : Table). t.rows) c.self.view_is) c.in-Ok.ensures.found)
    (subst (λ (l : List Row). SetsAt (Steps c.args.change.now c.pin_for-pin.result c.args.number) c.in-Ok.place l c.change_indexed.new.rows) (ap (λ (t : Table). t.rows) c.self.view_is) c.in_ok-self-inside-in-Ok.ensures.sets)

pub returns-in-Err-clause-ok : goal.returns-in-Err-clause-ok
returns-in-Err-clause-ok c = λ items m.
    unchanged_by c.args.change.now c.args.number c.args.id c.in-Err.field-0 c.args.self.now.rows items c.requires.id c.requires.kind (subst (λ (l : List Row). IsRowGap l c.args.id.0 c.in-Err.field-0) (c.as_slice-2.ensures ∙ ap (λ (t : Table). t.rows) c.self.view_is) c.in-Err.ensures.absent) m

pub returns-in-Err-clause-rest : goal.returns-in-Err-clause-rest
returns-in-Err-clause-rest c =
    leaves_is c.args.change.now c.args.self.now.rows c.args.self.now.rows c.requires.kind
    (subst (λ (j : ItemId). SetsRow KeepsRest j c.args.self.now.rows c.args.self.now.rows) c.requires.id (sets_none KeepsRest c.args.id c.in-Err.field-0 c.args.self.now.rows (subst (λ (l : List Row). IsRowGap l c.args.id.0 c.in-Err.field-0) (c.as_slice-2.ensures ∙ ap (λ (t : Table). t.rows) c.self.view_is) c.in-Err.ensures.absent)))

pub returns-in_ok-self-inside-in-Ok-clause-later : goal.returns-in_ok-self-inside-in-Ok-clause-later
returns-in_ok-self-inside-in-Ok-clause-later c = λ m h.
    next_changed c.args.change.now c.pin_for-pin.result c.args.number m c.in-Ok.place c.args.self.now.rows c.change_indexed.new.rows
    (subst (λ (l : List Row). IsRowAt l c.args.id.0 c.in-Ok.place) (c.as_slice-2.ensures ∙ ap (λ (t : Table). t.rows) c.self.view_is) c.in-Ok.ensures.found).in_range c.requires.later
    (subst (λ (l : List Row). SetsAt (Steps c.args.change.now c.pin_for-pin.result c.args.number) c.in-Ok.place l c.change_indexed.new.rows) (ap (λ (t : Table). t.rows) c.self.view_is) c.in_ok-self-inside-in-Ok.ensures.sets) h

pub returns-in_ok-self-inside-in-Ok-clause-below : goal.returns-in_ok-self-inside-in-Ok-clause-below
returns-in_ok-self-inside-in-Ok-clause-below c = λ a.
    below_changed c.args.change.now c.pin_for-pin.result c.args.number c.self.inside.next c.in-Ok.place c.self.inside.rows c.change_indexed.new.rows
    (subst (λ (l : List Row). IsRowAt l c.args.id.0 c.in-Ok.place) c.as_slice-2.ensures c.in-Ok.ensures.found).in_range c.in_ok-self-inside-in-Ok.ensures.sets
    (subst (λ (t : Table). AreBelow t) (sym c.self.view_is) a)

pub overflow_sub-self : goal.overflow_sub-self
overflow_sub-self c =
    omega (arith, c.self.invariant.unlisted, count_here c.self.inside.rows c.in-Ok.place c.unlisted-before.result c.index.result.now (subst (λ (l : List Row). IsRowAt l c.args.id.0 c.in-Ok.place) c.as_slice-2.ensures c.in-Ok.ensures.found).in_range c.index.ensures c.unlisted-before.ensures)

pub overflow_add-self : goal.overflow_add-self
overflow_add-self c = omega (arith, c.self.invariant.unlisted, count_most c.self.inside.rows, c.in_ok-self-inside-in-Ok.ensures.few, c.unlisted.ensures, most_one (is_unlisted c.index-in-Ok-2.result.now))

pub invariant_of-self-in-Ok : goal.invariant_of-self-in-Ok
invariant_of-self-in-Ok c =
    let sets : SetsAt (Steps c.args.change.now c.pin_for-pin.result c.args.number) c.in-Ok.place c.self.inside.rows c.change_indexed.new.rows = c.in_ok-self-inside-in-Ok.ensures.sets in
    record {
      indexed = c.in_ok-self-inside-in-Ok.ensures.indexed;
      bounded = changed_bounded c.self.inside.bound c.raised-self-inside.result c.in-Ok.place c.self.inside.rows c.change_indexed.new.rows sets.0 c.index-in-Ok.result.now c.raised-self-inside.ensures.before
          (subst (λ (l : List Row). IsRowAt l c.args.id.0 c.in-Ok.place) c.as_slice-2.ensures c.in-Ok.ensures.found).in_range sets.2 c.index-in-Ok.ensures c.raised-self-inside.ensures.covers c.self.invariant.bounded;
      root = c.raised-self-inside.ensures.root c.self.invariant.root;
      unlisted = count_changed c.self.inside.unlisted c.unlisted-before.result c.unlisted.result c.in-Ok.place c.self.inside.rows c.change_indexed.new.rows sets.0 c.index.result.now c.index-in-Ok-2.result.now
          (subst (λ (l : List Row). IsRowAt l c.args.id.0 c.in-Ok.place) c.as_slice-2.ensures c.in-Ok.ensures.found).in_range c.self.invariant.unlisted c.index.ensures c.unlisted-before.ensures sets.2 c.index-in-Ok-2.ensures c.unlisted.ensures;
    }
