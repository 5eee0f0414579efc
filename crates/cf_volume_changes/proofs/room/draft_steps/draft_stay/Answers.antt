use Rattle.std.proofs.Common.{◌≡◌, sym, ◌∙◌, ap, subst, arith, Some, None}
use Rattle.cf_base.specs.declared.ids.ItemId.{ItemId}
use Rattle.cf_ranges.specs.Positions.{touched}
use Rattle.cf_table.specs.Changing.{item_of_change}
use Rattle.cf_table.specs.Tables.{RisesFrom, Table, with_row}
use Rattle.cf_volume_changes.proofs.EmptyTables.{not_yes}
use Rattle.cf_volume_changes.proofs.DraftStays.{none_asks, none_drafts, stay_asks, stay_drafts, stay_fits}
use Rattle.cf_volume_changes.specs.Drafts.{added, row_in, row_sizes}
use Rattle.cf_volume_changes.specs.declared.room.drafts.Sizes.{Sizes}
use Rattle.cf_volume_changes.proofs.room.draft_steps.draft_stay.Goals as goal

pub returns-in-None : goal.returns-in-None
returns-in-None c = λ w drafts n_is fits book.
    let none : row_in c.args.draft.now c.args.contents.now.rows.rows (item_of_change c.args.change.now) ≡ None = ap (λ (id : ItemId). row_in c.args.draft.now c.args.contents.now.rows.rows id) (sym c.item_of.ensures.of) ∙ sym c.in-None.ensures.value in (
      c.clusters_asked.ensures.asked ∙ none_asks c.args.contents.now c.args.draft.now w c.args.change.now drafts c.requires.kind none,
      none_drafts c.args.contents.now c.args.draft.now w c.args.change.now drafts c.requires.kind none,
    )

pub returns-then-not-fits_row : goal.returns-then-not-fits_row
returns-then-not-fits_row c = λ w drafts n_is fits book.
    let found : row_in c.args.draft.now c.args.contents.now.rows.rows (item_of_change c.args.change.now) ≡ Some c.in-Some.row.now = ap (λ (id : ItemId). row_in c.args.draft.now c.args.contents.now.rows.rows id) (sym c.item_of.ensures.of) ∙ sym c.in-Some.ensures.value in
    not_yes c.fits_row.result c.if-not-fits_row.true (c.fits_row.ensures.1 (stay_fits c.args.contents.now c.args.draft.now w c.args.change.now c.in-Some.row.now c.args.number drafts c.requires.kind fits c.tell_at.ensures found n_is))

pub returns-in_ok-draft_row-in-Some : goal.returns-in_ok-draft_row-in-Some
returns-in_ok-draft_row-in-Some c = λ w drafts n_is fits book.
    let found : row_in c.args.draft.now c.args.contents.now.rows.rows (item_of_change c.args.change.now) ≡ Some c.in-Some.row.now = ap (λ (id : ItemId). row_in c.args.draft.now c.args.contents.now.rows.rows id) (sym c.item_of.ensures.of) ∙ sym c.in-Some.ensures.value in
    let same = c.leave_out.ensures.same in
    let plan = c.in_ok-planned-in-Some.ensures in
    let rises : RisesFrom 0 c.args.draft.now.changed.rows = subst (λ (t : Table). RisesFrom 0 t.rows) same.0 c.draft_row.ensures.rises in
    let changed : c.draft_row.new.draft.changed.rows ≡ with_row c.in_ok-planned-in-Some.planned.row c.args.draft.now.changed.rows = c.in_ok-draft_row-in-Some.ensures.changed ∙ ap (λ (t : Table). with_row c.in_ok-planned-in-Some.planned.row t.rows) same.0 in (
      omega (
        arith,
        c.len.ensures,
        c.in_ok-planned-in-Some.planned.blocks.ok,
        stay_asks c.args.contents.now c.args.draft.now c.draft_row.new.draft w c.args.change.now c.in-Some.row.now c.in_ok-planned-in-Some.planned.row c.pin_for-pin.result c.args.number c.in_ok-planned-in-Some.planned.blocks.items drafts c.requires.kind fits c.tell_at.ensures
            found c.in-Some.ensures.table.stored c.pin_for-pin.ensures n_is plan.means plan.rest plan.later plan.stored plan.blocks rises changed (c.draft_row.ensures.gone ∙ same.1)
            (λ m below. c.draft_row.ensures.less ∙ c.in_ok-leave_out-in-Some.ensures.less ∙ ap (added c.args.draft.now.less) (c.sizes_of-old.ensures m below))
            (λ m below. c.in_ok-draft_row-in-Some.ensures.more m below ∙ ap (λ (z : Sizes). added z (row_sizes c.in_ok-planned-in-Some.planned.row (touched c.in_ok-planned-in-Some.planned.row.here 0 m))) same.2),
      ),
      stay_drafts c.args.contents.now c.args.draft.now c.draft_row.new.draft w c.args.change.now c.in-Some.row.now c.in_ok-planned-in-Some.planned.row c.pin_for-pin.result c.args.number c.in_ok-planned-in-Some.planned.blocks.items drafts c.requires.kind fits c.tell_at.ensures
          found c.in-Some.ensures.table.stored c.pin_for-pin.ensures n_is plan.means plan.rest plan.later plan.stored plan.blocks rises changed (c.draft_row.ensures.gone ∙ same.1)
          (λ m below. c.draft_row.ensures.less ∙ c.in_ok-leave_out-in-Some.ensures.less ∙ ap (added c.args.draft.now.less) (c.sizes_of-old.ensures m below))
          (λ m below. c.in_ok-draft_row-in-Some.ensures.more m below ∙ ap (λ (z : Sizes). added z (row_sizes c.in_ok-planned-in-Some.planned.row (touched c.in_ok-planned-in-Some.planned.row.here 0 m))) same.2),
    )
