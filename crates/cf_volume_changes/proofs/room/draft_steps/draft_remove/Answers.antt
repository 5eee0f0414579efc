use Rattle.std.proofs.Common.{◌≡◌, sym, ◌∙◌, ap, refl, subst, cond, length, [], ◌∷◌, ◌++◌, Option, None}
use Rattle.cf_base.specs.declared.changes.Change.{Change}
use Rattle.cf_model.specs.Blocks.{puts_into}
use Rattle.cf_model.specs.Changes.{put_change}
use Rattle.cf_volume_points.specs.Keeping.{FitsBook}
use Rattle.cf_volume_points.specs.Known.{or_now}
use Rattle.cf_table.specs.Tables.{row_of, without_row}
use Rattle.cf_table.specs.declared.rows.Row.{Row}
use Rattle.cf_volume_changes.proofs.DraftGone.{gone_drafts, is_remove}
use Rattle.cf_volume_changes.specs.Drafting.{AreSizesOf}
use Rattle.cf_volume_changes.specs.Drafts.{Drafts, added, is_gone}
use Rattle.cf_volume_changes.specs.declared.room.drafts.Sizes.{Sizes}
use Rattle.cf_volume_changes.proofs.room.draft_steps.draft_remove.Goals as goal

pub returns : goal.returns
returns c = λ w drafts n_is fits book.
    let id = c.item_of-id.result in
    let first = c.leave_record_out.ensures.same in
    let then' = c.leave_out.ensures.same in
    let is = is_remove c.args.change.now id c.requires.kind c.item_of-id.ensures.of in
    let sizes : AreSizesOf (or_now (row_of c.args.draft.now.changed.rows id) (cond (is_gone c.args.draft.now.gone.items id) None (row_of c.args.contents.now.rows.rows id))) c.sizes_in-gone.result =
    subst (λ (o : Option Row). AreSizesOf o c.sizes_in-gone.result) (λ j. or_now (row_of (first.0 j).rows id) (cond (is_gone (first.1 j).items id) None (row_of c.args.contents.now.rows.rows id))) c.sizes_in-gone.ensures in
    subst (λ (ch : Change). (0 ≡ length (puts_into w.items ch)) × Drafts c.args.contents.now c.remove_row.new.draft (put_change ch w)) (sym is) (
      refl,
      gone_drafts c.args.contents.now c.args.draft.now c.remove_row.new.draft w id c.sizes_in-gone.result drafts c.leave_record_out.ensures.low (subst (λ (ch : Change). FitsBook ch w.book) is book) c.image_len.ensures.rise
          (c.in_ok-remove_row.ensures.changed ∙ (λ j. without_row id ((then'.0 ∙ first.0) j).rows)) (c.in_ok-remove_row.ensures.gone ∙ (λ j. ((then'.1 ∙ first.1) j).items ++ id ∷ []))
          (c.remove_row.ensures.sizes.0 ∙ then'.2 ∙ first.2) (c.remove_row.ensures.sizes.1 ∙ c.in_ok-leave_out.ensures.less ∙ ap (λ (z : Sizes). added z c.sizes_in-gone.result) c.in_ok-leave_record_out.ensures.less)
          sizes,
    )
