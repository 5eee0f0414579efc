use Rattle.std.proofs.Common.{◌≡◌, sym, ◌∙◌, ap, refl, subst, length}
use Rattle.cf_base.specs.declared.changes.Change.{Change}
use Rattle.cf_base.specs.declared.changes.Change.TheVariants as change
use Rattle.cf_model.specs.Blocks.{puts_into}
use Rattle.cf_model.specs.Changes.{put_change}
use Rattle.cf_model.specs.Effects.{copied}
use Rattle.cf_model.specs.Items.{Item}
use Rattle.cf_table.specs.Means.{Means}
use Rattle.cf_table.specs.declared.new_rows.Place.{Place}
use Rattle.cf_volume_changes.proofs.EmptyTables.{not_yes}
use Rattle.cf_volume_changes.proofs.DraftNews.{copy, copy_asks, copy_items, copy_means, copy_spells, new_drafts}
use Rattle.cf_volume_changes.specs.Drafts.{Drafts}
use Rattle.cf_volume_changes.specs.RoomLeft.{FitsAmong}
use Rattle.cf_volume_changes.proofs.room.draft_steps.draft_copy.Goals as goal

pub returns-then-not-is_spellable : goal.returns-then-not-is_spellable
returns-then-not-is_spellable c = λ w drafts n_is fits book.
    let m = c.in-Copy in
    let f = subst (λ (ch : Change). FitsAmong ch w.book w.items) m.is fits in
    let texts = c.in_ok-row-in-Some.ensures.texts in
    not_yes c.is_spellable.result c.if-not-is_spellable.true (c.is_spellable.ensures.1
    (copy_spells c.args.contents.now c.args.draft.now w c.in-Some.source.now m.item m.from m.parent m.name c.args.number drafts f n_is (sym c.in-Some.ensures.value) c.in-Some.ensures.table c.in_ok-row-in-Some.row
    (texts.1 ∙ ap (λ (x : Place). x.name) c.in_ok-place-in-Some.ensures) texts.2))

pub returns-in_ok-draft_row-in-Some : goal.returns-in_ok-draft_row-in-Some
returns-in_ok-draft_row-in-Some c = λ w drafts n_is fits book.
    let m = c.in-Copy in
    let f = subst (λ (ch : Change). FitsAmong ch w.book w.items) m.is fits in
    let means = subst (λ (x : Place). (i : Item) → Means c.in-Some.source.now i → Means c.in_ok-row-in-Some.row (copied x.id x.parent x.name x.pin x.number i)) c.in_ok-place-in-Some.ensures c.in_ok-row-in-Some.ensures.means in
    subst (λ (ch : Change). (c.sizes_of-asked.result.blocks ≡ length (puts_into w.items ch)) × Drafts c.args.contents.now c.draft_row.new.draft (put_change ch w)) (sym m.is) (
      copy_asks c.args.contents.now c.args.draft.now w c.in-Some.source.now m.item m.from m.parent m.name c.args.number drafts f n_is (sym c.in-Some.ensures.value) c.in-Some.ensures.table c.sizes_of-asked.result c.sizes_of-asked.ensures,
      new_drafts c.args.contents.now c.args.draft.now c.draft_row.new.draft w (change.Copy m.item m.from m.parent m.name) c.in_ok-row-in-Some.row
          (copy c.args.contents.now c.args.draft.now w c.in-Some.source.now m.item m.from m.parent m.name c.args.number drafts f n_is (sym c.in-Some.ensures.value) c.in-Some.ensures.table) drafts
          (copy_items c.args.contents.now c.args.draft.now w c.in-Some.source.now m.item m.from m.parent m.name c.args.number drafts f n_is (sym c.in-Some.ensures.value) c.in-Some.ensures.table) refl f.0
          (copy_means c.args.contents.now c.args.draft.now w c.in-Some.source.now m.item m.from m.parent m.name c.args.number drafts f n_is (sym c.in-Some.ensures.value) c.in-Some.ensures.table c.in_ok-row-in-Some.row c.pin_in-pin.result c.pin_in-pin.ensures means)
          refl c.in_ok-row-in-Some.ensures.fresh.anchor c.draft_row.ensures.stored c.draft_row.ensures.rises c.in_ok-draft_row-in-Some.ensures.changed c.draft_row.ensures.gone c.draft_row.ensures.less c.in_ok-draft_row-in-Some.ensures.more,
    )
