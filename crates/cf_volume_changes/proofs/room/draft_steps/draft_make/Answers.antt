use Rattle.std.proofs.Common.{◌≡◌, sym, refl, subst, length, List}
use Rattle.cf_base.specs.declared.changes.Change.{Change}
use Rattle.cf_base.specs.declared.changes.Change.TheVariants as change
use Rattle.cf_model.specs.Blocks.{puts_into}
use Rattle.cf_model.specs.Changes.{next_number, put_change}
use Rattle.cf_model.specs.Effects.{made}
use Rattle.cf_model.specs.Items.{pin_of}
use Rattle.cf_table.specs.Means.{Means}
use Rattle.cf_table.specs.declared.new_rows.Place.{Place}
use Rattle.cf_volume_changes.proofs.DraftNews.{make_means, new_drafts}
use Rattle.cf_volume_changes.specs.Drafts.{Drafts}
use Rattle.cf_volume_changes.specs.RoomLeft.{FitsAmong}
use Rattle.cf_volume_changes.proofs.room.draft_steps.draft_make.Goals as goal

pub returns : goal.returns
returns c = λ w drafts n_is fits book.
    let m = c.in-Make in
    let f = subst (λ (ch : Change). FitsAmong ch w.book w.items) m.is fits in
    let means = subst (λ (x : Place). Means c.made-row.result (made x.id x.parent x.name m.kind m.size m.identity x.pin x.number)) c.in_ok-place-in-Make.ensures
    (subst (λ (l : List _). Means c.made-row.result (made c.in_ok-place-in-Make.place.id c.in_ok-place-in-Make.place.parent c.in_ok-place-in-Make.place.name m.kind m.size l c.in_ok-place-in-Make.place.pin c.in_ok-place-in-Make.place.number)) c.in_ok-copy-in-Make.ensures c.made-row.ensures.means) in
    subst (λ (ch : Change). (0 ≡ length (puts_into w.items ch)) × Drafts c.args.contents.now c.draft_row.new.draft (put_change ch w)) (sym m.is) (
      refl,
      new_drafts c.args.contents.now c.args.draft.now c.draft_row.new.draft w (change.Make m.item m.parent m.name m.kind m.size m.identity) c.made-row.result
          (made m.item m.parent m.name m.kind m.size m.identity (pin_of w.items m.parent) (next_number w)) drafts refl refl f.0
          (make_means c.args.contents.now c.args.draft.now w c.made-row.result m.item m.parent m.name m.kind m.size m.identity c.pin_in-pin.result c.args.number drafts c.pin_in-pin.ensures n_is means)
          refl c.made-row.ensures.fresh.anchor c.draft_row.ensures.stored c.draft_row.ensures.rises c.in_ok-draft_row-in-Make.ensures.changed c.draft_row.ensures.gone c.draft_row.ensures.less c.in_ok-draft_row-in-Make.ensures.more,
    )
