use Rattle.std.proofs.Common.{[], List, subst}
use Rattle.cf_base.specs.declared.ids.ItemId.{ItemId}
use Rattle.cf_volume_changes.proofs.BesideRoom.{full_with, longer_on}
use Rattle.cf_volume_changes.specs.Besides.{Besides}
use Rattle.cf_volume_changes.proofs.room.records.is_full_with.Goals as goal

pub returns : goal.returns
returns c = λ w b drafts has.
    let beside = subst (λ (l : List ItemId). Besides l c.args.contents.now.records c.in_ok-beside.beside [] c.args.list.now) c.deref.ensures.value c.in_ok-beside.ensures in
    longer_on c.is_long.result (λ full is. full_with c.args.contents.now c.args.draft.now w b c.args.list.now c.in_ok-beside.beside c.in_ok-more.more c.in_ok-less.less full drafts has beside c.in_ok-more.ensures c.in_ok-less.ensures is) c.is_long.ensures
