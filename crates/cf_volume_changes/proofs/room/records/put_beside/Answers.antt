use Rattle.std.proofs.Common.{◌+◌, sym, subst, refl, drop, arith, List}
use Rattle.std.proofs.lemmas.List.{drop_all}
use Rattle.std.proofs.lemmas.List.Elements.{All-get_or}
use Rattle.cf_base.specs.declared.answers.AuxRecord.{AuxRecord}
use Rattle.cf_volume_image.specs.RecordLists.{IsShort}
use Rattle.cf_volume_changes.proofs.BesideRoom.{put_none}
use Rattle.cf_volume_changes.proofs.DraftFlags.{next_of_list}
use Rattle.cf_volume_changes.specs.Besides.{Besides}
use Rattle.cf_volume_changes.proofs.room.records.put_beside.Goals as goal

pub loop-aux-init : goal.loop-aux-init
loop-aux-init c = put_none c.args.gone.now c.args.records.now c.args.list.now _ c.new.ensures refl refl c.image_len.ensures.rise

pub put_one-requires : goal.put_one-requires
put_one-requires c = subst IsShort (sym c.aux-item.is) (All-get_or (λ (r : AuxRecord). IsShort r) c.args.list.now c.loop-aux.aux-index c.aux-item.result c.loop-aux-test.true c.requires)

pub loop-aux-preserved : goal.loop-aux-preserved
loop-aux-preserved c =
    let next = next_of_list c.args.list.now c.loop-aux.aux-index c.aux-item.result c.loop-aux-test.true c.aux-item.is in
    c.in_ok-put_one.ensures c.args.gone.now (drop (c.loop-aux.aux-index + 1) c.args.list.now) c.args.list.now c.in_ok-taken.ensures
    (subst (λ (l : List AuxRecord). Besides c.args.gone.now c.args.records.now c.loop-aux.so_far l c.args.list.now) next c.loop-aux.invariant)

pub returns : goal.returns
returns c = subst (λ (l : List AuxRecord). Besides c.args.gone.now c.args.records.now c.loop-aux.so_far l c.args.list.now) (drop_all c.loop-aux.aux-index c.args.list.now (let n = c.loop-aux-test.false in omega (arith, n))) c.loop-aux.invariant
