use Rattle.std.proofs.Common.{◌≡◌, ◌+◌, ◌||◌, ◌∙◌, sym, ap, drop, get_or, arith, List}
use Rattle.std.proofs.lemmas.List.{drop_more}
use Rattle.std.specs.List.{list_any}
use Rattle.std.specs.Option.{is_some}
use Rattle.cf_base.specs.declared.answers.AuxRecord.{AuxRecord}
use Rattle.cf_base.specs.declared.ids.ItemId.{ItemId}
use Rattle.cf_volume_image.specs.Contents.{record_at}
use Rattle.cf_model.specs.Words.{same}
use Rattle.cf_volume_changes.proofs.BesideRoom.{taken_all, taken_first, taken_more}
use Rattle.cf_volume_changes.specs.Keys.{seen_key}
use Rattle.cf_volume_changes.proofs.room.records.keys_taken.Goals as goal

pub loop-id-init : goal.loop-id-init
loop-id-init c = taken_first c.args.gone.now c.new-keys.result c.new-keys.ensures

pub loop-id-preserved : goal.loop-id-preserved
loop-id-preserved c = λ key.
    let id : ItemId = get_or c.args.gone.now c.loop-id.id-index (record { 0 = 0 }) in
    let next = drop_more c.args.gone.now c.loop-id.id-index (record { 0 = 0 }) c.loop-id-test.true in
    let here = c.loop-id.invariant key ∙ ap (λ (l : List ItemId). is_some (record_at c.loop-id.keys key) || list_any (λ x. same (seen_key x) key) l) next in
    let bytes : c.as_slice.result.now ≡ seen_key id = (let a = c.as_slice.ensures in let b = c.key-in-loop-id.view_is in let d = c.in_ok-key.ensures.key in cc) in
    let is = c.in_ok-bare.ensures.0 ∙ bytes in
    taken_more id c.in_ok-bare.field-0 c.loop-id.keys key (list_any (λ x. same (seen_key x) key) (drop (c.loop-id.id-index + 1) c.args.gone.now)) (list_any (λ x. same (seen_key x) key) c.args.gone.now) is here
    ∙ ap (λ (l : List AuxRecord). is_some (record_at l key) || list_any (λ x. same (seen_key x) key) (drop (c.loop-id.id-index + 1) c.args.gone.now)) (sym c.in_ok-put.ensures.ok)

pub returns : goal.returns
returns c = taken_all c.args.gone.now c.loop-id.keys c.loop-id.id-index (let n = c.loop-id-test.false in omega (arith, n)) c.loop-id.invariant
