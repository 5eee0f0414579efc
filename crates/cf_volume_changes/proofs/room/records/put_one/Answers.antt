use Rattle.std.proofs.Common.{◌≡◌, ◌+◌, ◌∙◌, ℕ, List, None, ap, cond, subst, sym}
use Rattle.std.specs.Option.{is_some}
use Rattle.cf_base.specs.declared.answers.AuxRecord.{AuxRecord}
use Rattle.cf_volume_image.specs.Contents.{record_at}
use Rattle.cf_volume_image.specs.RecordLists.{IsShort}
use Rattle.cf_model.specs.Formats.{with_record}
use Rattle.cf_volume_points.specs.Known.{or_now}
use Rattle.cf_volume_changes.proofs.BesideRoom.{put_more}
use Rattle.cf_volume_changes.specs.AuxPuts.{len_if}
use Rattle.cf_volume_changes.proofs.room.records.put_one.Goals as goal

pub put-requires : goal.put-requires
put-requires c = subst IsShort (sym c.in_ok-copied.ensures) c.requires

pub returns : goal.returns
returns c = λ gone rest all keys b.
    let key : c.as_slice.result.now ≡ c.args.aux.now.key = (let a = c.as_slice.ensures in cc) in
    put_more gone c.args.records.now c.args.taken.now c.args.so_far.now _ c.args.aux.now rest all keys c.requires b (c.in_ok-put.ensures.ok ∙ ap (λ (r : AuxRecord). with_record r c.args.so_far.now.put) c.in_ok-copied.ensures)
    (c.in_ok-more.ensures ∙ ap (λ (n : ℕ). c.args.so_far.now.more + n) c.len_of.ensures) (c.in_ok-less.ensures ∙ ap (λ (n : ℕ). c.args.so_far.now.less + n) (c.len_then-before.ensures ∙ ap (λ (k : List ℕ). len_if (or_now (record_at c.args.so_far.now.put k) (cond (is_some (record_at c.args.taken.now k)) None (record_at c.args.records.now k)))) key))
