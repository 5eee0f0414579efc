use Rattle.std.proofs.Common.{◌∙◌, List, None, ap, cond, sym}
use Rattle.std.specs.List.{list_any}
use Rattle.cf_base.specs.declared.answers.AuxRecord.{AuxRecord}
use Rattle.cf_model.specs.Words.{same}
use Rattle.cf_volume_changes.proofs.PutBack.{record_taken}
use Rattle.cf_volume_image.specs.Contents.{record_at}
use Rattle.cf_volume_changes.proofs.last_points.remove_records.Goals as goal

pub loop-aux-init : goal.loop-aux-init
loop-aux-init c = λ key. ap (λ (l : List AuxRecord). cond (list_any (λ r. same r.key key) l) None (record_at c.args.records.now key)) c.iter-items.ensures.value

pub loop-aux-preserved : goal.loop-aux-preserved
loop-aux-preserved c =
    let l = c.loop-aux in
    record_taken l.items c.next.new.self c.args.made.now c.in-Some.aux.now c.as_slice.result.now c.args.records.now l.records c.remove.new.self c.in-Some.ensures c.as_slice.ensures c.remove.ensures l.invariant

pub returns : goal.returns
returns c = λ key. ap (λ (l : List AuxRecord). cond (list_any (λ r. same r.key key) l) None (record_at c.loop-aux.records key)) (sym c.in_default.ensures) ∙ c.loop-aux.invariant key
