use Rattle.std.proofs.Common.{◌++◌, ◌∙◌, List, ap, append-nil, subst, sym}
use Rattle.std.specs.Prelude.{All}
use Rattle.cf_base.specs.declared.answers.AuxRecord.{AuxRecord}
use Rattle.cf_model.specs.Formats.{spell_record}
use Rattle.cf_volume_image.specs.RecordLists.{IsShort, records_bytes}
use Rattle.cf_volume_image.proofs.Kept.{all_short, first_short, rest_short}
use Rattle.cf_volume_image.proofs.Loops.{put_first}
use Rattle.cf_volume_image.proofs.part_writes.put_each.Goals as goal

pub loop-record-init : goal.loop-record-init
loop-record-init c = record {
  spelled = ap (λ (l : List AuxRecord). c.args.out.now ++ records_bytes l) c.iter-items.ensures.value;
  short = subst (λ (l : List AuxRecord). All IsShort l) (sym c.iter-items.ensures.value) (all_short c.args.records.now c.iter-items.ensures.rise);
}

pub put_record-requires : goal.put_record-requires
put_record-requires c = first_short _ _ c.in-Some.record.now c.in-Some.ensures c.loop-record.invariant.short

pub loop-record-preserved : goal.loop-record-preserved
loop-record-preserved c = record {
  spelled = put_first spell_record _ _ c.in-Some.record.now _ _ _ c.in-Some.ensures c.in_ok-put_record.ensures c.loop-record.invariant.spelled;
  short = rest_short _ _ c.in-Some.record.now c.in-Some.ensures c.loop-record.invariant.short;
}

pub returns : goal.returns
returns c = sym (append-nil c.loop-record.out) ∙ ap (λ (l : List AuxRecord). c.loop-record.out ++ records_bytes l) (sym c.in_default.ensures) ∙ c.loop-record.invariant.spelled
