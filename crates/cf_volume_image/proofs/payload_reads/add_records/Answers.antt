use Rattle.std.proofs.Common.{◌∙◌, List, ap, subst, sym}
use Rattle.std.specs.Prelude.{All}
use Rattle.cf_base.specs.declared.answers.AuxRecord.{AuxRecord}
use Rattle.cf_model.specs.Formats.{with_records}
use Rattle.cf_volume_image.specs.RecordLists.{IsShort}
use Rattle.cf_volume_image.proofs.Kept.{first_short, rest_short}
use Rattle.cf_volume_image.proofs.PayloadSteps.{record_added}
use Rattle.cf_volume_image.proofs.payload_reads.add_records.Goals as goal

pub loop-aux-init : goal.loop-aux-init
loop-aux-init c = record {
  added = ap (λ (l : List AuxRecord). with_records l c.args.records.now) c.iter-items.ensures.value;
  short = subst (λ (l : List AuxRecord). All IsShort l) (sym c.iter-items.ensures.value) c.requires;
}

pub put-requires : goal.put-requires
put-requires c = subst (λ (r : AuxRecord). IsShort r) (sym c.in_ok-copy.ensures) (first_short _ _ c.in-Some.aux.now c.in-Some.ensures c.loop-aux.invariant.short)

pub loop-aux-preserved : goal.loop-aux-preserved
loop-aux-preserved c = record {
  added = record_added _ _ c.in-Some.aux.now c.in_ok-copy.copy c.loop-aux.records c.put.new.self _ c.in-Some.ensures c.in_ok-copy.ensures c.in_ok-put.ensures.ok c.loop-aux.invariant.added;
  short = rest_short _ _ c.in-Some.aux.now c.in-Some.ensures c.loop-aux.invariant.short;
}

pub returns : goal.returns
returns c = ap (λ (l : List AuxRecord). with_records l c.loop-aux.records) (sym c.in_default.ensures) ∙ c.loop-aux.invariant.added
