use Rattle.std.proofs.Common.{List, ap, arith, length}
use Rattle.cf_base.specs.declared.answers.AuxRecord.{AuxRecord}
use Rattle.cf_volume_image.proofs.part_writes.count_of.Goals as goal

pub loop-record-init : goal.loop-record-init
loop-record-init c = record { count = omega (arith, ap (λ (l : List AuxRecord). length l) c.iter-items.ensures.value); small = omega arith }

pub loop-record-preserved : goal.loop-record-preserved
loop-record-preserved c = record {
  count = omega (arith, c.loop-record.invariant.count, c.next_count-count.ensures, ap (λ (l : List AuxRecord). length l) c.in-Some.ensures);
  small = omega (arith, c.next_count-count.ensures);
}

pub returns : goal.returns
returns c = omega (arith, c.loop-record.invariant.count, c.loop-record.invariant.small, ap (λ (l : List AuxRecord). length l) c.in_default.ensures)
