use Rattle.std.proofs.Common.{◌∙◌, ◌-◌, ◌<◌, List, None, Some, ap, arith, length, ℕ}
use Rattle.cf_base.specs.declared.answers.AuxRecord.{AuxRecord}
use Rattle.cf_volume_image.proofs.ReadParts.{last_key_at}
use Rattle.cf_volume_image.proofs.SetTests.{not_empty}
use Rattle.cf_volume_image.proofs.part_reads.last_key.Goals as goal

pub returns : goal.returns
returns c =
    let some : 0 < length c.args.records.now = not_empty _ _ c.is_empty.ensures c.if-is_empty.false in
    ap (λ (k : List ℕ). Some k) c.as_slice.ensures
    ∙ ap (λ (r : AuxRecord). Some r.key) c.index-records-records.is
    ∙ last_key_at None c.args.records.now (length c.args.records.now - 1) c.index-records-records.result (omega arith)
