use Rattle.std.proofs.Common.{◌∙◌, ◌-◌, ◌<◌, List, None, Some, ap, arith, length, ℕ}
use Rattle.cf_volume_image.proofs.ReadParts.{last_at}
use Rattle.cf_volume_image.proofs.SetTests.{not_empty}
use Rattle.cf_volume_image.proofs.part_reads.last_of.Goals as goal

pub returns : goal.returns
returns c =
    let some : 0 < length c.args.keys.now = not_empty _ _ c.is_empty.ensures c.if-is_empty.false in
    ap (λ (k : List ℕ). Some k) c.as_slice.ensures
    ∙ ap (λ (k : List ℕ). Some k) c.index-keys-keys.is
    ∙ last_at None c.args.keys.now (length c.args.keys.now - 1) c.index-keys-keys.result (omega arith)
