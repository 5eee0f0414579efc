use Rattle.std.proofs.Common.{◌-◌, ◌<◌, arith, length}
use Rattle.std.proofs.lemmas.Bool.{le-leb, leb-true}
use Rattle.cf_volume_image.proofs.SetTests.{below_by_last, last_below, not_empty, small_at}
use Rattle.cf_volume_image.proofs.sets.is_below.Goals as goal

pub overflow_add-result : goal.overflow_add-result
overflow_add-result c =
    let some : 0 < length c.args.runs.now = not_empty _ _ c.is_empty.ensures c.if-is_empty.false in
    omega (arith, small_at 0 c.args.runs.now (length c.args.runs.now - 1) (record { start = 0; len = 0 }) c.requires (omega arith))

pub returns : goal.returns
returns c =
    let some : 0 < length c.args.runs.now = not_empty _ _ c.is_empty.ensures c.if-is_empty.false in (
      λ yes. below_by_last c.args.runs.now (length c.args.runs.now - 1) (record { start = 0; len = 0 }) c.args.top c.requires (omega arith) (leb-true _ _ yes),
      λ below. le-leb _ _ (last_below c.args.runs.now (length c.args.runs.now - 1) (record { start = 0; len = 0 }) c.args.top c.requires (omega arith) below),
    )
