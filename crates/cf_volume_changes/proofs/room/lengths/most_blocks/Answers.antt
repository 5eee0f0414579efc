use Rattle.std.proofs.Common.{◌≡◌, ◌-◌, Some, length, sym, arith}
use Rattle.std.specs.Prelude.{slice_get}
use Rattle.std.proofs.lemmas.Option.{slice_get_within}
use Rattle.cf_volume_changes.proofs.FewBlocks.{few_touched, last_small, none_touched}
use Rattle.cf_volume_changes.proofs.room.lengths.most_blocks.Goals as goal

pub returns-in-None : goal.returns-in-None
returns-in-None c = none_touched c.args.runs.now (sym c.in-None.ensures.value)

pub returns-in-Some : goal.returns-in-Some
returns-in-Some c =
    let at : slice_get c.args.runs.now (length c.args.runs.now - 1) ≡ Some c.in-Some.last.now = sym c.in-Some.ensures.value in
    let within = slice_get_within c.args.runs.now (length c.args.runs.now - 1) c.in-Some.last.now at in
    few_touched (length c.args.runs.now - 1) c.args.runs.now c.in-Some.last.now c.requires (omega (arith, within)) at

pub overflow_add-result : goal.overflow_add-result
overflow_add-result c =
    let at : slice_get c.args.runs.now (length c.args.runs.now - 1) ≡ Some c.in-Some.last.now = sym c.in-Some.ensures.value in
    let within = slice_get_within c.args.runs.now (length c.args.runs.now - 1) c.in-Some.last.now at in
    let small = last_small 0 (length c.args.runs.now - 1) c.args.runs.now c.in-Some.last.now c.requires (omega (arith, within)) at in
    omega (arith, small)

pub overflow_add-result-in-Some : goal.overflow_add-result-in-Some
overflow_add-result-in-Some c =
    let at : slice_get c.args.runs.now (length c.args.runs.now - 1) ≡ Some c.in-Some.last.now = sym c.in-Some.ensures.value in
    let within = slice_get_within c.args.runs.now (length c.args.runs.now - 1) c.in-Some.last.now at in
    let small = last_small 0 (length c.args.runs.now - 1) c.args.runs.now c.in-Some.last.now c.requires (omega (arith, within)) at in
    omega (arith, small)
