use Rattle.std.proofs.Common.{◌≡◌, ◌∙◌, ◌-◌, Some, length, sym, arith}
use Rattle.std.specs.Prelude.{slice_get}
use Rattle.std.proofs.lemmas.Option.{slice_get_within}
use Rattle.cf_volume_changes.proofs.LowEnds.{last_decides, low_sum}
use Rattle.cf_volume_changes.proofs.written_rows.are_low.Goals as goal

pub returns-then-run-lt-ENDS : goal.returns-then-run-lt-ENDS
returns-then-run-lt-ENDS c =
    let at : slice_get c.args.runs.now (length c.args.runs.now - 1) ≡ Some c.in-Some.run'.now = sym c.in-Some.ensures.value in
    let within = slice_get_within c.args.runs.now (length c.args.runs.now - 1) c.in-Some.run'.now at in
    low_sum c.in-Some.run'.now.start c.in-Some.run'.now.len c.if-run-lt-ENDS.true
    ∙ sym (last_decides 0 (length c.args.runs.now - 1) c.args.runs.now c.in-Some.run'.now c.requires (omega (arith, within)) at)
