use Rattle.std.proofs.Common.{rules, ◌<◌, length, sym, ◌∙◌}
use Rattle.cf_world.proofs.Parted.{is_the_mark, is_no_mark, parted, passed}
use Rattle.cf_world.proofs.recordings.parts.Goals as goal

pub returns-then-is_mark : goal.returns-then-is_mark
returns-then-is_mark c =
    let some : 0 < length c.loop-left.left.now = search rules in
    parted c.args.text.now c.loop-left.left.now c.first_line.result.0.now c.first_line.result.1.now c.loop-left.place c.loop-left.invariant some c.first_line.ensures.line (is_the_mark _ (sym c.is_mark.ensures ∙ c.if-is_mark.true))

pub loop-left-preserved : goal.loop-left-preserved
loop-left-preserved c =
    let some : 0 < length c.loop-left.left.now = search rules in
    passed c.args.text.now c.loop-left.left.now c.first_line.result.0.now c.first_line.result.1.now c.loop-left.place c.loop-left.invariant some c.first_line.ensures.line (is_no_mark _ (sym c.is_mark.ensures ∙ c.if-is_mark.false))
