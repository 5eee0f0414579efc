use Rattle.std.proofs.Common.{sym, ◌∙◌, refl}
use Rattle.cf_check_compare.proofs.FirstLines.{result_later}
use Rattle.cf_check_compare.proofs.lines.next_result.Goals as goal

pub loop-left-init : goal.loop-left-init
loop-left-init c = refl

pub loop-left-preserved : goal.loop-left-preserved
loop-left-preserved c = c.loop-left.invariant ∙ result_later c.loop-left.left.now c.next_line.result.0.now c.next_line.result.1.now c.next_line.ensures.line (sym c.is_result.ensures ∙ c.if-is_result.false)
