use Rattle.std.proofs.Common.{◌≡◌, length}
use Rattle.cf_check_model.specs.Reports.{result_lines}
use Rattle.cf_check_compare.proofs.lines.next_result.Given as goal

abbrev pub invariant-loop-left : goal.invariant-loop-left
invariant-loop-left l = result_lines l.rest ≡ result_lines l.left

abbrev pub decreases-loop-left : goal.decreases-loop-left
decreases-loop-left l = length l.left
