use Rattle.std.proofs.Common.{◌≡◌, ◌++◌, length, map}
use Rattle.cf_check_judge.specs.Judge.{telling_of}
use Rattle.cf_check_compare.specs.Told.{tellings_before_result}
use Rattle.cf_check_compare.proofs.told_faults.by_lines.Given as goal

abbrev pub invariant-loop-left : goal.invariant-loop-left
invariant-loop-left l = map telling_of l.told.items ++ tellings_before_result l.left ≡ tellings_before_result l.rest

abbrev pub decreases-loop-left : goal.decreases-loop-left
decreases-loop-left l = length l.left
