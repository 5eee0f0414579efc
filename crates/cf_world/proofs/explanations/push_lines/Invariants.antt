use Rattle.std.proofs.Common.{◌≤◌, length}
use Rattle.cf_world.proofs.explanations.push_lines.Given as goal

abbrev pub invariant-loop-left : goal.invariant-loop-left
invariant-loop-left l = l.shown ≤ 5

abbrev pub decreases-loop-left : goal.decreases-loop-left
decreases-loop-left l = length l.left
