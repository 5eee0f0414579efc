use Rattle.std.proofs.Common.{◌≡◌, ◌≤◌, ◌+◌, length}
use Rattle.cf_script.specs.Script.{lines_of}
use Rattle.cf_world.proofs.recordings.next_number.Given as goal

abbrev pub invariant-loop-left : goal.invariant-loop-left
invariant-loop-left l = (l.number + length (lines_of l.left) ≡ length (lines_of l.text) + 1) × (l.number + length l.left ≤ length l.text + 1)

abbrev pub decreases-loop-left : goal.decreases-loop-left
decreases-loop-left l = length l.left
