use Rattle.std.proofs.Common.{length}
use Rattle.cf_world.proofs.Parted.{HasPassed}
use Rattle.cf_world.proofs.recordings.parts.Given as goal

abbrev pub invariant-loop-left : goal.invariant-loop-left
invariant-loop-left l = HasPassed l.text l.left l.place

abbrev pub decreases-loop-left : goal.decreases-loop-left
decreases-loop-left l = length l.left
