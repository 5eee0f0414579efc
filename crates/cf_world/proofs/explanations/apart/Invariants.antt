use Rattle.std.proofs.Common.{length}
use Rattle.cf_world.proofs.explanations.apart.Given as goal

abbrev pub decreases-loop-line : goal.decreases-loop-line
decreases-loop-line l = length l.one
