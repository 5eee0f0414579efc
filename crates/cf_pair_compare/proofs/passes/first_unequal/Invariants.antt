use Rattle.std.proofs.Common.{length}
use Rattle.cf_pair_compare.proofs.Reaching.{Reaches}
use Rattle.cf_pair_compare.specs.First.{Rises}
use Rattle.cf_pair_compare.proofs.passes.first_unequal.Given as goal

abbrev pub invariant-loop-ours : goal.invariant-loop-ours
invariant-loop-ours l = Rises l.first → Rises l.second → Reaches l.first l.second l.ours l.theirs

abbrev pub decreases-loop-ours : goal.decreases-loop-ours
decreases-loop-ours l = length l.ours
