use Rattle.std.proofs.Common.{◌≡◌, ◌++◌, length}
use Rattle.cf_volume_commit.specs.Differing.{keys_in}
use Rattle.cf_volume_commit.proofs.differences.keys_gone.Given as goal

abbrev pub invariant-loop-aux : goal.invariant-loop-aux
invariant-loop-aux l = l.keys.items ++ keys_in l.then l.now l.items ≡ keys_in l.then l.now l.noted

abbrev pub decreases-loop-aux : goal.decreases-loop-aux
decreases-loop-aux l = length l.items
