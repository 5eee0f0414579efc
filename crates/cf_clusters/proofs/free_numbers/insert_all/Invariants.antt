use Rattle.std.proofs.Common.{◌≡◌, length, drop}
use Rattle.cf_clusters.specs.LeastNumbers.{added}
use Rattle.cf_clusters.proofs.free_numbers.insert_all.Given as goal

abbrev pub invariant-loop-number : goal.invariant-loop-number
invariant-loop-number l = record {
  long : length l.set ≡ length l.fn.set;
  adds : added (drop l.number-index l.numbers) l.set ≡ added l.numbers l.fn.set;
}
