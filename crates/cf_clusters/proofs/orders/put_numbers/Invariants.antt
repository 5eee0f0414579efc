use Rattle.std.proofs.Common.{◌≡◌, ℕ, ◌+◌, ◌<◌, length, get_or}
use Rattle.cf_clusters.proofs.orders.put_numbers.Given as goal

abbrev pub invariant-loop-place : goal.invariant-loop-place
invariant-loop-place l = record {
  long : length l.order ≡ l.count;
  numbers : (k : ℕ) → k < l.place → get_or l.order k 0 + k + 1 ≡ l.count;
}
