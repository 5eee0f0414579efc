use Rattle.std.proofs.Common.{◌≡◌, ◌≤◌, ◌-◌, drop, length}
use Rattle.cf_ask_rule.proofs.changes.equal_back.Given as goal

-- so many at the end are the same
abbrev pub invariant-loop-n : goal.invariant-loop-n
invariant-loop-n l = record {
  in_a : l.n ≤ length l.a;
  in_b : l.n ≤ length l.b;
  same : drop (length l.a - l.n) l.a ≡ drop (length l.b - l.n) l.b;
}

abbrev pub decreases-loop-n : goal.decreases-loop-n
decreases-loop-n l = l.least - l.n
