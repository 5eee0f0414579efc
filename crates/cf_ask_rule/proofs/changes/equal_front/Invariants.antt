use Rattle.std.proofs.Common.{◌≡◌, ◌≤◌, ◌-◌, length, take}
use Rattle.cf_ask_rule.proofs.changes.equal_front.Given as goal

-- so many at the front are the same
abbrev pub invariant-loop-n : goal.invariant-loop-n
invariant-loop-n l = record {
  in_a : l.n ≤ length l.a;
  in_b : l.n ≤ length l.b;
  same : take l.n l.a ≡ take l.n l.b;
}

abbrev pub decreases-loop-n : goal.decreases-loop-n
decreases-loop-n l = l.least - l.n
