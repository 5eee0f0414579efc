use Rattle.std.proofs.Common.{◌≡◌, ◌<◌, ◌≤◌, ◌&&◌, ◌-◌, ◌^◌, ℕ, false}
use Rattle.cf_ask_rule.specs.Nexts.{lacks_at}
use Rattle.cf_ranges.specs.Positions.{contains}
use Rattle.cf_ask_rule.proofs.misses.next_missed.Given as goal

-- none is missed so far
abbrev pub invariant-loop-needed : goal.invariant-loop-needed
invariant-loop-needed l = record {
  from : l.from ≤ l.at;
  none : (p : ℕ) → l.from ≤ p → p < l.at → (lacks_at l.v p && contains l.needs p) ≡ false;
  small : l.at ≤ 2 ^ 52;
}

abbrev pub decreases-loop-needed : goal.decreases-loop-needed
decreases-loop-needed l = 2 ^ 53 - l.at
