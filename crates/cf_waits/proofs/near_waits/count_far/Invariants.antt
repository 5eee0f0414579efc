use Rattle.std.proofs.Common.{◌≡◌, ◌≤◌, ◌-◌, ◌&&◌, false, length, take, eqb}
use Rattle.std.specs.List.{AllByRecursion}
use Rattle.cf_ask_rule.specs.Narrowing.{reaches_into}
use Rattle.cf_model.specs.Missing.{needed}
use Rattle.cf_waits.proofs.near_waits.count_far.Given as goal

-- none so far needs something there
abbrev pub invariant-loop-n : goal.invariant-loop-n
invariant-loop-n l = record {
  few : l.n ≤ length l.waits;
  far : AllByRecursion (λ w. ((eqb w.item.0 l.item.0) && reaches_into (needed l.v w) l.span.start l.span.end) ≡ false) (take l.n l.waits);
}

abbrev pub decreases-loop-n : goal.decreases-loop-n
decreases-loop-n l = length l.waits - l.n
