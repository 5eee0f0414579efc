use Rattle.std.proofs.Common.{◌≤◌, take}
use Rattle.std.specs.List.{AllByRecursion}
use Rattle.cf_ask_rule.specs.Narrowing.{IsWithin}
use Rattle.cf_ask_rule.proofs.changed_plans.reach_of.Given as goal

-- it has what changed, and what those so far need
abbrev pub invariant-loop-e : goal.invariant-loop-e
invariant-loop-e l = record {
  start : l.start ≤ l.fn.change.start;
  end : l.fn.change.end ≤ l.end;
  within : AllByRecursion (λ e. IsWithin l.v l.start l.end e.0) (take l.e-index l.ended);
}
