use Rattle.std.proofs.Common.{◌≤◌, take}
use Rattle.std.specs.List.{AllByRecursion}
use Rattle.cf_waits.proofs.ask_ages.least_of.Given as goal

-- none of the asks so far began before
abbrev pub invariant-loop-a : goal.invariant-loop-a
invariant-loop-a l = record {
  least : AllByRecursion (λ a. l.least ≤ a.ticks) (take l.a-index l.asks);
  now : l.least ≤ l.tick;
}
