use Rattle.std.proofs.Common.{◌≡◌, ◌+◌, ◌++◌, ◌≤◌, ◌^◌, drop}
use Rattle.std.specs.Prelude.{map}
use Rattle.std.specs.List.{AllByRecursion}
use Rattle.cf_model.specs.Asks.{ask_of_run}
use Rattle.cf_ask_rule.proofs.new_asks.asks_of.Given as goal

-- the asks so far, and those of the rest, are the asks of all
abbrev pub invariant-loop-run : goal.invariant-loop-run
invariant-loop-run l = record {
  all : l.out.items ++ map (ask_of_run l.item l.base) (drop l.run-index l.runs) ≡ map (ask_of_run l.item l.base) l.runs;
  small : AllByRecursion (λ r. r.first + r.count ≤ 2 ^ 40) (drop l.run-index l.runs);
}
