use Rattle.std.proofs.Common.{◌≡◌, ◌+◌, ◌<◌, ◌≤◌, ◌^◌, ◌++◌, drop}
use Rattle.cf_model.specs.Asks.{is_fetched, runs_on}
use Rattle.cf_ask_rule.proofs.new_asks.runs_on.Given as goal

-- the runs so far, and those that the open run and the rest make, are the runs of all
abbrev pub invariant-loop-b : goal.invariant-loop-b
invariant-loop-b l = record {
  all : l.out.items ++ runs_on l.v (record { fetch = l.fetch; first = l.first; count = l.count }) (drop l.b-index l.rest) ≡ runs_on l.v (record { fetch = is_fetched l.v l.fn.head; first = l.fn.head; count = 1 }) l.rest;
  count : l.count ≤ l.b-index + 1;
  first : l.first < 2 ^ 40;
}
