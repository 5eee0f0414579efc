use Rattle.std.proofs.Common.{◌≤◌, ◌+◌, ◌^◌, min, take}
use Rattle.std.specs.List.{AllByRecursion}
use Rattle.cf_ask_rule.proofs.changes.greatest_end.Given as goal

-- none of the runs so far ends beyond
abbrev pub invariant-loop-run : goal.invariant-loop-run
invariant-loop-run l = AllByRecursion (λ r. min (r.start + r.len) (2 ^ 32) ≤ l.greatest) (take l.run-index l.runs)
