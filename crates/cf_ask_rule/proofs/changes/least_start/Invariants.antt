use Rattle.std.proofs.Common.{◌≤◌, take}
use Rattle.std.specs.List.{AllByRecursion}
use Rattle.cf_ask_rule.proofs.changes.least_start.Given as goal

-- none of the runs so far begins before
abbrev pub invariant-loop-run : goal.invariant-loop-run
invariant-loop-run l = AllByRecursion (λ r. l.least ≤ r.start) (take l.run-index l.runs)
