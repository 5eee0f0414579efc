use Rattle.std.proofs.Common.{◌≡◌, ◌++◌, drop}
use Rattle.cf_ranges.specs.Steps.{missing_of}
use Rattle.cf_ranges.proofs.run_lists.missing_in.Given as goal

abbrev pub invariant-loop-run : goal.invariant-loop-run
invariant-loop-run l = l.out.items ++ missing_of l.at l.end (drop l.run-index l.near) ≡ missing_of l.fn.span.start l.end l.runs
