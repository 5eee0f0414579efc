use Rattle.std.proofs.Common.{◌≡◌, ◌++◌, drop}
use Rattle.cf_ranges.specs.Steps.{cut_of}
use Rattle.cf_ranges.proofs.run_lists.without_span.Given as goal

abbrev pub invariant-loop-run : goal.invariant-loop-run
invariant-loop-run l = l.out.items ++ cut_of l.fn.span.start l.end (drop l.run-index l.runs) ≡ cut_of l.fn.span.start l.end l.runs
