use Rattle.std.proofs.Common.{drop}
use Rattle.cf_ranges.specs.Positions.{IsRuns, IsRunsFrom}
use Rattle.cf_ranges.proofs.run_lists.are_runs.Given as goal

abbrev pub invariant-loop-run : goal.invariant-loop-run
invariant-loop-run l = record {
  whole : IsRunsFrom l.low (drop l.run-index l.runs) → IsRuns l.runs;
  rest : IsRuns l.runs → IsRunsFrom l.low (drop l.run-index l.runs);
}
