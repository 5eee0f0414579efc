use Rattle.std.proofs.Common.{◌≡◌, ◌++◌, take, map}
use Rattle.cf_report.specs.Texts.{run}
use Rattle.cf_report.specs.Words.{spaced}
use Rattle.cf_report.proofs.results.push_runs.Given as goal

abbrev pub invariant-loop-span : goal.invariant-loop-span
invariant-loop-span l = l.out.items ≡ l.fn.out.items ++ spaced (map run (take l.span-index l.runs))
