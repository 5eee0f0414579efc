use Rattle.std.proofs.Common.{List, length, ◌≡◌, ◌≤◌, ◌-◌, ◌^◌, ◌++◌}
use Rattle.cf_base.specs.declared.spans.Span.{Span}
use Rattle.cf_codec.specs.Left.{Takes}
use Rattle.cf_table.specs.Faults.{AtRuns}
use Rattle.cf_table.specs.Reading.{AreRunsFrom}
use Rattle.cf_table.specs.Spelling.{spell_spans}
use Rattle.cf_table.specs.declared.failures.RowError.{RowError}
use Rattle.cf_table.proofs.set_reads.read_runs.Given as goal

abbrev pub invariant-loop : goal.invariant-loop
invariant-loop l = record {
  low : l.low ≤ 2 ^ 32;
  took : Takes (spell_spans l.runs.items) l.fn.r l.r;
  count : length l.runs.items ≡ l.counter;
  runs : (more : List Span) → AreRunsFrom l.low more → AreRunsFrom 0 (l.runs.items ++ more);
  fault : (e : RowError) → AtRuns l.low (l.count - l.counter) l.r e → AtRuns 0 l.count l.fn.r e;
}
