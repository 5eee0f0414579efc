use Rattle.std.proofs.Common.{◌≡◌, ◌+◌, ◌*◌, ◌-◌, ◌≤◌, drop}
use Rattle.cf_ranges.specs.Positions.{IsRunsFrom}
use Rattle.cf_ranges.specs.Steps.{blocks_from}
use Rattle.cf_ranges.proofs.run_lists.blocks.Given as goal

abbrev pub invariant-loop-run : goal.invariant-loop-run
invariant-loop-run l = record {
  all : l.count + blocks_from l.next (drop l.run-index l.runs) ≡ blocks_from 0 l.runs;
  few : l.count ≤ l.next;
  rest : IsRunsFrom (4096 * l.next - 4095) (drop l.run-index l.runs);
}
