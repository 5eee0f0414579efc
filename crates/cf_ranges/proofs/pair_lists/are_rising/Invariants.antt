use Rattle.std.proofs.Common.{drop}
use Rattle.cf_ranges.specs.Pairs.{IsRising, IsRisingFrom}
use Rattle.cf_ranges.proofs.pair_lists.are_rising.Given as goal

abbrev pub invariant-loop-pair : goal.invariant-loop-pair
invariant-loop-pair l = record {
  whole : IsRisingFrom l.low (drop l.pair-index l.pairs) → IsRising l.pairs;
  rest : IsRising l.pairs → IsRisingFrom l.low (drop l.pair-index l.pairs);
}
