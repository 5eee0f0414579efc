use Rattle.std.proofs.Common.{◌≡◌, ◌-◌, length}
use Rattle.cf_collections.specs.Split.{AreFilled, flat}
use Rattle.cf_collections.proofs.chunked_lists.halve_full.Given as goal

abbrev pub invariant-loop-place : goal.invariant-loop-place
invariant-loop-place g l = record {
  same : flat l.chunks.items ≡ flat l.fn.chunks.items;
  filled : AreFilled l.chunks.items;
}

-- no chunk is empty, so there are no more of them than items
abbrev pub decreases-loop-place : goal.decreases-loop-place
decreases-loop-place g l = length (flat l.chunks.items) - length l.chunks.items
