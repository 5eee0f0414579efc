use Rattle.std.proofs.Common.{◌≡◌, ◌++◌, length}
use Rattle.cf_collections.specs.Split.{flat}
use Rattle.cf_collections.proofs.items.Items.next.Given as goal

abbrev pub invariant-loop-chunk : goal.invariant-loop-chunk
invariant-loop-chunk g l = l.self-inside.part.now ++ flat l.self-inside.chunks.now ≡ l.fn.self

abbrev pub decreases-loop-chunk : goal.decreases-loop-chunk
decreases-loop-chunk g l = length l.self-inside.chunks.now
