use Rattle.std.proofs.Common.{List, ap, arith, length}
use Rattle.cf_collections.proofs.ChunkEdits.{few_chunks}
use Rattle.cf_collections.proofs.chunked_lists.halve_full.Goals as goal

pub loop-place-smaller : goal.loop-place-smaller
loop-place-smaller g c =
    omega (arith, ap (λ (l : List _). length l) c.in_ok-halve_chunk.ensures.same, c.in_ok-halve_chunk.ensures.more, few_chunks c.halve_chunk.new.chunks.items c.in_ok-halve_chunk.ensures.filled)
