use Rattle.std.proofs.Common.{of_calls, rules}
use Rattle.std.proofs.lemmas.Fn.{always_returns_same}
use Rattle.cf_collections.specs.Split.{last_passes}
use Rattle.cf_collections.proofs.ChunkFronts.{chunks_split}
use Rattle.cf_collections.proofs.Splits.{parted, point_is}
use Rattle.cf_collections.proofs.searches.count_chunks_before.Goals as goal

pub returns-clause-count : goal.returns-clause-count
returns-clause-count g c =
    let point = c.partition_point.ensures.partitioned (last_passes (g.P.Probe.is_behind c.args.probe.now)) (always_returns_same _ _ _ (λ a r f k. search (rules, of_calls)))
    (parted (last_passes (g.P.Probe.is_behind c.args.probe.now)) c.args.chunks.now (chunks_split (g.P.Probe.is_behind c.args.probe.now) c.args.chunks.now c.requires.filled c.requires.split)) in
    point_is (last_passes (g.P.Probe.is_behind c.args.probe.now)) c.args.chunks.now c.partition_point.result c.partition_point.ensures.bound point.0 point.1
