use Rattle.std.proofs.Common.{◌<◌, ◌∙◌, List, arith, length, subst, sym}
use Rattle.cf_collections.specs.Split.{IsSplit, flat}
use Rattle.cf_collections.proofs.ChunkFronts.{all_before, all_behind, left_there, split_at}
use Rattle.cf_collections.proofs.Splits.{drop_at}
use Rattle.cf_collections.proofs.chunked_lists.items_from.Goals as goal

pub returns-then-place-chunks : goal.returns-then-place-chunks
returns-then-place-chunks g c =
    c.of.ensures ∙ sym (all_behind (g.P.Probe.is_behind c.args.probe.now) (flat c.args.chunks.now) (
    all_before (g.P.Probe.is_behind c.args.probe.now) c.args.chunks.now c.requires.split (sym c.if-place-chunks.true ∙ c.count_chunks_before-place.ensures.count)))

pub count_before-requires : goal.count_before-requires
count_before-requires g c =
    let lt : c.count_chunks_before-place.result < length c.args.chunks.now = omega (arith, c.count_chunks_before-place.ensures.within, c.if-place-chunks.false) in
    subst (λ (l : List _). IsSplit (g.P.Probe.is_behind c.args.probe.now) l) (sym (c.as_slice-part.ensures ∙ c.index-chunks-place.is))
    (split_at (g.P.Probe.is_behind c.args.probe.now) c.args.chunks.now c.count_chunks_before-place.result c.index-chunks-place.result lt c.requires.split)

pub returns : goal.returns
returns g c =
    let lt : c.count_chunks_before-place.result < length c.args.chunks.now = omega (arith, c.count_chunks_before-place.ensures.within, c.if-place-chunks.false) in
    left_there (g.P.Probe.is_behind c.args.probe.now) c.args.chunks.now c.count_chunks_before-place.result c.count_before.result c.index-chunks-place.result c.as_slice-part.result.now _ c.requires.filled c.requires.split
    c.count_chunks_before-place.ensures.count lt c.as_slice-part.ensures c.index-chunks-place.is (drop_at (g.P.Probe.is_behind c.args.probe.now) c.as_slice-part.result.now c.count_before.result c.count_before.ensures.count) c.of-2.ensures
