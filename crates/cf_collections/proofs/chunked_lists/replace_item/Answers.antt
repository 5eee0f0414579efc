use Rattle.std.proofs.Common.{◌≡◌, ◌<◌, ◌++◌, ◌∷◌, ◌∙◌, List, ap, arith, length, refl, subst, sym}
use Rattle.cf_collections.specs.Split.{IsSplit, behind, front, last_passes, rest}
use Rattle.cf_collections.proofs.ChunkEdits.{filled_set, some_more}
use Rattle.cf_collections.proofs.ChunkFronts.{changed, chunk_there, first_there, split_at}
use Rattle.cf_collections.proofs.Splits.{fails_at}
use Rattle.cf_collections.proofs.chunked_lists.replace_item.Goals as goal

pub index_mut-requires : goal.index_mut-requires
index_mut-requires g c =
    let at : c.count_chunks_before-place.result ≡ length (front (last_passes (g.O.Order.is_behind c.args.order.now c.args.item)) c.args.chunks.now.items) =
    c.count_chunks_before-place.ensures.count ∙ ap (λ (l : List (List _)). length (front (last_passes (g.O.Order.is_behind c.args.order.now c.args.item)) l)) c.deref.ensures.value in
    let lt : c.count_chunks_before-place.result < length c.args.chunks.now.items =
    chunk_there (g.O.Order.is_behind c.args.order.now c.args.item) c.args.chunks.now.items c.count_chunks_before-place.result c.requires.split at (omega (arith, c.count_chunks_before-place.ensures.within, ap (λ (l : List (List _)). length l) c.deref.ensures.value)) c.requires.there in
    omega (arith, lt, c.args.chunks.now.ok)

pub replace-requires-clause-split : goal.replace-requires-clause-split
replace-requires-clause-split g c =
    let at : c.count_chunks_before-place.result ≡ length (front (last_passes (g.O.Order.is_behind c.args.order.now c.args.item)) c.args.chunks.now.items) =
    c.count_chunks_before-place.ensures.count ∙ ap (λ (l : List (List _)). length (front (last_passes (g.O.Order.is_behind c.args.order.now c.args.item)) l)) c.deref.ensures.value in
    let lt : c.count_chunks_before-place.result < length c.args.chunks.now.items =
    chunk_there (g.O.Order.is_behind c.args.order.now c.args.item) c.args.chunks.now.items c.count_chunks_before-place.result c.requires.split at (omega (arith, c.count_chunks_before-place.ensures.within, ap (λ (l : List (List _)). length l) c.deref.ensures.value)) c.requires.there in
    subst (λ (l : List _). IsSplit (g.O.Order.is_behind c.args.order.now c.args.item) l) (sym c.index_mut.ensures.value)
    (split_at (g.O.Order.is_behind c.args.order.now c.args.item) c.args.chunks.now.items c.count_chunks_before-place.result c.index_mut.result.now lt c.requires.split)

pub replace-requires-clause-there : goal.replace-requires-clause-there
replace-requires-clause-there g c =
    let at : c.count_chunks_before-place.result ≡ length (front (last_passes (g.O.Order.is_behind c.args.order.now c.args.item)) c.args.chunks.now.items) =
    c.count_chunks_before-place.ensures.count ∙ ap (λ (l : List (List _)). length (front (last_passes (g.O.Order.is_behind c.args.order.now c.args.item)) l)) c.deref.ensures.value in
    let lt : c.count_chunks_before-place.result < length c.args.chunks.now.items =
    chunk_there (g.O.Order.is_behind c.args.order.now c.args.item) c.args.chunks.now.items c.count_chunks_before-place.result c.requires.split at (omega (arith, c.count_chunks_before-place.ensures.within, ap (λ (l : List (List _)). length l) c.deref.ensures.value)) c.requires.there in
    ap (λ (l : List _). last_passes (g.O.Order.is_behind c.args.order.now c.args.item) l) c.index_mut.ensures.value
    ∙ fails_at (last_passes (g.O.Order.is_behind c.args.order.now c.args.item)) c.args.chunks.now.items c.count_chunks_before-place.result c.index_mut.result.now at lt

pub returns-clause-value : goal.returns-clause-value
returns-clause-value g c =
    let at : c.count_chunks_before-place.result ≡ length (front (last_passes (g.O.Order.is_behind c.args.order.now c.args.item)) c.args.chunks.now.items) =
    c.count_chunks_before-place.ensures.count ∙ ap (λ (l : List (List _)). length (front (last_passes (g.O.Order.is_behind c.args.order.now c.args.item)) l)) c.deref.ensures.value in
    let lt : c.count_chunks_before-place.result < length c.args.chunks.now.items =
    chunk_there (g.O.Order.is_behind c.args.order.now c.args.item) c.args.chunks.now.items c.count_chunks_before-place.result c.requires.split at (omega (arith, c.count_chunks_before-place.ensures.within, ap (λ (l : List (List _)). length l) c.deref.ensures.value)) c.requires.there in
    first_there (g.O.Order.is_behind c.args.order.now c.args.item) c.args.chunks.now.items c.count_chunks_before-place.result c.index_mut.result.now c.replace.result c.requires.filled c.requires.split at lt
    (ap (λ (l : List _). behind (g.O.Order.is_behind c.args.order.now c.args.item) l) (sym c.index_mut.ensures.value) ∙ c.replace.ensures.value
    ∙ ap (λ (l : List _). c.replace.result ∷ rest (behind (g.O.Order.is_behind c.args.order.now c.args.item) l)) c.index_mut.ensures.value)

pub returns-clause-items : goal.returns-clause-items
returns-clause-items g c =
    let at : c.count_chunks_before-place.result ≡ length (front (last_passes (g.O.Order.is_behind c.args.order.now c.args.item)) c.args.chunks.now.items) =
    c.count_chunks_before-place.ensures.count ∙ ap (λ (l : List (List _)). length (front (last_passes (g.O.Order.is_behind c.args.order.now c.args.item)) l)) c.deref.ensures.value in
    let lt : c.count_chunks_before-place.result < length c.args.chunks.now.items =
    chunk_there (g.O.Order.is_behind c.args.order.now c.args.item) c.args.chunks.now.items c.count_chunks_before-place.result c.requires.split at (omega (arith, c.count_chunks_before-place.ensures.within, ap (λ (l : List (List _)). length l) c.deref.ensures.value)) c.requires.there in
    changed (g.O.Order.is_behind c.args.order.now c.args.item) (λ (b : List _). c.args.item ∷ rest b) (λ y b r. refl) c.args.chunks.now.items c.count_chunks_before-place.result c.replace.new.self c.index_mut.result.now c.requires.filled c.requires.split at lt
    (c.replace.ensures.items ∙ ap (λ (l : List _). front (g.O.Order.is_behind c.args.order.now c.args.item) l ++ c.args.item ∷ rest (behind (g.O.Order.is_behind c.args.order.now c.args.item) l)) c.index_mut.ensures.value)

pub returns-clause-filled : goal.returns-clause-filled
returns-clause-filled g c =
    filled_set c.args.chunks.now.items c.count_chunks_before-place.result c.replace.new.self c.requires.filled
    (subst (λ (l : List _). 0 < length l) (sym c.replace.ensures.items) (some_more (front (g.O.Order.is_behind c.args.order.now c.args.item) c.index_mut.result.now) c.args.item (rest (behind (g.O.Order.is_behind c.args.order.now c.args.item) c.index_mut.result.now))))
