use Rattle.std.proofs.Common.{◌≡◌, ◌<◌, ◌++◌, ◌∷◌, ◌∙◌, List, ap, arith, length, refl, subst, sym}
use Rattle.cf_collections.specs.Split.{IsSplit, behind, flat, front, last_passes}
use Rattle.cf_collections.proofs.ChunkEdits.{filled_at, filled_set, grown, on_err, on_ok, set_same}
use Rattle.cf_collections.proofs.ChunkFronts.{all_before, changed, end_there, split_at}
use Rattle.cf_collections.proofs.chunked_lists.insert_item.Goals as goal

pub returns-then-place-len-clause-ok : goal.returns-then-place-len-clause-ok
returns-then-place-len-clause-ok g c =
    let at : c.args.place ≡ length (front (last_passes (g.O.Order.is_behind c.args.order.now c.args.item)) c.args.chunks.now.items) =
    c.requires.place in
    let all : length c.args.chunks.now.items ≡ length (front (last_passes (g.O.Order.is_behind c.args.order.now c.args.item)) c.args.chunks.now.items) =
    omega (arith, at, c.if-place-len.true, c.len.ensures) in
    on_ok c.push_item.result (λ h. h ∙ end_there (g.O.Order.is_behind c.args.order.now c.args.item) (flat c.args.chunks.now.items) c.args.item (all_before (g.O.Order.is_behind c.args.order.now c.args.item) c.args.chunks.now.items c.requires.split all)) c.push_item.ensures.ok

pub insert-requires : goal.insert-requires
insert-requires g c =
    let lt : c.args.place < length c.args.chunks.now.items =
    omega (arith, c.requires.within, c.if-place-len.false, c.len.ensures) in
    subst (λ (l : List _). IsSplit (g.O.Order.is_behind c.args.order.now c.args.item) l) (sym c.index_mut.ensures.value)
    (split_at (g.O.Order.is_behind c.args.order.now c.args.item) c.args.chunks.now.items c.args.place c.index_mut.result.now lt c.requires.split)

pub returns-clause-ok : goal.returns-clause-ok
returns-clause-ok g c =
    let lt : c.args.place < length c.args.chunks.now.items =
    omega (arith, c.requires.within, c.if-place-len.false, c.len.ensures) in
    let at : c.args.place ≡ length (front (last_passes (g.O.Order.is_behind c.args.order.now c.args.item)) c.args.chunks.now.items) =
    c.requires.place in
    on_ok c.insert.result (λ h. changed (g.O.Order.is_behind c.args.order.now c.args.item) (λ (b : List _). c.args.item ∷ b) (λ y b r. refl) c.args.chunks.now.items c.args.place c.insert.new.self c.index_mut.result.now c.requires.filled c.requires.split at lt
    (h ∙ ap (λ (l : List _). front (g.O.Order.is_behind c.args.order.now c.args.item) l ++ c.args.item ∷ behind (g.O.Order.is_behind c.args.order.now c.args.item) l) c.index_mut.ensures.value)) c.insert.ensures.ok

pub returns-clause-filled : goal.returns-clause-filled
returns-clause-filled g c =
    let lt : c.args.place < length c.args.chunks.now.items =
    omega (arith, c.requires.within, c.if-place-len.false, c.len.ensures) in
    filled_set c.args.chunks.now.items c.args.place c.insert.new.self c.requires.filled
    (grown c.insert.result c.insert.new.self c.index_mut.result.now (front (g.O.Order.is_behind c.args.order.now c.args.item) c.index_mut.result.now) (behind (g.O.Order.is_behind c.args.order.now c.args.item) c.index_mut.result.now) c.args.item c.insert.ensures.ok c.insert.ensures.err
    (subst (λ (l : List _). 0 < length l) (sym c.index_mut.ensures.value) (filled_at c.args.chunks.now.items c.args.place c.index_mut.result.now c.requires.filled lt)))

pub returns-clause-err : goal.returns-clause-err
returns-clause-err g c =
    let lt : c.args.place < length c.args.chunks.now.items =
    omega (arith, c.requires.within, c.if-place-len.false, c.len.ensures) in
    on_err c.insert.result (λ h. ap (λ (l : List (List _)). flat l) (set_same c.args.chunks.now.items c.args.place c.insert.new.self c.index_mut.result.now (h ∙ c.index_mut.ensures.value) lt)) c.insert.ensures.err
