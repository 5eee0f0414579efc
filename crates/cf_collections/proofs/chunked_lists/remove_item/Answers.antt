use Rattle.std.proofs.Common.{◌≡◌, ◌<◌, ◌≤◌, ◌++◌, ◌∙◌, [], List, ap, arith, length, refl, subst, sym}
use Rattle.std.proofs.lemmas.List.{get_or_default}
use Rattle.cf_collections.specs.Split.{AreFilled, IsSplit, behind, flat, front, last_passes, rest}
use Rattle.cf_collections.proofs.ChunkEdits.{filled_at, filled_remove, filled_set, flat_gone}
use Rattle.cf_collections.proofs.ChunkFronts.{all_before, changed, end_stays, more_stay, one_gone, split_at}
use Rattle.cf_collections.proofs.Splits.{fails_at}
use Rattle.cf_collections.proofs.chunked_lists.remove_item.Goals as goal

pub returns-then-place-len-clause-removes : goal.returns-then-place-len-clause-removes
returns-then-place-len-clause-removes g c =
    let at : c.count_chunks_before-place.result ≡ length (front (last_passes (g.P.Probe.is_behind c.args.probe.now)) c.args.chunks.now.items) =
    c.count_chunks_before-place.ensures.count ∙ ap (λ (l : List (List _)). length (front (last_passes (g.P.Probe.is_behind c.args.probe.now)) l)) c.deref.ensures.value in
    let all : length c.args.chunks.now.items ≡ length (front (last_passes (g.P.Probe.is_behind c.args.probe.now)) c.args.chunks.now.items) =
    omega (arith, at, c.if-place-len.true, c.len.ensures, c.deref.ensures.len, ap (λ (l : List (List _)). length l) c.deref.ensures.value) in
    end_stays (g.P.Probe.is_behind c.args.probe.now) (flat c.args.chunks.now.items) (all_before (g.P.Probe.is_behind c.args.probe.now) c.args.chunks.now.items c.requires.split all)

pub returns-then-as_slice-eq1-clause-removes : goal.returns-then-as_slice-eq1-clause-removes
returns-then-as_slice-eq1-clause-removes g c =
    let lt : c.count_chunks_before-place.result < length c.args.chunks.now.items =
    omega (arith, c.count_chunks_before-place.ensures.within, c.if-place-len.false, c.len.ensures, c.deref.ensures.len, ap (λ (l : List (List _)). length l) c.deref.ensures.value) in
    let at : c.count_chunks_before-place.result ≡ length (front (last_passes (g.P.Probe.is_behind c.args.probe.now)) c.args.chunks.now.items) =
    c.count_chunks_before-place.ensures.count ∙ ap (λ (l : List (List _)). length (front (last_passes (g.P.Probe.is_behind c.args.probe.now)) l)) c.deref.ensures.value in
    let fails = fails_at (last_passes (g.P.Probe.is_behind c.args.probe.now)) c.args.chunks.now.items c.count_chunks_before-place.result c.index.result.now at lt in
    ap (λ (l : List (List _)). flat l) c.remove.ensures.items ∙ flat_gone c.args.chunks.now.items c.count_chunks_before-place.result lt
    ∙ changed (g.P.Probe.is_behind c.args.probe.now) rest (λ y b r. refl) c.args.chunks.now.items c.count_chunks_before-place.result [] c.index.result.now c.requires.filled c.requires.split at lt
    (one_gone (g.P.Probe.is_behind c.args.probe.now) _ (ap (λ (l : List _). length l) (sym (c.as_slice.ensures ∙ c.index.ensures)) ∙ c.if-as_slice-eq1.true) fails)

pub returns-then-as_slice-eq1-clause-filled : goal.returns-then-as_slice-eq1-clause-filled
returns-then-as_slice-eq1-clause-filled g c =
    subst (λ (l : List (List _)). AreFilled l) (sym c.remove.ensures.items) (filled_remove c.args.chunks.now.items c.count_chunks_before-place.result c.requires.filled)

pub remove-requires-2-clause-split : goal.remove-requires-2-clause-split
remove-requires-2-clause-split g c =
    let lt : c.count_chunks_before-place.result < length c.args.chunks.now.items =
    omega (arith, c.count_chunks_before-place.ensures.within, c.if-place-len.false, c.len.ensures, c.deref.ensures.len, ap (λ (l : List (List _)). length l) c.deref.ensures.value) in
    subst (λ (l : List _). IsSplit (g.P.Probe.is_behind c.args.probe.now) l) (sym c.index_mut.ensures.value)
    (split_at (g.P.Probe.is_behind c.args.probe.now) c.args.chunks.now.items c.count_chunks_before-place.result c.index_mut.result.now lt c.requires.split)

pub remove-requires-2-clause-there : goal.remove-requires-2-clause-there
remove-requires-2-clause-there g c =
    let lt : c.count_chunks_before-place.result < length c.args.chunks.now.items =
    omega (arith, c.count_chunks_before-place.ensures.within, c.if-place-len.false, c.len.ensures, c.deref.ensures.len, ap (λ (l : List (List _)). length l) c.deref.ensures.value) in
    let at : c.count_chunks_before-place.result ≡ length (front (last_passes (g.P.Probe.is_behind c.args.probe.now)) c.args.chunks.now.items) =
    c.count_chunks_before-place.ensures.count ∙ ap (λ (l : List (List _)). length (front (last_passes (g.P.Probe.is_behind c.args.probe.now)) l)) c.deref.ensures.value in
    ap (λ (l : List _). last_passes (g.P.Probe.is_behind c.args.probe.now) l) c.index_mut.ensures.value
    ∙ fails_at (last_passes (g.P.Probe.is_behind c.args.probe.now)) c.args.chunks.now.items c.count_chunks_before-place.result c.index_mut.result.now at lt

pub returns-clause-removes : goal.returns-clause-removes
returns-clause-removes g c =
    let lt : c.count_chunks_before-place.result < length c.args.chunks.now.items =
    omega (arith, c.count_chunks_before-place.ensures.within, c.if-place-len.false, c.len.ensures, c.deref.ensures.len, ap (λ (l : List (List _)). length l) c.deref.ensures.value) in
    let at : c.count_chunks_before-place.result ≡ length (front (last_passes (g.P.Probe.is_behind c.args.probe.now)) c.args.chunks.now.items) =
    c.count_chunks_before-place.ensures.count ∙ ap (λ (l : List (List _)). length (front (last_passes (g.P.Probe.is_behind c.args.probe.now)) l)) c.deref.ensures.value in
    changed (g.P.Probe.is_behind c.args.probe.now) rest (λ y b r. refl) c.args.chunks.now.items c.count_chunks_before-place.result c.remove-2.new.self c.index_mut.result.now c.requires.filled c.requires.split at lt
    (c.remove-2.ensures.items ∙ ap (λ (l : List _). front (g.P.Probe.is_behind c.args.probe.now) l ++ rest (behind (g.P.Probe.is_behind c.args.probe.now) l)) c.index_mut.ensures.value)

pub returns-clause-filled : goal.returns-clause-filled
returns-clause-filled g c =
    let lt : c.count_chunks_before-place.result < length c.args.chunks.now.items =
    omega (arith, c.count_chunks_before-place.ensures.within, c.if-place-len.false, c.len.ensures, c.deref.ensures.len, ap (λ (l : List (List _)). length l) c.deref.ensures.value) in
    let at : c.count_chunks_before-place.result ≡ length (front (last_passes (g.P.Probe.is_behind c.args.probe.now)) c.args.chunks.now.items) =
    c.count_chunks_before-place.ensures.count ∙ ap (λ (l : List (List _)). length (front (last_passes (g.P.Probe.is_behind c.args.probe.now)) l)) c.deref.ensures.value in
    let here : c.index_mut.result.now ≡ c.index.result.now =
    c.index_mut.ensures.value ∙ get_or_default c.args.chunks.now.items c.count_chunks_before-place.result c.index_mut.result.now c.index.result.now lt ∙ sym c.index.ensures in
    let some : 0 < length c.index.result.now = subst (λ (l : List _). 0 < length l) (sym c.index.ensures) (filled_at c.args.chunks.now.items c.count_chunks_before-place.result c.index.result.now c.requires.filled lt) in
    let two : 2 ≤ length c.index_mut.result.now = omega (arith, some, ap (λ (l : List _). length l) here, ap (λ (l : List _). length l) c.as_slice.ensures, c.if-as_slice-eq1.false) in
    filled_set c.args.chunks.now.items c.count_chunks_before-place.result c.remove-2.new.self c.requires.filled
    (subst (λ (l : List _). 0 < length l) (sym c.remove-2.ensures.items) (more_stay (g.P.Probe.is_behind c.args.probe.now) c.index_mut.result.now two
    (ap (λ (l : List _). last_passes (g.P.Probe.is_behind c.args.probe.now) l) c.index_mut.ensures.value
    ∙ fails_at (last_passes (g.P.Probe.is_behind c.args.probe.now)) c.args.chunks.now.items c.count_chunks_before-place.result c.index_mut.result.now at lt)))
