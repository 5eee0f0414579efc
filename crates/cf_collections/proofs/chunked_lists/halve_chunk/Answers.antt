use Rattle.std.proofs.Common.{◌≡◌, ◌∙◌, List, ap, arith, get_or, length, set, subst, sym}
use Rattle.cf_collections.specs.Split.{AreFilled, flat}
use Rattle.cf_collections.proofs.ChunkEdits.{halved, halves_filled, set_same}
use Rattle.cf_collections.proofs.chunked_lists.halve_chunk.Goals as goal

pub halve-requires : goal.halve-requires
halve-requires g c =
    let here : c.index_mut.result.now ≡ get_or c.args.chunks.now.items c.args.place c.index_mut.result.now =
    c.index_mut.ensures.value ∙ ap (λ (l : List (List _)). get_or l c.args.place c.index_mut.result.now) c.in_ok-reserve.ensures.items in
    omega (arith, ap (λ (l : List _). length l) here, c.requires.many c.index_mut.result.now)

pub unwrap-requires : goal.unwrap-requires
unwrap-requires g c = c.insert.ensures.succeeds (omega (arith, c.in_ok-reserve.ensures.ok))

pub returns-in_err-half-clause-same : goal.returns-in_err-half-clause-same
returns-in_err-half-clause-same g c =
    ap (λ (l : List (List _)). flat (set l c.args.place c.halve.new.self)) c.in_ok-reserve.ensures.items
    ∙ ap (λ (l : List (List _)). flat l) (set_same c.args.chunks.now.items c.args.place c.halve.new.self c.index_mut.result.now
    (c.in_err-half.ensures.err ∙ c.index_mut.ensures.value ∙ ap (λ (l : List (List _)). get_or l c.args.place c.index_mut.result.now) c.in_ok-reserve.ensures.items) c.requires.place)

pub returns-in_err-half-clause-filled : goal.returns-in_err-half-clause-filled
returns-in_err-half-clause-filled g c =
    subst (λ (l : List (List _)). AreFilled l) (sym (ap (λ (l : List (List _)). set l c.args.place c.halve.new.self) c.in_ok-reserve.ensures.items
    ∙ set_same c.args.chunks.now.items c.args.place c.halve.new.self c.index_mut.result.now
    (c.in_err-half.ensures.err ∙ c.index_mut.ensures.value ∙ ap (λ (l : List (List _)). get_or l c.args.place c.index_mut.result.now) c.in_ok-reserve.ensures.items) c.requires.place)) c.requires.filled

pub returns-clause-same : goal.returns-clause-same
returns-clause-same g c =
    halved c.insert.result c.args.chunks.now.items c.reserve.new.self.items c.insert.new.self.items c.args.place c.halve.new.self c.in_ok-half.half c.index_mut.result.now
    (c.insert.ensures.succeeds (omega (arith, c.in_ok-reserve.ensures.ok))) c.in_ok-reserve.ensures.items c.insert.ensures.items c.requires.place c.index_mut.ensures.value c.in_ok-half.ensures.halves

pub returns-clause-filled : goal.returns-clause-filled
returns-clause-filled g c =
    halves_filled c.insert.result c.args.chunks.now.items c.reserve.new.self.items c.insert.new.self.items c.args.place c.halve.new.self c.in_ok-half.half
    (c.insert.ensures.succeeds (omega (arith, c.in_ok-reserve.ensures.ok))) c.in_ok-reserve.ensures.items c.insert.ensures.items c.requires.filled c.in_ok-half.ensures.first c.in_ok-half.ensures.filled
