use Rattle.std.proofs.Common.{◌≡◌, ◌<◌, ◌+◌, ◌-◌, ◌++◌, ◌∷◌, ◌∙◌, [], List, ap, arith, length, subst, sym}
use Rattle.cf_collections.specs.Split.{AreFilled, flat}
use Rattle.cf_collections.proofs.ChunkEdits.{filled_at, filled_push, filled_set, flat_longer, flat_push, grown, on_err, on_ok, set_same}
use Rattle.cf_collections.proofs.chunked_lists.push_item.Goals as goal

pub returns-then-not-is_full-clause-ok : goal.returns-then-not-is_full-clause-ok
returns-then-not-is_full-clause-ok g c =
    let last : c.len-len.result - 1 + 1 ≡ length c.args.chunks.now.items = omega (arith, c.len-len.ensures, c.args.chunks.now.ok, c.if-len-gt0.true) in
    on_ok c.push.result (λ h. flat_longer c.args.chunks.now.items (c.len-len.result - 1) c.push.new.self (c.args.item ∷ []) c.index_mut.result.now last (h ∙ ap (λ (l : List _). l ++ c.args.item ∷ []) c.index_mut.ensures.value)) c.push.ensures.ok

pub returns-then-not-is_full-clause-filled : goal.returns-then-not-is_full-clause-filled
returns-then-not-is_full-clause-filled g c =
    let last : c.len-len.result - 1 < length c.args.chunks.now.items = omega (arith, c.len-len.ensures, c.args.chunks.now.ok, c.if-len-gt0.true) in
    filled_set c.args.chunks.now.items (c.len-len.result - 1) c.push.new.self c.requires
    (grown c.push.result c.push.new.self c.index_mut.result.now c.index_mut.result.now [] c.args.item c.push.ensures.ok c.push.ensures.err
    (subst (λ (l : List _). 0 < length l) (sym c.index_mut.ensures.value) (filled_at c.args.chunks.now.items (c.len-len.result - 1) c.index_mut.result.now c.requires last)))

pub returns-then-not-is_full-clause-err : goal.returns-then-not-is_full-clause-err
returns-then-not-is_full-clause-err g c =
    let last : c.len-len.result - 1 < length c.args.chunks.now.items = omega (arith, c.len-len.ensures, c.args.chunks.now.ok, c.if-len-gt0.true) in
    on_err c.push.result (λ h. ap (λ (l : List (List _)). flat l) (set_same c.args.chunks.now.items (c.len-len.result - 1) c.push.new.self c.index_mut.result.now (h ∙ c.index_mut.ensures.value) last)) c.push.ensures.err

pub returns-clause-ok : goal.returns-clause-ok
returns-clause-ok g c =
    ap (λ (l : List (List _)). flat l) c.in_ok-push.ensures.items ∙ flat_push c.args.chunks.now.items c.in_ok-of.field-0 ∙ ap (λ (l : List _). flat c.args.chunks.now.items ++ l) c.in_ok-of.ensures

pub returns-clause-filled : goal.returns-clause-filled
returns-clause-filled g c =
    subst (λ (l : List (List _)). AreFilled l) (sym c.in_ok-push.ensures.items) (filled_push c.args.chunks.now.items c.in_ok-of.field-0 c.requires (omega (arith, ap (λ (l : List _). length l) c.in_ok-of.ensures)))
