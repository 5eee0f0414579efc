use Rattle.std.proofs.Common.{◌∙◌, ◌++◌, ◌<◌, List, ap, arith, length, subst, sym, vec_len}
use Rattle.cf_collections.specs.Split.{AreFilled, flat}
use Rattle.cf_collections.proofs.ChunkEdits.{filled_push, flat_push, some_items}
use Rattle.cf_collections.proofs.chunked_lists.push_chunk.Goals as goal

pub returns-clause-ok : goal.returns-clause-ok
returns-clause-ok g c =
    ap (λ (l : List (List _)). flat l) c.in_ok-push.ensures.items ∙ flat_push c.args.chunks.now.items c.from_vec.result ∙ ap (λ (l : List _). flat c.args.chunks.now.items ++ l) c.from_vec.ensures

pub returns-clause-filled : goal.returns-clause-filled
returns-clause-filled g c =
    let some : 0 < vec_len c.args.items = some_items (vec_len c.args.items) c.is_empty.result c.is_empty.ensures c.if-is_empty.false in
    subst (λ (l : List (List _)). AreFilled l) (sym c.in_ok-push.ensures.items)
    (filled_push c.args.chunks.now.items c.from_vec.result c.requires (omega (arith, some, c.args.items.ok, ap (λ (l : List _). length l) c.from_vec.ensures)))
