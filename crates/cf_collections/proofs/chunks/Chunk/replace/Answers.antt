use Rattle.std.proofs.Common.{◌≡◌, ◌∙◌, List, ap, arith, false, get_or, length, set, sym}
use Rattle.cf_collections.specs.Split.{front, last_passes}
use Rattle.cf_collections.proofs.Splits.{item_there, last_left, replaced_there}
use Rattle.cf_collections.proofs.chunks.Chunk.replace.Goals as goal

pub index_mut-requires : goal.index_mut-requires
index_mut-requires g c =
    let there : last_passes (g.O.Order.is_behind c.args.order.now c.args.item) c.self.inside.items.items ≡ false = ap (λ (l : List _). last_passes (g.O.Order.is_behind c.args.order.now c.args.item) l) c.self.view_is ∙ c.requires.there in
    let at : c.count_before-place.result ≡ length (front (g.O.Order.is_behind c.args.order.now c.args.item) c.self.inside.items.items) =
    c.count_before-place.ensures.count ∙ ap (λ (l : List _). length (front (g.O.Order.is_behind c.args.order.now c.args.item) l)) c.deref.ensures.value in
    omega (arith, at, last_left (g.O.Order.is_behind c.args.order.now c.args.item) c.self.inside.items.items there)

pub returns-clause-value : goal.returns-clause-value
returns-clause-value g c =
    let there : last_passes (g.O.Order.is_behind c.args.order.now c.args.item) c.self.inside.items.items ≡ false = ap (λ (l : List _). last_passes (g.O.Order.is_behind c.args.order.now c.args.item) l) c.self.view_is ∙ c.requires.there in
    let at : c.count_before-place.result ≡ length (front (g.O.Order.is_behind c.args.order.now c.args.item) c.self.inside.items.items) =
    c.count_before-place.ensures.count ∙ ap (λ (l : List _). length (front (g.O.Order.is_behind c.args.order.now c.args.item) l)) c.deref.ensures.value in
    rw (← c.self.view_is) (item_there (g.O.Order.is_behind c.args.order.now c.args.item) c.self.inside.items.items c.deref.result.now c.count_before-place.result c.replace.result c.deref.ensures.value c.count_before-place.ensures.count
    (omega (arith, at, last_left (g.O.Order.is_behind c.args.order.now c.args.item) c.self.inside.items.items there)) (c.replace.ensures.value ∙ c.index_mut.ensures.value ∙ ap (λ (d : _). get_or c.self.inside.items.items c.count_before-place.result d) (sym c.replace.ensures.value)))

pub returns-clause-items : goal.returns-clause-items
returns-clause-items g c =
    let there : last_passes (g.O.Order.is_behind c.args.order.now c.args.item) c.self.inside.items.items ≡ false = ap (λ (l : List _). last_passes (g.O.Order.is_behind c.args.order.now c.args.item) l) c.self.view_is ∙ c.requires.there in
    let at : c.count_before-place.result ≡ length (front (g.O.Order.is_behind c.args.order.now c.args.item) c.self.inside.items.items) =
    c.count_before-place.ensures.count ∙ ap (λ (l : List _). length (front (g.O.Order.is_behind c.args.order.now c.args.item) l)) c.deref.ensures.value in
    rw (← c.self.view_is) (replaced_there (g.O.Order.is_behind c.args.order.now c.args.item) c.self.inside.items.items c.deref.result.now _ c.count_before-place.result c.args.item c.deref.ensures.value c.count_before-place.ensures.count
    (omega (arith, at, last_left (g.O.Order.is_behind c.args.order.now c.args.item) c.self.inside.items.items there)) (ap (λ (a : _). set c.self.inside.items.items c.count_before-place.result a) c.replace.ensures.after))
