use Rattle.std.proofs.Common.{◌≡◌, ◌∙◌, List, ap, arith, false, length}
use Rattle.cf_collections.specs.Split.{front, last_passes}
use Rattle.cf_collections.proofs.Splits.{item_there, last_left, removed_there}
use Rattle.cf_collections.proofs.chunks.Chunk.remove.Goals as goal

pub remove-requires : goal.remove-requires
remove-requires g c =
    let there : last_passes (g.P.Probe.is_behind c.args.probe.now) c.self.inside.items.items ≡ false = ap (λ (l : List _). last_passes (g.P.Probe.is_behind c.args.probe.now) l) c.self.view_is ∙ c.requires.there in
    let at : c.count_before-place.result ≡ length (front (g.P.Probe.is_behind c.args.probe.now) c.self.inside.items.items) =
    c.count_before-place.ensures.count ∙ ap (λ (l : List _). length (front (g.P.Probe.is_behind c.args.probe.now) l)) c.deref.ensures.value in
    omega (arith, at, last_left (g.P.Probe.is_behind c.args.probe.now) c.self.inside.items.items there, c.deref.ensures.len, ap (λ (l : List _). length l) c.deref.ensures.value)

pub returns-clause-value : goal.returns-clause-value
returns-clause-value g c =
    let there : last_passes (g.P.Probe.is_behind c.args.probe.now) c.self.inside.items.items ≡ false = ap (λ (l : List _). last_passes (g.P.Probe.is_behind c.args.probe.now) l) c.self.view_is ∙ c.requires.there in
    let at : c.count_before-place.result ≡ length (front (g.P.Probe.is_behind c.args.probe.now) c.self.inside.items.items) =
    c.count_before-place.ensures.count ∙ ap (λ (l : List _). length (front (g.P.Probe.is_behind c.args.probe.now) l)) c.deref.ensures.value in
    rw (← c.self.view_is) (item_there (g.P.Probe.is_behind c.args.probe.now) c.self.inside.items.items c.deref.result.now c.count_before-place.result c.remove.result c.deref.ensures.value c.count_before-place.ensures.count
    (omega (arith, at, last_left (g.P.Probe.is_behind c.args.probe.now) c.self.inside.items.items there)) c.remove.ensures.value)

pub returns-clause-items : goal.returns-clause-items
returns-clause-items g c = rw (← c.self.view_is) (removed_there (g.P.Probe.is_behind c.args.probe.now) c.self.inside.items.items c.deref.result.now _ c.count_before-place.result c.deref.ensures.value c.count_before-place.ensures.count c.remove.ensures.items)
