use Rattle.std.proofs.Common.{ℕ, set, get_or, ap, ◌∙◌}
use Rattle.std.proofs.lemmas.List.{get_or_read}
use Rattle.cf_clusters.proofs.Swaps.{swapped_places}
use Rattle.cf_clusters.proofs.orders.swap.Goals as goal

pub returns-clause-places : goal.returns-clause-places
returns-clause-places c =
    let order = c.args.order.now.items in
    let first = get_or_read order c.args.i c.index-first.result.now c.requires.first c.index-first.ensures 0 in
    let second = get_or_read order c.args.j c.index-second.result.now c.requires.second c.index-second.ensures 0 in
    ap (λ (n : ℕ). set (set c.args.places.now.items n c.args.j) c.index-second.result.now c.args.i) first
    ∙ ap (λ (n : ℕ). set (set c.args.places.now.items (get_or order c.args.i 0) c.args.j) n c.args.i) second
    ∙ swapped_places order c.args.places.now.items c.requires.inverse c.args.i c.args.j c.requires.first c.requires.second
