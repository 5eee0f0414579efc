use Rattle.std.proofs.Common.{◌<◌, List, set, ap, ◌∙◌, ◌+◌, length, refl, arith}
use Rattle.cf_clusters.specs.declared.uses.Use.{Use}
use Rattle.cf_clusters.specs.declared.uses.Use.TheVariants.{Held, Staged}
use Rattle.cf_clusters.specs.Layout.{uses_from}
use Rattle.cf_clusters.specs.Roles.{use_of}
use Rattle.cf_clusters.proofs.FreeOnes.{flags_stay}
use Rattle.cf_clusters.proofs.Moves.{stands_at, unheld_view, unheld_layout}
use Rattle.cf_clusters.proofs.clusters.Data.lower_held.Goals as goal

pub invariant_of-self : goal.invariant_of-self
invariant_of-self c =
    let a = c.self.inside.free in
    let b = c.self.inside.staged in
    let d = c.self.inside.held in
    let order = c.self.inside.order.items in
    let places = c.self.inside.places.items in
    let low = c.requires.inside in
    let was = ap (λ (v : List Use). use_of v c.args.cluster) c.self.view_is ∙ c.requires.held in
    let at = stands_at a b d c.args.cluster c.index.result.now places c.args.self.now c.self.view_is low c.index.ensures in
    let less : c.args.cluster < length (uses_from a b d places) = omega (arith, c.requires.inside, ap (λ (v : List Use). length v) c.self.view_is) in
    let view = unheld_view order places c.swap.new.order.items c.swap.new.places.items a b d c.args.cluster c.index.result.now c.self.invariant.layout at
    c.swap.ensures.inverse c.swap.ensures.size less was c.swap.ensures.places in
    let layout = unheld_layout order places c.swap.new.order.items c.swap.new.places.items a b d c.args.cluster c.index.result.now c.self.invariant.layout at
    c.swap.ensures.inverse c.swap.ensures.size less was c.swap.ensures.places in
    record {
      layout = layout;
      free_ones = flags_stay (uses_from a b d places) (uses_from a b (d + 1) c.swap.new.places.items) c.args.cluster Held Staged c.self.inside.free_numbers c.self.invariant.free_ones was refl view;
    }

pub returns : goal.returns
returns c =
    let a = c.self.inside.free in
    let b = c.self.inside.staged in
    let d = c.self.inside.held in
    let order = c.self.inside.order.items in
    let places = c.self.inside.places.items in
    let low = c.requires.inside in
    let was = ap (λ (v : List Use). use_of v c.args.cluster) c.self.view_is ∙ c.requires.held in
    let at = stands_at a b d c.args.cluster c.index.result.now places c.args.self.now c.self.view_is low c.index.ensures in
    let less : c.args.cluster < length (uses_from a b d places) = omega (arith, c.requires.inside, ap (λ (v : List Use). length v) c.self.view_is) in
    unheld_view order places c.swap.new.order.items c.swap.new.places.items a b d c.args.cluster c.index.result.now c.self.invariant.layout at
    c.swap.ensures.inverse c.swap.ensures.size less was c.swap.ensures.places
    ∙ ap (λ (v : List Use). set v c.args.cluster Staged) c.self.view_is
