use Rattle.std.proofs.Common.{◌≡◌, List, set, ap, ◌∙◌, ◌-◌}
use Rattle.cf_clusters.specs.declared.uses.Use.{Use}
use Rattle.cf_clusters.specs.declared.uses.Use.TheVariants.{Free, Held, Staged}
use Rattle.cf_clusters.specs.Layout.{uses_from}
use Rattle.cf_clusters.specs.Roles.{use_of}
use Rattle.cf_clusters.proofs.FreeOnes.{flags_set, length-free}
use Rattle.cf_clusters.proofs.Moves.{inside, stands_at, staged_view, staged_layout}
use Rattle.cf_clusters.proofs.clusters.Data.hold.Goals as goal

pub remove-requires : goal.remove-requires
remove-requires c =
    let us = uses_from c.self.inside.free c.self.inside.staged c.self.inside.held c.self.inside.places.items in
    let was = ap (λ (v : List Use). use_of v c.args.cluster) c.self.view_is ∙ c.requires in
    length-free us c.self.inside.free_numbers c.args.cluster c.self.invariant.free_ones (inside us c.args.cluster Free was (λ (z : Held ≡ Free). cc))

pub invariant_of-self : goal.invariant_of-self
invariant_of-self c =
    let a = c.self.inside.free in
    let b = c.self.inside.staged in
    let d = c.self.inside.held in
    let order = c.self.inside.order.items in
    let places = c.self.inside.places.items in
    let low = (inside c.args.self.now c.args.cluster Free c.requires (λ (z : Held ≡ Free). cc)) in
    let was = ap (λ (v : List Use). use_of v c.args.cluster) c.self.view_is ∙ c.requires in
    let at = stands_at a b d c.args.cluster c.index.result.now places c.args.self.now c.self.view_is low c.index.ensures in
    let view = staged_view order places c.swap.new.order.items c.swap.new.places.items a b d c.args.cluster c.index.result.now c.self.invariant.layout at
    c.swap.ensures.inverse c.swap.ensures.size was c.swap.ensures.places in
    let layout = staged_layout order places c.swap.new.order.items c.swap.new.places.items a b d c.args.cluster c.index.result.now c.self.invariant.layout at
    c.swap.ensures.inverse c.swap.ensures.size was c.swap.ensures.places in
    record {
      layout = layout;
      free_ones = flags_set (uses_from a b d places) (uses_from a (b - 1) d c.swap.new.places.items) c.args.cluster Staged c.self.inside.free_numbers c.remove.new.self c.self.invariant.free_ones view c.remove.ensures;
    }

pub returns : goal.returns
returns c =
    let a = c.self.inside.free in
    let b = c.self.inside.staged in
    let d = c.self.inside.held in
    let order = c.self.inside.order.items in
    let places = c.self.inside.places.items in
    let low = (inside c.args.self.now c.args.cluster Free c.requires (λ (z : Held ≡ Free). cc)) in
    let was = ap (λ (v : List Use). use_of v c.args.cluster) c.self.view_is ∙ c.requires in
    let at = stands_at a b d c.args.cluster c.index.result.now places c.args.self.now c.self.view_is low c.index.ensures in
    staged_view order places c.swap.new.order.items c.swap.new.places.items a b d c.args.cluster c.index.result.now c.self.invariant.layout at
    c.swap.ensures.inverse c.swap.ensures.size was c.swap.ensures.places
    ∙ ap (λ (v : List Use). set v c.args.cluster Staged) c.self.view_is
