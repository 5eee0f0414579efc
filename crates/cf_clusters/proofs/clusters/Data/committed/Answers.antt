use Rattle.std.proofs.Common.{ℕ, List, ◌<◌, map, take, length, get_or, ap, sym, subst, ◌∙◌}
use Rattle.cf_clusters.specs.LeastNumbers.{added}
use Rattle.cf_clusters.specs.Roles.{committed}
use Rattle.cf_clusters.proofs.FreeOnes.{commit_flags, dropped_inside}
use Rattle.cf_clusters.proofs.Moves.{commit_view, commit_layout}
use Rattle.cf_clusters.proofs.clusters.Data.committed.Goals as goal

pub insert_all-requires : goal.insert_all-requires
insert_all-requires c =
    let i = c.self.inside in
    subst (λ (l : List ℕ). (k d : ℕ) → k < length (take i.free l) → get_or (take i.free l) k d < length i.free_numbers) (sym c.deref.ensures.value)
    (dropped_inside i.order.items i.places.items i.free i.staged i.held c.self.invariant.layout i.free_numbers c.self.invariant.free_ones)

pub invariant_of-self : goal.invariant_of-self
invariant_of-self c =
    let i = c.self.inside in
    record {
      layout = commit_layout i.order.items i.places.items i.free i.staged i.held c.self.invariant.layout;
      free_ones = c.insert_all.ensures ∙ ap (λ (l : List ℕ). added (take i.free l) i.free_numbers) c.deref.ensures.value
          ∙ commit_flags i.order.items i.places.items i.free i.staged i.held c.self.invariant.layout i.free_numbers c.self.invariant.free_ones;
    }

pub returns : goal.returns
returns c = commit_view c.self.inside.order.items c.self.inside.places.items c.self.inside.free c.self.inside.staged c.self.inside.held c.self.invariant.layout ∙ ap (map committed) c.self.view_is
