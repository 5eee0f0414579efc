use Rattle.std.proofs.Common.{◌≡◌, ℕ, true, List, [], map, replicate, sym, ◌∙◌, subst, arith}
use Rattle.cf_clusters.specs.Roles.{Opens, is_free}
use Rattle.cf_clusters.specs.Layout.{IsLayout, descending, uses_from}
use Rattle.cf_clusters.proofs.FreeOnes.{fresh_flags}
use Rattle.cf_clusters.proofs.Opening.{fresh_layout, fresh_opens, length-descending, descending_low}
use Rattle.cf_clusters.proofs.clusters.Data.fresh.Goals as goal

pub invariant_of-result : goal.invariant_of-result
invariant_of-result c =
    let n = c.args.clusters in
    record {
      layout = subst (λ (l : List ℕ). IsLayout l c.args.places.items 0 n n) (sym c.requires.order)
          (subst (λ (l : List ℕ). IsLayout (descending n) l 0 n n) (sym c.requires.places) (fresh_layout n (omega (arith, c.ranges.clusters.fits))));
      free_ones = c.requires.free ∙ subst (λ (l : List ℕ). replicate n true ≡ map is_free (uses_from 0 n n l)) (sym c.requires.places) (fresh_flags n (descending n) (length-descending n) (descending_low n));
    }

pub returns : goal.returns
returns c = subst (λ (l : List ℕ). Opens c.args.clusters [] (uses_from 0 c.args.clusters c.args.clusters l)) (sym c.requires.places) (fresh_opens c.args.clusters)
