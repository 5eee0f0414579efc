use Rattle.std.proofs.Common.{◌∙◌, ◌<◌, List, ℕ, ap, map, subst, sym}
use Rattle.std.specs.Prelude.{All}
use Rattle.cf_volume_commit.proofs.OwnedClusters.{apart_in, inside_all}
use Rattle.cf_clusters.specs.Roles.{AreApart}
use Rattle.cf_model.specs.Standing.{clusters_of}
use Rattle.cf_table.specs.Spelling.{row_value}
use Rattle.cf_table.specs.declared.rows.Row.{Row}
use Rattle.cf_volume_commit.proofs.openings.data_of.Goals as goal

pub new-requires-clause-inside : goal.new-requires-clause-inside
new-requires-clause-inside c =
    subst (λ (l : List ℕ). All (λ k. k < c.args.clusters) l)
    (sym (c.deref.ensures.value ∙ c.in_ok-held.ensures ∙ ap (λ (l : List Row). clusters_of (map row_value l)) c.as_slice.ensures.value))
    (inside_all c.args.clusters (clusters_of (map row_value c.args.contents.now.rows.rows)) c.requires)

pub new-requires-clause-apart : goal.new-requires-clause-apart
new-requires-clause-apart c =
    subst AreApart
    (sym (c.deref.ensures.value ∙ c.in_ok-held.ensures ∙ ap (λ (l : List Row). clusters_of (map row_value l)) c.as_slice.ensures.value))
    (apart_in c.args.clusters (clusters_of (map row_value c.args.contents.now.rows.rows)) c.requires)
