use Rattle.std.proofs.Common.{◌≡◌, ℕ, Option, subst}
use Rattle.std.specs.Prelude.{MatchOption}
use Rattle.cf_clusters.specs.Roles.{dropped_at}
use Rattle.cf_volume_changes.proofs.emptied_blocks.drop_extent.Goals as goal

pub returns : goal.returns
returns c = record {
  before = c.pairs.ensures.rising;
  rising = c.pairs-2.ensures.rising;
  puts = c.take-cluster.ensures.after;
  uses = subst (λ (o : Option ℕ). MatchOption o (c.drop_cluster.new.held ≡ c.args.held.now) (λ k. c.drop_cluster.new.held ≡ dropped_at k c.args.held.now)) c.take-cluster.ensures.before c.drop_cluster.ensures;
}
