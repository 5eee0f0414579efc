use Rattle.std.proofs.Common.{sym, subst, ◌∙◌}
use Rattle.cf_model.specs.State.{new_volume}
use Rattle.cf_volume_plain.proofs.NewPlain.{new_clusters, new_long}
use Rattle.cf_volume_plain.specs.Plains.{Blocks, plain_state}
use Rattle.cf_volume_points.specs.At.{At}
use Rattle.cf_volume_points.specs.Known.{Known}
use Rattle.cf_volume_plain.proofs.starts.start.Goals as goal

pub of_parts-requires : goal.of_parts-requires
of_parts-requires c = c.in_ok-parts.ensures.steady c.in_ok-ground.ground (new_long c.in_ok-ground.ground c.args.clusters c.args.aim c.in_ok-ground.ensures)

pub returns-in-Ok-clause-ok : goal.returns-in-Ok-clause-ok
returns-in-Ok-clause-ok c =
    subst (λ (b : Blocks). At (plain_state b) c.in-Ok.volume.known (new_volume c.args.clusters)) (sym c.in-Ok.ensures.ground)
    (subst (λ (k : Known). At (plain_state c.in_ok-ground.ground) k (new_volume c.args.clusters)) (sym c.in-Ok.ensures.known)
    (c.in_ok-parts.ensures.at c.in_ok-ground.ground (new_long c.in_ok-ground.ground c.args.clusters c.args.aim c.in_ok-ground.ensures)))

pub returns-in-Ok-clause-clusters : goal.returns-in-Ok-clause-clusters
returns-in-Ok-clause-clusters c = new_clusters c.in-Ok.volume.disk c.args.clusters c.args.aim (c.in-Ok.ensures.ground ∙ c.in_ok-ground.ensures)
