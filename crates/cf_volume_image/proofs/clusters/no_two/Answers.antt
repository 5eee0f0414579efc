use Rattle.std.proofs.Common.{◌∙◌}
use Rattle.cf_volume_image.proofs.ClusterTests.{free_at_first}
use Rattle.cf_volume_image.proofs.clusters.no_two.Goals as goal

pub returns : goal.returns
returns c = c.take_each.ensures ∙ free_at_first c.args.limit _ c.args.clusters.now (c.deref_mut.ensures.value ∙ c.in_ok-taken.ensures)
